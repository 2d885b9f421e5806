-- Decimal text: how it grows by a digit, that it reads back as its number, and which characters and how many it has.
use Prim.Native.Nat.{ℕ, zero, suc, ◌+◌, ◌-◌, ◌*◌, ◌/◌, ◌%◌, ◌^◌, ◌≤◌, ◌<◌}
use mathlib.Core.Path.{◌≡◌, refl, sym, ap, ◌∙◌}
use mathlib.Core.Logic.{◌⊎◌, inl, inr}
use mathlib.Core.List.{List, [], ◌∷◌, ◌++◌, append_assoc}
use native.Mathlib.Nat.{not-suc-le-zero, pow-suc}
use native.Mathlib.Decide.{dec_lt}
use native.Mathlib.Omega.{arith}
use lib.ListN.{length, length-append}
use borrow.Author.Tests.{lt-ltb, le-ltb}
use Rattle.std.specs.Prelude.{decimal as library_decimal}
use Rattle.std.proofs.lemmas.Fmt.{AppendsLastDigit, decimal_from_appends, length-decimal-le_succ}
use Rattle.laws.specs.Lists.{In}
use Rattle.laws.proofs.Lists.{in_append}
use Rattle.decimals.specs.Decimal.{digit, spelled, decimal, value_after, value}

-- any number of digits that is enough gives the same text
spelled_same : (j k n : ℕ) → n < j → n < k → spelled j n ≡ spelled k n
unfolding spelled
spelled_same zero k n a b = absurd (not-suc-le-zero a)
spelled_same (suc j) zero n a b = absurd (not-suc-le-zero b)
spelled_same (suc j) (suc k) n a b = go (dec_lt n 10) (spelled_same j k (n / 10))
  where
    go : Dec (n < 10) → (n / 10 < j → n / 10 < k → spelled j (n / 10) ≡ spelled k (n / 10)) → spelled (suc j) n ≡ spelled (suc k) n
    go (yes l) same = rw (lt-ltb n 10 l)
    go (no l) same = rw (le-ltb n 10 (omega arith), same (omega arith) (omega arith))

pub decimal_small : (n : ℕ) → n < 10 → decimal n ≡ digit n ∷ []
unfolding decimal spelled
decimal_small n l = rw (lt-ltb n 10 l)

pub decimal_more : (n : ℕ) → 10 ≤ n → decimal n ≡ decimal (n / 10) ++ (digit (n % 10) ∷ [])
unfolding decimal spelled
decimal_more n l = rw (le-ltb n 10 l, spelled_same n (suc (n / 10)) (n / 10) (omega arith) (omega arith))

-- it is what the library writes of a number of 64 bits
pub decimal_is : (n : ℕ) → n < 2 ^ 64 → library_decimal n ≡ decimal n
unfolding decimal spelled
decimal_is n l = sym (decimal_from_appends spelled digit_by_digit (suc n) n l (omega (arith, length-decimal-le_succ n l)))
  where
    digit_by_digit : AppendsLastDigit spelled
    digit_by_digit = record { one = λ k n l. rw (lt-ltb n 10 l) refl; more = λ k n l. rw (le-ltb n 10 l) refl }

pub length_more : (n : ℕ) → 10 ≤ n → length (decimal n) ≡ length (decimal (n / 10)) + 1
length_more n l = rw (decimal_more n l, length-append)

pub length_small : (n : ℕ) → n < 10 → length (decimal n) ≡ 1
length_small n l = rw (decimal_small n l) refl

-- put behind a text digit by digit
pub small_put : (n : ℕ) (text : List ℕ) {all : List ℕ} → n < 10 → all ≡ text ++ (digit n ∷ []) → all ≡ text ++ decimal n
small_put n text l e = rw (decimal_small n l) e

pub more_put : (n : ℕ) (text : List ℕ) {tenth all : List ℕ} → 10 ≤ n → tenth ≡ text ++ decimal (n / 10) → all ≡ tenth ++ (digit (n % 10) ∷ []) → all ≡ text ++ decimal n
more_put n text l t e = rw (e, t, decimal_more n l) (append_assoc text (decimal (n / 10)) (digit (n % 10) ∷ []))

-- what holds of one digit, and of a number if of its tenth, holds of every number
by_digits : {P : ℕ → Type 0} → ((n : ℕ) → n < 10 → P n) → ((n : ℕ) → 10 ≤ n → P (n / 10) → P n) → (n : ℕ) → P n
by_digits {P} one more n = go (suc n) n (omega arith)
  where
    go : (k n : ℕ) → n < k → P n
    go zero n l = absurd (not-suc-le-zero l)
    go (suc k) n l = at (dec_lt n 10) (go k (n / 10))
      where
        at : Dec (n < 10) → (n / 10 < k → P (n / 10)) → P n
        at (yes s) tenth = one n s
        at (no s) tenth = more n (omega arith) (tenth (omega arith))

pub decimal_some : (n : ℕ) → 1 ≤ length (decimal n)
decimal_some = by_digits (λ n l. rw (decimal_small n l) (omega arith)) (λ n l tenth. rw (length_more n l) (omega arith))

-- ---- the number that a text says

pub value_append : (v : ℕ) (s t : List ℕ) → value_after v (s ++ t) ≡ value_after (value_after v s) t
value_append v [] t = refl
value_append v (c ∷ s) t = value_append (10 * v + (c - 48)) s t

-- the text of a number reads back as that number
pub value_decimal : (n : ℕ) → value (decimal n) ≡ n
value_decimal = by_digits
    (λ n l. rw (decimal_small n l) (omega arith))
    (λ n l tenth. rw (decimal_more n l, value_append, tenth) (omega arith))

pub decimal_same : (m n : ℕ) → decimal m ≡ decimal n → m ≡ n
decimal_same m n e = sym (value_decimal m) ∙ ap value e ∙ value_decimal n

-- ---- its characters

pub decimal_digits : (n c : ℕ) → In c (decimal n) → (48 ≤ c) × (c ≤ 57)
decimal_digits = by_digits
    {P = λ n. (c : ℕ) → In c (decimal n) → (48 ≤ c) × (c ≤ 57)}
    (λ n l. rw (decimal_small n l) (λ c. only n c l))
    (λ n l tenth. rw (decimal_more n l) (λ c i. or n c tenth (in_append c (decimal (n / 10)) (digit (n % 10) ∷ []) i)))
  where
    only : (d c : ℕ) → d < 10 → In c (digit d ∷ []) → (48 ≤ c) × (c ≤ 57)
    only d c l (inl e) = (omega arith, omega arith)
    only d c l (inr i) = absurd i

    or : (n c : ℕ) → ((c : ℕ) → In c (decimal (n / 10)) → (48 ≤ c) × (c ≤ 57)) → In c (decimal (n / 10)) ⊎ In c (digit (n % 10) ∷ []) → (48 ≤ c) × (c ≤ 57)
    or n c tenth (inl i) = tenth c i
    or n c tenth (inr i) = only (n % 10) c (omega arith) i

-- only the text of 0 begins with the character of 0
pub no_leading_zero : (n : ℕ) (t : List ℕ) → decimal n ≡ digit 0 ∷ t → n ≡ 0
no_leading_zero = by_digits
    {P = λ n. (t : List ℕ) → decimal n ≡ digit 0 ∷ t → n ≡ 0}
    (λ n l t. rw (decimal_small n l) (λ e. let same : digit n ≡ digit 0 = cc in omega arith))
    (λ n l tenth t. rw (decimal_more n l) (go n l tenth (decimal (n / 10)) refl t))
  where
    go : (n : ℕ) → 10 ≤ n → ((t : List ℕ) → decimal (n / 10) ≡ digit 0 ∷ t → n / 10 ≡ 0) → (s : List ℕ) → decimal (n / 10) ≡ s → (t : List ℕ)
        → s ++ (digit (n % 10) ∷ []) ≡ digit 0 ∷ t → n ≡ 0
    go n l tenth [] e t h = omega (arith, decimal_some (n / 10), ap length e)
    go n l tenth (c ∷ s) e t h = omega (arith, tenth s (cc))

-- ---- how many they are

pub decimal_length : (k n : ℕ) → 1 ≤ k → n < 10 ^ k → length (decimal n) ≤ k
decimal_length zero n p l = absurd (not-suc-le-zero p)
decimal_length (suc k) n p l = go (dec_lt n 10) k l (decimal_length k (n / 10))
  where
    go : Dec (n < 10) → (k : ℕ) → n < 10 ^ suc k → (1 ≤ k → n / 10 < 10 ^ k → length (decimal (n / 10)) ≤ k) → length (decimal n) ≤ suc k
    go (yes s) k l tenth = rw (decimal_small n s) (omega arith)
    go (no s) zero l tenth = omega arith
    go (no s) (suc k) l tenth = rw (length_more n (omega arith)) (omega (arith, tenth (omega arith) (omega (arith, pow-suc 10 (suc k)))))
