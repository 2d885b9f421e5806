-- The lowest core of a mask by its trailing zeros, and the lowest one that is not marked.
use Prim.Native.Nat.{ℕ, zero, suc, ◌-◌, ◌/◌, ◌%◌, ◌^◌, ◌<◌}
use mathlib.Core.Path.{◌≡◌, refl, sym, ap, ◌∙◌}
use mathlib.Core.Logic.{◌⊎◌, inl, inr}
use mathlib.Core.Bool.{Bool, true, false, not, ◌&&◌}
use native.Mathlib.Decide.{dec_lt}
use native.Mathlib.Nat.{pow-suc, not-suc-le-zero}
use native.Mathlib.Omega.{arith}
use lib.Bits.{bit_and}
use lib.Count.{count_trailing_zeros, trailing_le, under}
use lib.Dec.{eqb}
use Rattle.laws.proofs.Deciding.{cases, clash}
use Rattle.laws.proofs.Testing.{and_both, both_and, not_true, not_false, eqb_true}
use Rattle.masks.specs.Masks.{width, has, NextCore}
use Rattle.masks.proofs.Operators.{lowest_bit, half_shr, bit_lt, has_and}

-- ---- the cores that a mask has not

not_bit : (w m k : ℕ) → m < 2 ^ w → k < w → ((2 ^ w - 1) - m) / 2 ^ k % 2 ≡ 1 - m / 2 ^ k % 2
not_bit zero m k p q = absurd (omega arith)
not_bit (suc w) m zero p q = rw (lowest_bit, lowest_bit) (omega (arith, p, pow-suc 2 w))
not_bit (suc w) m (suc k) p q = rw (half_shr, half_shr m k) (ap (λ (n : ℕ). n / 2 ^ k % 2) high ∙ not_bit w (m / 2) k (omega (arith, p, pow-suc 2 w)) (omega arith))
  where
    high : ((2 ^ suc w - 1) - m) / 2 ≡ (2 ^ w - 1) - m / 2
    high = omega (arith, pow-suc 2 w)

flip : (b : ℕ) → b < 2 → eqb (1 - b) 1 ≡ not (eqb b 1)
flip zero p = refl
flip (suc zero) p = refl
flip (suc (suc b)) p = absurd (omega arith)

has_not : (w m k : ℕ) → m < 2 ^ w → k < w → has ((2 ^ w - 1) - m) k ≡ not (has m k)
has_not w m k p q = rw (not_bit w m k p q) (flip (m / 2 ^ k % 2) (bit_lt (m / 2 ^ k)))

-- ---- trailing zeros

has_half : (m k : ℕ) → has m (suc k) ≡ has (m / 2) k
has_half m k = ap (λ (n : ℕ). eqb (n % 2) 1) (half_shr m k)

zeros_at : (k m : ℕ) → count_trailing_zeros k m < k → has m (count_trailing_zeros k m) ≡ true
unfolding count_trailing_zeros
zeros_at zero m l = absurd (not-suc-le-zero l)
zeros_at (suc k) m l = go (m % 2) refl l (zeros_at k (m / 2))
  where
    go : (b : ℕ) → m % 2 ≡ b → under b (count_trailing_zeros k (m / 2)) < suc k → (count_trailing_zeros k (m / 2) < k → has (m / 2) (count_trailing_zeros k (m / 2)) ≡ true)
        → has m (under b (count_trailing_zeros k (m / 2))) ≡ true
    go zero e l f = has_half m (count_trailing_zeros k (m / 2)) ∙ f (omega arith)
    go (suc b) e l f = eqb_true {a = m / 2 ^ 0 % 2} {b = 1} (omega arith)

zeros_below : (k m j : ℕ) → j < count_trailing_zeros k m → has m j ≡ false
unfolding count_trailing_zeros
zeros_below zero m j l = absurd (not-suc-le-zero l)
zeros_below (suc k) m j l = go (m % 2) refl j l (zeros_below k (m / 2))
  where
    go : (b : ℕ) → m % 2 ≡ b → (j : ℕ) → j < under b (count_trailing_zeros k (m / 2)) → ((i : ℕ) → i < count_trailing_zeros k (m / 2) → has (m / 2) i ≡ false) → has m j ≡ false
    go (suc b) e j l f = absurd (not-suc-le-zero l)
    go zero e zero l f = rw (lowest_bit m, e)
    go zero e (suc j) l f = has_half m j ∙ f j (omega arith)

-- their number is one of the machine's
pub zeros_fit : (m : ℕ) → count_trailing_zeros width m < 2 ^ 64
zeros_fit m = omega (arith, trailing_le width m)

-- ---- the lowest core that is not marked

pub next_core_lem : (m marked : ℕ) → marked < 2 ^ width → NextCore m marked (count_trailing_zeros width (bit_and m ((2 ^ width - 1) - marked)))
next_core_lem m marked fits = record { within = trailing_le width both; unmarked = at; lower = below }
  where
    both : ℕ
    both = bit_and m ((2 ^ width - 1) - marked)

    meets : (k : ℕ) → k < width → has both k ≡ (has m k && not (has marked k))
    meets k l = has_and m ((2 ^ width - 1) - marked) k ∙ ap (λ (b : Bool). has m k && b) (has_not width marked k fits l)

    at : count_trailing_zeros width both < width → (has m (count_trailing_zeros width both) ≡ true) × (has marked (count_trailing_zeros width both) ≡ false)
    at l = let r = and_both (has m (count_trailing_zeros width both)) (not (has marked (count_trailing_zeros width both))) (sym (meets (count_trailing_zeros width both) l) ∙ zeros_at width both l) in (r.0, not_true r.1)

    below : (k : ℕ) → k < count_trailing_zeros width both → has m k ≡ true → has marked k ≡ true
    below k l h = go (cases (has marked k))
      where
        go : (has marked k ≡ true) ⊎ (has marked k ≡ false) → has marked k ≡ true
        go (inl i) = i
        go (inr i) = clash (meets k (let b = trailing_le width both in omega arith) ∙ both_and h (not_false i)) (zeros_below width both k l)

-- no two cores are the next one
pub next_same : {m marked r q : ℕ} → NextCore m marked r → NextCore m marked q → r ≡ q
next_same {m} {marked} {r} {q} R Q = go (dec_lt r q) (dec_lt q r)
  where
    before : {a b : ℕ} → NextCore m marked a → NextCore m marked b → a < b → ⊥
    before {a} {b} A B l = let k = A.unmarked (let w = B.within in omega arith) in clash (B.lower a l k.0) k.1

    go : Dec (r < q) → Dec (q < r) → r ≡ q
    go (yes l) e = absurd (before R Q l)
    go (no l) (yes e) = absurd (before Q R e)
    go (no l) (no e) = omega arith
