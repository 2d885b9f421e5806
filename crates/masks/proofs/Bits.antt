-- The bits of a number at and above a place are those of the number shifted down to that place.
use Prim.Native.Nat.{ℕ, zero, suc, ◌+◌, ◌-◌, ◌/◌, ◌%◌, ◌^◌, ◌≤◌, ◌<◌}
use mathlib.Core.Path.{◌≡◌, sym, ap, ◌∙◌}
use mathlib.Core.Logic.{◌≢◌}
use mathlib.Core.Bool.{true, false, not}
use native.Mathlib.Decide.{ℕ_discrete, dec_lt}
use native.Mathlib.Nat.{pow-suc, zero-div, div-eq_of_lt}
use native.Mathlib.Omega.{arith}
use lib.Dec.{eqb}
use lib.Pow.{pow_mono, shr-shr}
use borrow.Author.Tests.{eq-eqb}
use Rattle.laws.specs.Decides.{Decides}
use Rattle.laws.proofs.Deciding.{clash, decides_by, decides_not, decides_eq}
use Rattle.masks.specs.Masks.{has, NamesMissing, LegalMask}

pub has_shifted : (m j k : ℕ) → has (m / 2 ^ j) k ≡ has m (j + k)
has_shifted m j k = ap (λ (n : ℕ). eqb (n % 2) 1) (shr-shr m j k)

pub has_zero : (k : ℕ) → has 0 k ≡ false
has_zero k = rw (zero-div (2 ^ k))

-- no bit at or above the width
pub has_beyond : (w m k : ℕ) → m < 2 ^ w → w ≤ k → has m k ≡ false
has_beyond w m k h l = rw (div-eq_of_lt (fits (pow_mono l)))
  where
    fits : 2 ^ w ≤ 2 ^ k → m < 2 ^ k
    fits p = omega arith

-- a number other than 0 has a bit
bit_under : (w m : ℕ) → m < 2 ^ w → m ≢ 0 → (k : ℕ) × (has m k ≡ true)
bit_under zero m h n = absurd (n (omega arith))
bit_under (suc w) m h n = go (ℕ_discrete (m % 2) 1) (bit_under w (m / 2) (omega (arith, pow-suc 2 w)))
  where
    go : Dec (m % 2 ≡ 1) → (m / 2 ≢ 0 → (k : ℕ) × (has (m / 2) k ≡ true)) → (k : ℕ) × (has m k ≡ true)
    go (yes e) rest = (0, eq-eqb (m / 2 ^ 0 % 2) 1 (omega arith))
    go (no e) rest =
        let r = rest (λ z. n (omega arith)) in
        (1 + r.0, sym (has_shifted m 1 r.0) ∙ r.1)

pub below_power : (m : ℕ) → m < 2 ^ m
below_power zero = omega arith
below_power (suc m) = let h = below_power m in omega (arith, pow-suc 2 m)

pub some_bit : (m : ℕ) → m ≢ 0 → (k : ℕ) × (has m k ≡ true)
some_bit m = bit_under m m (below_power m)

names_yes : (count m : ℕ) → m / 2 ^ count ≢ 0 → NamesMissing count m
names_yes count m n =
    let r = some_bit (m / 2 ^ count) n in
    record { core = count + r.0; missing = omega arith; named = sym (has_shifted m count r.0) ∙ r.1 }

names_no : (count m : ℕ) → m / 2 ^ count ≡ 0 → NamesMissing count m → ⊥
names_no count m z h = clash h.named (ap (has m) split ∙ sym (has_shifted m count above) ∙ ap (λ (n : ℕ). has n above) z ∙ has_zero above)
  where
    above : ℕ
    above = h.core - count

    split : h.core ≡ count + (h.core - count)
    split = omega (arith, h.missing)

-- the machine's test for a missing core
pub names_test : (count m : ℕ) → Decides (NamesMissing count m) (not (eqb (m / 2 ^ count) 0))
names_test count m = decides_by (names_yes count m) (λ h z. names_no count m z h) (decides_not (decides_eq (m / 2 ^ count) 0))

-- a mask that is not empty is legal where it names no missing core
pub legal_mask : {count m : ℕ} → m ≢ 0 → (NamesMissing count m → ⊥) → LegalMask count m
legal_mask {count} {m} n h = record { not_empty = n; none_missing = λ k b. go k b (dec_lt k count) }
  where
    go : (k : ℕ) → has m k ≡ true → Dec (k < count) → k < count
    go k b (yes l) = l
    go k b (no l) = absurd (h (record { core = k; missing = omega arith; named = b }))

pub missing_illegal : {count m : ℕ} → NamesMissing count m → LegalMask count m → ⊥
missing_illegal h l = let k = l.none_missing h.core h.named in omega (arith, h.missing)

-- a mask of w bits names no core at or above a count of w or more
pub none_beyond : (w : ℕ) {count m : ℕ} → m < 2 ^ w → w ≤ count → NamesMissing count m → ⊥
none_beyond w {m} h l n = clash n.named (has_beyond w m n.core h (omega (arith, n.missing)))
