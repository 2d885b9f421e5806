-- The bits of what the machine's operators make of masks: two masks met or joined, one core added, a mask cut to its lowest bits.
use Prim.Native.Nat.compare
use Prim.Native.Nat.{ℕ, zero, suc, ◌+◌, ◌-◌, ◌*◌, ◌/◌, ◌%◌, ◌^◌, ◌≤◌, ◌<◌, min, max}
use mathlib.Core.Path.{◌≡◌, refl, sym, ap, ◌∙◌}
use mathlib.Core.Logic.{◌≢◌}
use mathlib.Core.Bool.{Bool, true, false, ◌&&◌, ◌||◌, cond}
use native.Mathlib.Decide.{ℕ_discrete, dec_lt}
use native.Mathlib.Nat.{pow-suc, zero-div, one-mul, mul-mod_left, div-lt_iff_lt-mul}
use native.Mathlib.Numerals.{one-add}
use native.Mathlib.Omega.{arith}
use lib.Arith.{digits_mod}
use lib.Bits.{bit_and, bit_or, and_step, or_step, and_shr, or_shr, and_mask, or_add_and, and_le_r}
use lib.Dec.{eqb, ltb}
use lib.Pow.{pow_pos, pow_mono, shl-shr, shr-shr, shl_exact}
use borrow.Author.Tests.{ne_eqb, lt-ltb, le-ltb}
use Rattle.laws.proofs.Deciding.{clash}
use Rattle.laws.proofs.Testing.{and_both, both_and}
use Rattle.masks.specs.Masks.{has}
use Rattle.masks.proofs.Bits.{has_shifted, has_zero, below_power, some_bit}

pub lowest_bit : (m : ℕ) → m / 2 ^ 0 % 2 ≡ m % 2
lowest_bit m = omega arith

pub half_shr : (m k : ℕ) → m / 2 ^ suc k ≡ m / 2 / 2 ^ k
half_shr m k = rw (← one-add k) (sym (shr-shr m 1 k))

pub bit_lt : (m : ℕ) → m % 2 < 2
bit_lt m = omega arith

-- ---- two masks met

and_lowest : (a b : ℕ) → bit_and a b % 2 ≡ min (a % 2) (b % 2)
and_lowest a b = ap (λ (m : ℕ). m % 2) (and_step a b) ∙ digits_mod (bit_and (a / 2) (b / 2)) (small (a % 2) (b % 2) (bit_lt a))
  where
    small : (x y : ℕ) → x < 2 → min x y < 2
    small x y h = omega arith

both : (x y : ℕ) → x < 2 → y < 2 → eqb (min x y) 1 ≡ (eqb x 1 && eqb y 1)
both zero zero p q = refl
both zero (suc zero) p q = refl
both (suc zero) zero p q = refl
both (suc zero) (suc zero) p q = refl
both (suc (suc x)) y p q = absurd (omega arith)
both zero (suc (suc y)) p q = absurd (omega arith)
both (suc zero) (suc (suc y)) p q = absurd (omega arith)

pub has_and : (a b k : ℕ) → has (bit_and a b) k ≡ (has a k && has b k)
has_and a b k = rw (and_shr a b k, and_lowest (a / 2 ^ k) (b / 2 ^ k)) (both (a / 2 ^ k % 2) (b / 2 ^ k % 2) (bit_lt (a / 2 ^ k)) (bit_lt (b / 2 ^ k)))

-- they share a core where what they have in common is not empty, and only there
pub and_some : (a b : ℕ) → bit_and a b ≢ 0 → (k : ℕ) × (has a k ≡ true) × (has b k ≡ true)
and_some a b h =
    let r = some_bit (bit_and a b) h in
    let f = and_both (has a r.0) (has b r.0) (sym (has_and a b r.0) ∙ r.1) in
    (r.0, f.0, f.1)

pub and_none : (a b k : ℕ) → bit_and a b ≡ 0 → has a k ≡ true → has b k ≡ true → ⊥
and_none a b k z p q = clash (has_and a b k ∙ both_and p q) (ap (λ (m : ℕ). has m k) z ∙ has_zero k)

-- ---- two masks joined

or_lowest : (a b : ℕ) → bit_or a b % 2 ≡ max (a % 2) (b % 2)
or_lowest a b = ap (λ (m : ℕ). m % 2) (or_step a b) ∙ digits_mod (bit_or (a / 2) (b / 2)) (small (a % 2) (b % 2) (bit_lt a) (bit_lt b))
  where
    small : (x y : ℕ) → x < 2 → y < 2 → max x y < 2
    small x y h k = omega arith

either : (x y : ℕ) → x < 2 → y < 2 → eqb (max x y) 1 ≡ (eqb x 1 || eqb y 1)
either zero zero p q = refl
either zero (suc zero) p q = refl
either (suc zero) zero p q = refl
either (suc zero) (suc zero) p q = refl
either (suc (suc x)) y p q = absurd (omega arith)
either zero (suc (suc y)) p q = absurd (omega arith)
either (suc zero) (suc (suc y)) p q = absurd (omega arith)

pub has_or : (a b k : ℕ) → has (bit_or a b) k ≡ (has a k || has b k)
has_or a b k = rw (or_shr a b k, or_lowest (a / 2 ^ k) (b / 2 ^ k)) (either (a / 2 ^ k % 2) (b / 2 ^ k % 2) (bit_lt (a / 2 ^ k)) (bit_lt (b / 2 ^ k)))

pub or_grows : (a b : ℕ) → a ≤ bit_or a b
or_grows a b = omega (arith, or_add_and a b, and_le_r a b)

-- ---- one core

power_bit : (c k : ℕ) → 2 ^ c / 2 ^ k % 2 ≡ cond (eqb k c) 1 0
power_bit zero zero = refl
power_bit zero (suc k) = rw (half_shr 1 k, zero-div (2 ^ k), ne_eqb (suc k) 0 (λ e. omega arith))
power_bit (suc c) zero = rw (lowest_bit, ne_eqb 0 (suc c) (λ e. omega arith)) (omega (arith, pow-suc 2 c))
power_bit (suc c) (suc k) = rw (half_shr (2 ^ suc c) k, half, compare.suc-suc k c) (power_bit c k)
  where
    half : 2 ^ suc c / 2 ≡ 2 ^ c
    half = omega (arith, pow-suc 2 c)

-- the mask of core c alone
pub has_power : (c k : ℕ) → has (2 ^ c) k ≡ eqb k c
has_power c k = rw (power_bit c k) (back (eqb k c))
  where
    back : (t : Bool) → eqb (cond t 1 0) 1 ≡ t
    back true = refl
    back false = refl

-- the machine's one shifted up is that mask
pub shl_one : (w c : ℕ) → c < w → (1 * 2 ^ c) % 2 ^ w ≡ 2 ^ c
shl_one w c l = shl_exact {a = 1} 1 c w (omega arith) (omega arith) ∙ one-mul (2 ^ c)

-- ---- a mask cut to its n lowest bits

all_ones : (n k : ℕ) → has (2 ^ n - 1) k ≡ ltb k n
all_ones zero k = has_zero k ∙ sym (le-ltb k 0 (omega arith))
all_ones (suc n) zero = rw (lowest_bit, lt-ltb 0 (suc n) (omega arith), odd)
  where
    odd : (2 ^ suc n - 1) % 2 ≡ 1
    odd = let p = pow_pos n in omega (arith, pow-suc 2 n)
all_ones (suc n) (suc k) = rw (half_shr (2 ^ suc n - 1) k, half) (all_ones n k ∙ next (dec_lt k n))
  where
    next : Dec (k < n) → ltb k n ≡ ltb (suc k) (suc n)
    next (yes l) = lt-ltb k n l ∙ sym (lt-ltb (suc k) (suc n) (omega arith))
    next (no l) = le-ltb k n (omega arith) ∙ sym (le-ltb (suc k) (suc n) (omega arith))

    half : (2 ^ suc n - 1) / 2 ≡ 2 ^ n - 1
    half = let p = pow_pos n in omega (arith, pow-suc 2 n)

pub has_cut : (m n k : ℕ) → has (m % 2 ^ n) k ≡ (has m k && ltb k n)
has_cut m n k = rw (← and_mask m n) (has_and m (2 ^ n - 1) k ∙ ap (λ (t : Bool). has m k && t) (all_ones n k))

-- ---- masks of so many bits

-- a mask of which every core is below n has n bits
pub small_below : (n m : ℕ) → ((k : ℕ) → has m k ≡ true → k < n) → m < 2 ^ n
small_below n m h = go (ℕ_discrete (m / 2 ^ n) 0)
  where
    go : Dec (m / 2 ^ n ≡ 0) → m < 2 ^ n
    go (yes z) = let u : m < 1 * 2 ^ n = (div-lt_iff_lt-mul (pow_pos n)).0 (omega arith) in rw one-mul at u
    go (no z) = let r = some_bit (m / 2 ^ n) z in let l = h (n + r.0) (sym (has_shifted m n r.0) ∙ r.1) in absurd (omega arith)

-- two with the same bits are the same
pub same_bits : (w a b : ℕ) → a < 2 ^ w → b < 2 ^ w → ((k : ℕ) → has a k ≡ has b k) → a ≡ b
same_bits zero a b p q h = omega arith
same_bits (suc w) a b p q h =
    let low : a % 2 ≡ b % 2 = same_lowest (a % 2) (b % 2) (bit_lt a) (bit_lt b) (rw (lowest_bit a, lowest_bit b) at (h 0)) in
    let high : a / 2 ≡ b / 2 = same_bits w (a / 2) (b / 2) (omega (arith, pow-suc 2 w)) (omega (arith, pow-suc 2 w)) (λ k. rw (half_shr a k, half_shr b k) at (h (suc k))) in
    omega arith
  where
    same_lowest : (x y : ℕ) → x < 2 → y < 2 → eqb x 1 ≡ eqb y 1 → x ≡ y
    same_lowest zero zero p q e = refl
    same_lowest zero (suc zero) p q e = clash {b = true} refl (sym e)
    same_lowest (suc zero) zero p q e = clash {b = true} refl e
    same_lowest (suc zero) (suc zero) p q e = refl
    same_lowest (suc (suc x)) y p q e = absurd (omega arith)
    same_lowest zero (suc (suc y)) p q e = absurd (omega arith)
    same_lowest (suc zero) (suc (suc y)) p q e = absurd (omega arith)

-- and so are two of any size
pub same_cores : (a b : ℕ) → ((k : ℕ) → has a k ≡ has b k) → a ≡ b
same_cores a b h =
    let p = below_power a in
    let q = below_power b in
    let l : 2 ^ a ≤ 2 ^ (a + b) = pow_mono (omega arith) in
    let k : 2 ^ b ≤ 2 ^ (a + b) = pow_mono (omega arith) in
    same_bits (a + b) a b (omega arith) (omega arith) h

-- ---- a mask shifted up

pub has_up : (m j k : ℕ) → has (m * 2 ^ j) (j + k) ≡ has m k
has_up m j k = sym (has_shifted (m * 2 ^ j) j k) ∙ ap (λ (n : ℕ). has n k) (shl-shr m j)

-- it has no bit below those
pub up_none : (m j k : ℕ) → k < j → has (m * 2 ^ j) k ≡ true → ⊥
up_none m j k l h = clash (has_cut (m * 2 ^ j) j k ∙ both_and h (lt-ltb k j l)) (ap (λ (n : ℕ). has n k) (mul-mod_left m (2 ^ j)) ∙ has_zero k)
