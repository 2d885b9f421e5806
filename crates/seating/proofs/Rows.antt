-- The first of some numbers in a row that pass a test, and what a loop over them wants.
use Prim.Native.Nat.{ℕ, zero, suc, ◌+◌, ◌-◌, ◌≤◌, ◌<◌}
use mathlib.Core.Path.{◌≡◌, refl, ap, ap₂}
use mathlib.Core.Logic.{◌⊎◌, inl, inr}
use mathlib.Core.Bool.{Bool, true, false, cond}
use native.Mathlib.Omega.{arith}
use lib.Dec.{ltb}
use borrow.Author.Tests.{ltb-true, ltb-false}
use Rattle.laws.proofs.Deciding.{cases, clash}

-- the first of n numbers from i that p holds of, and i + n where it holds of none
unfoldable pub first : (ℕ → Bool) → ℕ → ℕ → ℕ
first p i zero = i
first p i (suc n) = let r = first p (i + 1) n in cond (p i) i r

-- r is the first from i and below m, or m
pub record First (p : ℕ → Bool) (i m r : ℕ) : Type 0 where
  pub low : i ≤ r
  pub high : r ≤ m
  pub passed : (d : ℕ) → i ≤ d → d < r → p d ≡ false
  pub holds : r < m → p r ≡ true

pub first_is : (p : ℕ → Bool) (i n : ℕ) → First p i (i + n) (first p i n)
unfolding first
first_is p i zero = record { low = omega arith; high = omega arith; passed = λ d l h. absurd (omega arith); holds = λ h. absurd (omega arith) }
first_is p i (suc n) = go (p i) refl (first p (i + 1) n) (first_is p (i + 1) n)
  where
    go : (b : Bool) → p i ≡ b → (r : ℕ) → First p (i + 1) (i + 1 + n) r → First p i (i + suc n) (cond b i r)
    go true e r f = record { low = omega arith; high = omega arith; passed = λ d l h. absurd (omega arith); holds = λ h. e }
    go false e r f = record {
      low = omega (arith, f.low);
      high = omega (arith, f.high);
      passed = λ d l h. at d l h (cases (ltb i d));
      holds = λ h. f.holds (omega arith);
    }
      where
        at : (d : ℕ) → i ≤ d → d < r → (ltb i d ≡ true) ⊎ (ltb i d ≡ false) → p d ≡ false
        at d l h (inl t) = let k = ltb-true i d t in f.passed d (omega arith) h
        at d l h (inr t) = let k = ltb-false i d t in let q : d ≡ i = omega arith in rw q e

-- ---- the first below n

pub first_holds : (p : ℕ → Bool) (n : ℕ) → first p 0 n < n → p (first p 0 n) ≡ true
first_holds p n h = (first_is p 0 n).holds (omega arith)

pub first_hit : (p : ℕ → Bool) (n d : ℕ) → d < n → p d ≡ true → first p 0 n ≤ d
first_hit p n d l h = go (cases (ltb d (first p 0 n)))
  where
    go : (ltb d (first p 0 n) ≡ true) ⊎ (ltb d (first p 0 n) ≡ false) → first p 0 n ≤ d
    go (inl t) = clash h ((first_is p 0 n).passed d (omega arith) (ltb-true d (first p 0 n) t))
    go (inr t) = ltb-false d (first p 0 n) t

pub first_none : (p : ℕ → Bool) (n d : ℕ) → n ≤ first p 0 n → d < n → p d ≡ false
first_none p n d h l = (first_is p 0 n).passed d (omega arith) (omega arith)

pub first_ext : (p r : ℕ → Bool) (i n : ℕ) → ((j : ℕ) → j < i + n → p j ≡ r j) → first p i n ≡ first r i n
unfolding first
first_ext p r i zero h = refl
first_ext p r i (suc n) h = ap₂ (λ (t : Bool) (k : ℕ). cond t i k) (h i (omega arith)) (first_ext p r (i + 1) n (λ j l. h j (omega arith)))

-- ---- one number at a time, for a loop

one_more : (i m : ℕ) → i < m → m - i ≡ suc (m - (i + 1))
one_more i m h = omega arith

none_left : (i m : ℕ) → m ≤ i → m - i ≡ 0
none_left i m h = omega arith

pub goes_on : (p : ℕ → Bool) (i m : ℕ) → i < m → p i ≡ false → first p i (m - i) ≡ first p (i + 1) (m - (i + 1))
unfolding first
goes_on p i m h e = rw (one_more i m h, e)

pub stops : (p : ℕ → Bool) (i m : ℕ) → i < m → p i ≡ true → first p i (m - i) ≡ i
unfolding first
stops p i m h e = rw (one_more i m h, e)

pub ends : (p : ℕ → Bool) (i m : ℕ) → m ≤ i → first p i (m - i) ≡ i
unfolding first
ends p i m h = rw (none_left i m h)

pub begins : (p : ℕ → Bool) (m : ℕ) → first p 0 (m - 0) ≡ first p 0 m
begins p m = ap (first p 0) all
  where
    all : m - 0 ≡ m
    all = omega arith
