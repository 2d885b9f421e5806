-- What decides a claim: one test only, up to its value; tests of numbers; a test turned round, and two tests joined.
use Prim.Native.Nat.{ℕ, zero, suc, ◌≤◌, ◌<◌}
use mathlib.Core.Path.{◌≡◌, refl, sym, ◌∙◌, subst}
use mathlib.Core.Logic.{◌⊎◌, inl, inr}
use mathlib.Core.Bool.{Bool, true, false, not, ◌&&◌, ◌||◌, true≢false}
use native.Mathlib.Decide.{ℕ_discrete}
use native.Mathlib.Omega.{arith}
use lib.Dec.{eqb, ltb, leb}
use borrow.Author.Tests.{eqb-true, eqb-false, ltb-true, ltb-false, leb-true, leb-false}
use Rattle.laws.specs.Decides.{Decides}
use Rattle.laws.specs.Counting.{any_below}

pub clash {ℓ} : {A : Type ℓ} {b : Bool} → b ≡ true → b ≡ false → A
clash t f = absurd (true≢false (sym t ∙ f))

pub cases : (b : Bool) → (b ≡ true) ⊎ (b ≡ false)
cases true = inl refl
cases false = inr refl

-- a promise that names the result allows one
pub equal_same : {A : Type 0} {v r q : A} → r ≡ v → q ≡ v → r ≡ q
equal_same p q = p ∙ sym q

pub decides_same : {P : Type 0} {a b : Bool} → Decides P a → Decides P b → a ≡ b
decides_same {a = true} {b = true} p q = refl
decides_same {a = true} {b = false} p q = absurd (q.no refl (p.yes refl))
decides_same {a = false} {b = true} p q = absurd (p.no refl (q.yes refl))
decides_same {a = false} {b = false} p q = refl

-- where the claim holds the test is true
pub decides_yes : {P : Type 0} {b : Bool} → Decides P b → P → b ≡ true
decides_yes {b = true} d p = refl
decides_yes {b = false} d p = absurd (d.no refl p)

pub decides_true : {P : Type 0} → P → Decides P true
decides_true p = record { yes = λ _. p; no = λ f. clash refl f }

pub decides_false : {P : Type 0} → (P → ⊥) → Decides P false
decides_false n = record { yes = λ t. clash t refl; no = λ _. n }

pub decides_is : {P : Type 0} {a b : Bool} → a ≡ b → Decides P a → Decides P b
decides_is e d = rw e at d

pub decides_by : {P Q : Type 0} {b : Bool} → (P → Q) → (Q → P) → Decides P b → Decides Q b
decides_by f g d = record { yes = λ t. f (d.yes t); no = λ n q. d.no n (g q) }

pub decides_not : {P : Type 0} {b : Bool} → Decides P b → Decides (P → ⊥) (not b)
decides_not {b = true} d = decides_false (λ n. n (d.yes refl))
decides_not {b = false} d = decides_true (d.no refl)

pub decides_and : {P Q : Type 0} {a b : Bool} → Decides P a → Decides Q b → Decides (P × Q) (a && b)
decides_and {a = true} p q = decides_by (λ y. (p.yes refl, y)) (λ h. h.1) q
decides_and {a = false} p q = decides_false (λ h. p.no refl h.0)

pub decides_or : {P Q : Type 0} {a b : Bool} → Decides P a → Decides Q b → Decides (P ⊎ Q) (a || b)
decides_or {a = true} p q = decides_true (inl (p.yes refl))
decides_or {P} {Q} {a = false} {b} p q = decides_by inr left q
  where
    left : P ⊎ Q → Q
    left (inl h) = absurd (p.no refl h)
    left (inr h) = h

pub decides_eq : (a b : ℕ) → Decides (a ≡ b) (eqb a b)
decides_eq a b = record { yes = eqb-true a b; no = eqb-false a b }

pub decides_lt : (a b : ℕ) → Decides (a < b) (ltb a b)
decides_lt a b = record { yes = ltb-true a b; no = λ f l. let g = ltb-false a b f in omega arith }

pub decides_le : (a b : ℕ) → Decides (a ≤ b) (leb a b)
decides_le a b = record { yes = leb-true a b; no = λ f l. let g = leb-false a b f in omega arith }

pub decides_any : {P : ℕ → Type 0} {f : ℕ → Bool} (n : ℕ) → ((k : ℕ) → k < n → Decides (P k) (f k)) → Decides ((k : ℕ) × (k < n) × P k) (any_below f n)
unfolding any_below
decides_any zero h = decides_false (λ x. omega (arith, x.1))
decides_any {P} {f} (suc n) h = go (cases (f n)) (decides_any n (λ k l. h k (omega arith)))
  where
    go : (f n ≡ true) ⊎ (f n ≡ false) → Decides ((k : ℕ) × (k < n) × P k) (any_below f n) → Decides ((k : ℕ) × (k < suc n) × P k) (f n || any_below f n)
    go (inl y) d = rw y (decides_true (n, omega arith, (h n (omega arith)).yes y))
    go (inr z) d = rw z (decides_by (λ x. (x.0, omega (arith, x.1), x.2)) (λ x. at x (ℕ_discrete x.0 n)) d)
      where
        at : (x : (k : ℕ) × (k < suc n) × P k) → Dec (x.0 ≡ n) → (k : ℕ) × (k < n) × P k
        at x (yes e) = absurd ((h n (omega arith)).no z (subst P e x.2))
        at x (no e) = (x.0, omega (arith, x.1), x.2)
