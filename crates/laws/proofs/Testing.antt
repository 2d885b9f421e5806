-- Tests of numbers and tests joined, as facts.
use Prim.Native.Nat.{ℕ}
use mathlib.Core.Path.{◌≡◌, refl, sym, subst}
use mathlib.Core.Logic.{◌⊎◌, inl, inr, ◌≢◌}
use mathlib.Core.Bool.{Bool, true, false, not, ◌&&◌, ◌||◌}
use lib.Dec.{T, eqb, eqb→eq, eqb_refl}
use Rattle.laws.proofs.Deciding.{cases, clash}

pub T_true : (b : Bool) → T b → b ≡ true
T_true true t = refl
T_true false t = absurd t

pub true_T : (b : Bool) → b ≡ true → T b
true_T b h = subst T (sym h) tt

pub and_both : (a b : Bool) → a && b ≡ true → (a ≡ true) × (b ≡ true)
and_both true b h = (refl, h)
and_both false b h = clash h refl

pub both_and : {a b : Bool} → a ≡ true → b ≡ true → a && b ≡ true
both_and {a = true} {b} h k = k
both_and {a = false} {b} h k = h

pub and_true : (b : Bool) → b && true ≡ b
and_true true = refl
and_true false = refl

pub or_cases : {a b : Bool} → a || b ≡ true → (a ≡ true) ⊎ (b ≡ true)
or_cases {a = true} {b} h = inl refl
or_cases {a = false} {b} h = inr h

pub or_left : {a : Bool} (b : Bool) → a ≡ true → a || b ≡ true
or_left {a = true} b h = refl
or_left {a = false} b h = clash h refl

pub or_right : (a : Bool) {b : Bool} → b ≡ true → a || b ≡ true
or_right true {b} h = refl
or_right false {b} h = h

pub not_true : {a : Bool} → not a ≡ true → a ≡ false
not_true {a = true} h = clash h refl
not_true {a = false} h = refl

pub not_false : {a : Bool} → a ≡ false → not a ≡ true
not_false {a = true} h = clash refl h
not_false {a = false} h = refl

pub eqb_true : {a b : ℕ} → a ≡ b → eqb a b ≡ true
eqb_true {a} {b} h = T_true (eqb a b) (subst (λ (x : ℕ). T (eqb a x)) h (eqb_refl a))

pub eqb_eq : {a b : ℕ} → eqb a b ≡ true → a ≡ b
eqb_eq {a} {b} h = eqb→eq a b (true_T (eqb a b) h)

pub eqb_ne : {a b : ℕ} → eqb a b ≡ false → a ≢ b
eqb_ne h e = clash (eqb_true e) h

pub eqb_false : {a b : ℕ} → a ≢ b → eqb a b ≡ false
eqb_false {a} {b} h = go (cases (eqb a b))
  where
    go : (eqb a b ≡ true) ⊎ (eqb a b ≡ false) → eqb a b ≡ false
    go (inl t) = absurd (h (eqb_eq t))
    go (inr f) = f
