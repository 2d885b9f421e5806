-- Where a number stands in a list: its place, what a change of one place does to it, and lists in which no two places hold the same.
use Prim.Native.Nat.{ℕ, zero, suc, ◌≤◌, ◌<◌}
use mathlib.Core.Path.{◌≡◌, sym, ◌∙◌}
use mathlib.Core.Logic.{◌≢◌, inl, inr}
use mathlib.Core.List.{List, [], ◌∷◌}
use native.Mathlib.Decide.{dec_lt}
use native.Mathlib.Omega.{arith}
use lib.ListN.{length, get_or, set, length-set}
use lib.Seq.{get_or-set_same, get_or-set_other}
use lib.Dec.{eqb}
use borrow.Author.Tests.{eqb-true, eqb-false, lt-ltb}
use Rattle.std.specs.Prelude.{◌==◌, Some, None, position}
use Rattle.std.proofs.lemmas.List.Quantifiers.{position-Some}
use Rattle.std.proofs.lemmas.List.Folds.{position_or_len-set}
use Rattle.std.proofs.lemmas.List.Sums.{passes_at_first, fails_before_first, position_or_len_is, prefix_len-le-length}
use Rattle.laws.specs.Lists.{In, Distinct}
use Rattle.laws.proofs.Testing.{eqb_true, eqb_false}
use Rattle.order.specs.ComesBefore.{place_in}

-- ---- the place: the first that holds the number

pub place_le : (l : List ℕ) (t : ℕ) → place_in l t ≤ length l
place_le l t = prefix_len-le-length _ l

pub place_holds : (l : List ℕ) (t z : ℕ) → place_in l t < length l → get_or l (place_in l t) z ≡ t
place_holds l t z h = eqb-true _ _ (passes_at_first (λ a. eqb a t) l z h)

pub before_place : (l : List ℕ) (t z : ℕ) {j : ℕ} → j < place_in l t → get_or l j z ≢ t
before_place l t z {j} h = eqb-false _ _ (fails_before_first (λ a. eqb a t) l j z h)

-- a place that holds the number is not before it
pub place_most : (l : List ℕ) (t z : ℕ) {k : ℕ} → get_or l k z ≡ t → place_in l t ≤ k
place_most l t z {k} h = go (dec_lt k (place_in l t))
  where
    go : Dec (k < place_in l t) → place_in l t ≤ k
    go (yes b) = absurd (before_place l t z b h)
    go (no b) = omega arith

pub place_is : (l : List ℕ) (t z : ℕ) {k : ℕ} → k < length l → get_or l k z ≡ t → ((j : ℕ) → j < k → get_or l j z ≢ t) → place_in l t ≡ k
place_is l t z {k} within h before = position_or_len_is (λ a. eqb a t) l k z (omega arith) (λ j b. eqb_false (before j b)) (λ b. eqb_true h)

pub place_none : (l : List ℕ) (t z : ℕ) → ((j : ℕ) → j < length l → get_or l j z ≢ t) → place_in l t ≡ length l
place_none l t z nowhere = position_or_len_is (λ a. eqb a t) l (length l) z (omega arith) (λ j b. eqb_false (nowhere j b)) (λ b. absurd (omega arith))

-- what a search for the number answers

pub place_some : (l : List ℕ) (t : ℕ) {k : ℕ} → position (λ a. a == t) l ≡ Some k → (place_in l t ≡ k) × (k < length l)
place_some l t {k} e = let s = position-Some (λ a. a == t) l k 0 e in (place_is l t 0 s.0 (eqb-true _ _ s.1) (λ j b. eqb-false _ _ (s.2 j b)), s.0)

pub place_absent : (l : List ℕ) (t : ℕ) → position (λ a. a == t) l ≡ None → length l ≤ place_in l t
place_absent l t e = go (dec_lt (place_in l t) (length l))
  where
    go : Dec (place_in l t < length l) → length l ≤ place_in l t
    go (yes b) = let n = rw lt-ltb at e in cc
    go (no b) = omega arith

-- ---- one place gets another number

pub place_set_other : (l : List ℕ) (k v t z : ℕ) → v ≢ t → get_or l k z ≢ t → place_in (set l k v) t ≡ place_in l t
place_set_other l k v t z n m = position_or_len-set (λ a. eqb a t) l k v z (eqb_false n ∙ sym (eqb_false m))

pub place_set_here : (l : List ℕ) (k v z : ℕ) → k < length l → ((j : ℕ) → j < k → get_or l j z ≢ v) → place_in (set l k v) v ≡ k
place_set_here l k v z within before =
    place_is (set l k v) v z (rw (length-set l k v) within) (get_or-set_same l k v z within) (λ j b. rw (get_or-set_other l k j v z (λ e. omega (arith, e, b))) (before j b))

-- ---- different numbers at different places

pub in_stands : (l : List ℕ) (z : ℕ) {t : ℕ} → In t l → (k : ℕ) × (k < length l) × (get_or l k z ≡ t)
in_stands [] z i = absurd i
in_stands (a ∷ l) z (inl e) = (zero, omega arith, sym e)
in_stands (a ∷ l) z (inr i) = let r = in_stands l z i in (suc r.0, omega (arith, r.1), r.2)

pub different_distinct : (l : List ℕ) (z : ℕ) → ((j k : ℕ) → j < k → k < length l → get_or l j z ≢ get_or l k z) → Distinct l
different_distinct [] z h = tt
different_distinct (a ∷ l) z h = (once, different_distinct l z (λ j k b w. h (suc j) (suc k) (omega arith) (omega arith)))
  where
    once : In a l → ⊥
    once i = let r = in_stands l z i in h zero (suc r.0) (omega arith) (omega (arith, r.1)) (sym r.2)
