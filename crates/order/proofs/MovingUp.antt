-- A number leaves a list and the later ones move up: what stands where afterwards, that the others keep their order, and the list made
-- place by place.
use Prim.Native.Nat.{ℕ, zero, suc, ◌+◌, ◌-◌, ◌≤◌, ◌<◌}
use mathlib.Core.Path.{◌≡◌, refl, sym, ap, ◌∙◌}
use mathlib.Core.Logic.{◌≢◌, ◌⊎◌, inl, inr}
use mathlib.Core.Bool.{true, false, cond}
use mathlib.Core.List.{List, [], ◌∷◌, ◌++◌}
use native.Mathlib.Decide.{ℕ_discrete, dec_lt}
use native.Mathlib.Omega.{arith}
use native.Mathlib.Numerals.{add-one, one-add}
use lib.ListN.{length, get_or, set, length-set, length-append, take, drop}
use lib.Seq.{get_or-set_same, get_or-set_other, ext_get_or, set-append_seam, drop-cons}
use lib.Dec.{ltb}
use borrow.Rule.Slice.PartMut.{put_mid}
use Rattle.std.proofs.lemmas.List.{length-take, length-drop, take_all, drop_all, drop-drop, append_assoc}
use borrow.Author.Tests.{ltb-true, ltb-false}
use Rattle.laws.proofs.Testing.{eqb_true, eqb_false}
use Rattle.laws.proofs.Deciding.{cases}
use Rattle.dispatcher.specs.Limits.{none}
use Rattle.order.specs.ComesBefore.{place_in}
use Rattle.order.specs.Changes.{leave_order}
use Rattle.order.proofs.Standing.{place_holds, before_place, place_is}

-- ---- places: what stands at place k when the number at place p has left came from there

pub came_from : ℕ → ℕ → ℕ
came_from p k = cond (ltb k p) k (suc k)

-- it stayed, or it moved up
abbrev Came : ℕ → ℕ → Type 0
Came p k = ((k < p) × (came_from p k ≡ k)) ⊎ ((p ≤ k) × (came_from p k ≡ suc k))

came_cases : (p k : ℕ) → Came p k
unfolding came_from
came_cases p k = go (cases (ltb k p))
  where
    go : (ltb k p ≡ true) ⊎ (ltb k p ≡ false) → Came p k
    go (inl y) = inl (ltb-true k p y, rw y)
    go (inr n) = inr (ltb-false k p n, rw n)

pub came_rises : (p : ℕ) {j k : ℕ} → j < k → came_from p j < came_from p k
came_rises p {j} {k} l = go (came_cases p j) (came_cases p k)
  where
    go : Came p j → Came p k → came_from p j < came_from p k
    go (inl (a, b)) (inl (c, d)) = omega arith
    go (inl (a, b)) (inr (c, d)) = omega arith
    go (inr (a, b)) (inl (c, d)) = omega arith
    go (inr (a, b)) (inr (c, d)) = omega arith

pub came_falls : (p : ℕ) {j k : ℕ} → came_from p j < came_from p k → j < k
came_falls p {j} {k} l = go (dec_lt k j) (ℕ_discrete k j)
  where
    go : Dec (k < j) → Dec (k ≡ j) → j < k
    go (yes b) e = omega (arith, came_rises p b)
    go (no b) (yes e) = let m : came_from p j < came_from p j = rw e at l in absurd (omega arith)
    go (no b) (no e) = omega arith

-- no place is left out but p
pub came_other : (p k : ℕ) → came_from p k ≢ p
came_other p k e = go (came_cases p k)
  where
    go : Came p k → ⊥
    go (inl (a, b)) = omega arith
    go (inr (a, b)) = omega arith

pub came_back : (p k : ℕ) → k ≢ p → (j : ℕ) × (came_from p j ≡ k) × (j ≤ k)
came_back p zero n = go (came_cases p zero)
  where
    go : Came p zero → (j : ℕ) × (came_from p j ≡ zero) × (j ≤ zero)
    go (inl (a, b)) = (zero, b, omega arith)
    go (inr (a, b)) = absurd (n (omega arith))
came_back p (suc k) n = go (came_cases p (suc k)) (came_cases p k)
  where
    go : Came p (suc k) → Came p k → (j : ℕ) × (came_from p j ≡ suc k) × (j ≤ suc k)
    go (inl (a, b)) r = (suc k, b, omega arith)
    go (inr (a, b)) (inr (c, d)) = (k, d, omega arith)
    go (inr (a, b)) (inl (c, d)) = absurd (n (omega arith))

-- ---- the list without it

pub length_leave : (l : List ℕ) (t : ℕ) → length (leave_order l t) ≡ length l
length_leave [] t = refl
length_leave (a ∷ l) t = go (ℕ_discrete a t) (length_leave l t)
  where
    go : Dec (a ≡ t) → length (leave_order l t) ≡ length l → length (leave_order (a ∷ l) t) ≡ suc (length l)
    go (yes e) h = rw (eqb_true e) (omega (arith, length-append l (none ∷ [])))
    go (no n) h = rw (eqb_false n) (omega arith)

get_or_end : (l : List ℕ) (k z : ℕ) → get_or (l ++ (z ∷ [])) k z ≡ get_or l k z
get_or_end [] zero z = refl
get_or_end [] (suc k) z = refl
get_or_end (a ∷ l) zero z = refl
get_or_end (a ∷ l) (suc k) z = get_or_end l k z

leave_before : (l : List ℕ) (t k : ℕ) → k < place_in l t → get_or (leave_order l t) k none ≡ get_or l k none
leave_before [] t k h = refl
leave_before (a ∷ l) t k h = go (ℕ_discrete a t) k h (leave_before l t)
  where
    go : Dec (a ≡ t) → (k : ℕ) → k < place_in (a ∷ l) t → ((i : ℕ) → i < place_in l t → get_or (leave_order l t) i none ≡ get_or l i none)
        → get_or (leave_order (a ∷ l) t) k none ≡ get_or (a ∷ l) k none
    go (yes e) k h f = let m : k < 0 = rw (eqb_true e) at h in absurd (omega arith)
    go (no n) zero h f = rw (eqb_false n)
    go (no n) (suc i) h f = let m : suc i < 1 + place_in l t = rw (eqb_false n) at h in rw (eqb_false n) (f i (omega arith))

leave_after : (l : List ℕ) (t k : ℕ) → place_in l t ≤ k → get_or (leave_order l t) k none ≡ get_or l (suc k) none
leave_after [] t k h = refl
leave_after (a ∷ l) t k h = go (ℕ_discrete a t) k h (leave_after l t)
  where
    go : Dec (a ≡ t) → (k : ℕ) → place_in (a ∷ l) t ≤ k → ((i : ℕ) → place_in l t ≤ i → get_or (leave_order l t) i none ≡ get_or l (suc i) none)
        → get_or (leave_order (a ∷ l) t) k none ≡ get_or l k none
    go (yes e) k h f = rw (eqb_true e) (get_or_end l k none)
    go (no n) zero h f = let m : 1 + place_in l t ≤ 0 = rw (eqb_false n) at h in absurd (omega arith)
    go (no n) (suc i) h f = let m : 1 + place_in l t ≤ suc i = rw (eqb_false n) at h in rw (eqb_false n) (f i (omega arith))

pub leave_at : (l : List ℕ) (t k : ℕ) → get_or (leave_order l t) k none ≡ get_or l (came_from (place_in l t) k) none
leave_at l t k = go (came_cases (place_in l t) k)
  where
    go : Came (place_in l t) k → get_or (leave_order l t) k none ≡ get_or l (came_from (place_in l t) k) none
    go (inl (a, b)) = rw b (leave_before l t k a)
    go (inr (a, b)) = rw b (leave_after l t k a)

-- the others keep their order
pub place_leave : (l : List ℕ) (t u : ℕ) → u ≢ t → place_in l u < length l → came_from (place_in l t) (place_in (leave_order l t) u) ≡ place_in l u
place_leave l t u n h = go (came_back (place_in l t) (place_in l u) apart)
  where
    apart : place_in l u ≢ place_in l t
    apart e = n (sym (place_holds l u none h) ∙ rw e (place_holds l t none (omega arith)))

    go : ((j : ℕ) × (came_from (place_in l t) j ≡ place_in l u) × (j ≤ place_in l u)) → came_from (place_in l t) (place_in (leave_order l t) u) ≡ place_in l u
    go (j, e, m) = rw (place_is (leave_order l t) u none within stands before) e
      where
        within : j < length (leave_order l t)
        within = omega (arith, length_leave l t)

        stands : get_or (leave_order l t) j none ≡ u
        stands = leave_at l t j ∙ rw e (place_holds l u none h)

        before : (i : ℕ) → i < j → get_or (leave_order l t) i none ≢ u
        before i b = rw (leave_at l t i) (before_place l u none (omega (arith, came_rises (place_in l t) b)))

-- ---- the list made place by place: the places below k are as they will be, the others as they were

pub record MovedUp (l : List ℕ) (t k : ℕ) (m : List ℕ) : Type 0 where
  pub long : length m ≡ length l
  pub from : place_in l t ≤ k
  pub below : (j : ℕ) → j < k → get_or m j none ≡ get_or (leave_order l t) j none
  pub above : (j : ℕ) → k ≤ j → get_or m j none ≡ get_or l j none

pub moved_none : (l : List ℕ) (t : ℕ) {k : ℕ} → k ≡ place_in l t → MovedUp l t k l
moved_none l t e = record { long = refl; from = omega arith; below = λ j b. sym (leave_before l t j (omega arith)); above = λ j b. refl }

pub moved_one : {l : List ℕ} {t k : ℕ} {m : List ℕ} {v : ℕ} → MovedUp l t k m → k < length l → get_or l (k + 1) none ≡ v → MovedUp l t (k + 1) (set m k v)
moved_one {l} {t} {k} {m} {v} h within e = record {
  long = length-set m k v ∙ h.long;
  from = omega (arith, h.from);
  below = λ j b. go j b (ℕ_discrete j k);
  above = λ j b. get_or-set_other m k j v none (λ q. omega (arith, q, b)) ∙ h.above j (omega arith);
}
  where
    go : (j : ℕ) → j < k + 1 → Dec (j ≡ k) → get_or (set m k v) j none ≡ get_or (leave_order l t) j none
    go j b (yes q) = rw (q, get_or-set_same m k v none (rw h.long within), leave_after l t k h.from, ← add-one k) (sym e)
    go j b (no n) = get_or-set_other m k j v none n ∙ h.below j (omega arith)

pub moved_all : {l : List ℕ} {t k : ℕ} {m : List ℕ} → MovedUp l t k m → length l ≤ k → m ≡ leave_order l t
moved_all {l} {t} {k} {m} h end = ext_get_or none m (leave_order l t) (h.long ∙ sym (length_leave l t)) (λ j b. h.below j (omega (arith, h.long)))

-- ---- the list made at once: what stands after the number is copied to the place before it, and the last place is unused

leave_parts : (l : List ℕ) (t : ℕ) → place_in l t < length l → leave_order l t ≡ take (place_in l t) l ++ (drop (place_in l t + 1) l ++ (none ∷ []))
leave_parts [] t h = absurd (omega arith)
leave_parts (a ∷ l) t h = go (ℕ_discrete a t) h (leave_parts l t)
  where
    go : Dec (a ≡ t) → place_in (a ∷ l) t < suc (length l) → (place_in l t < length l → leave_order l t ≡ take (place_in l t) l ++ (drop (place_in l t + 1) l ++ (none ∷ [])))
        → leave_order (a ∷ l) t ≡ take (place_in (a ∷ l) t) (a ∷ l) ++ (drop (place_in (a ∷ l) t + 1) (a ∷ l) ++ (none ∷ []))
    go (yes e) h f = rw (eqb_true e)
    go (no n) h f = let m : 1 + place_in l t < suc (length l) = rw (eqb_false n) at h in rw (eqb_false n, one-add (place_in l t), add-one (suc (place_in l t)), f (omega arith), add-one (place_in l t))

pub moved : (l m : List ℕ) (t : ℕ) {n p : ℕ} → place_in l t ≡ p → p ≤ n → length l ≡ n + 1 → m ≡ take ((n + 1) - (p + 1)) (drop (p + 1) l) → set (put_mid p (n - p) l m) n none ≡ leave_order l t
moved l m t {n} {p} at within long copied =
    rw (leave_parts l t (omega arith), at, ← later, end, ← append_assoc (take p l) m (get_or l n 0 ∷ []), ← append_assoc (take p l) m (none ∷ []), ← here) (set-append_seam (take p l ++ m) _ [] none)
  where
    later : m ≡ drop (p + 1) l
    later = copied ∙ take_all _ _ (simp length-drop (omega arith))

    fill : p + (n - p) ≡ n
    fill = omega arith

    end : drop (n - p) (drop p l) ≡ get_or l n 0 ∷ []
    end = rw (drop-drop (n - p) p l, fill, drop-cons l n 0 (omega arith), drop_all (suc n) l (omega arith)) refl

    here : length (take p l ++ m) ≡ n
    here = simp (length-append, length-take, ap length later, length-drop) (omega arith)

-- no place holds it, and the list stays
pub stays : (l : List ℕ) (t : ℕ) → length l ≤ place_in l t → l ≡ leave_order l t
stays l t out = ext_get_or none l (leave_order l t) (sym (length_leave l t)) (λ k b. sym (leave_before l t k (omega arith)))
