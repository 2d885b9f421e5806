-- First places: how a table of them grows from the list's end to its start, what a table tells of one place, and that there is one table.
use Prim.Native.Nat.{ℕ, ◌+◌, ◌-◌, ◌≤◌, ◌<◌}
use mathlib.Core.Path.{◌≡◌, refl, sym, ap, ◌∙◌, subst}
use mathlib.Core.Logic.{◌≢◌, inl, inr}
use mathlib.Core.List.{List, [], ◌∷◌}
use native.Mathlib.Decide.{ℕ_discrete, dec_lt}
use native.Mathlib.Omega.{arith}
use lib.ListN.{length, get_or, set, take, replicate, length-set, length-replicate, get_or-replicate, get_or-append}
use lib.Seq.{get_or-set_same, get_or-set_other, ext_get_or}
use Rattle.std.specs.List.{push}
use Rattle.std.proofs.lemmas.List.{get_or-take, length-take-le, length_push, get_or_push}
use Rattle.dispatcher.specs.Limits.{slot_limit, none}
use Rattle.order.specs.Places.{FirstPlace, FirstPlaces, places_of}

-- ---- the table

-- out has the first place of each slot among the places of l from i on
pub record Marked (l : List ℕ) (i : ℕ) (out : List ℕ) : Type 0 where
  pub long : length out ≡ slot_limit
  pub each : (s : ℕ) → s < slot_limit → FirstPlace (λ j. get_or l j none) i (places_of l) s (get_or out s 0)

pub marked_none : (l : List ℕ) {i : ℕ} → i ≡ places_of l → Marked l i (replicate slot_limit none)
marked_none l e = record {
  long = length-replicate slot_limit none;
  each = λ s h. inr (record { mark = get_or-replicate slot_limit s none 0 h; nowhere = λ j a b. absurd (omega arith) });
}

earlier : {at : ℕ → ℕ} (i : ℕ) {n s p : ℕ} → 0 < i → at (i - 1) ≢ s → FirstPlace at i n s p → FirstPlace at (i - 1) n s p
earlier {at} i {n} {s} {p} h other (inl f) = inl (record { from = omega (arith, f.from); below = f.below; holds = f.holds; first = λ j a b. go j a b (ℕ_discrete j (i - 1)) })
  where
    go : (j : ℕ) → i - 1 ≤ j → j < p → Dec (j ≡ i - 1) → at j ≢ s
    go j a b (yes e) = rw e other
    go j a b (no e) = f.first j (omega arith) b
earlier {at} i {n} {s} {p} h other (inr f) = inr (record { mark = f.mark; nowhere = λ j a b. go j a b (ℕ_discrete j (i - 1)) })
  where
    go : (j : ℕ) → i - 1 ≤ j → j < n → Dec (j ≡ i - 1) → at j ≢ s
    go j a b (yes e) = rw e other
    go j a b (no e) = f.nowhere j (omega arith) b

module _ {l : List ℕ} {i : ℕ} {out : List ℕ} {v : ℕ} (0<i : 0 < i) (within : i ≤ places_of l) (m : Marked l i out) (here : get_or l (i - 1) none ≡ v) where
  pub marked_slot : v < slot_limit → Marked l (i - 1) (set out v (i - 1))
  marked_slot small = record { long = length-set out v (i - 1) ∙ m.long; each = λ s h. go s h (ℕ_discrete s v) }
    where
      go : (s : ℕ) → s < slot_limit → Dec (s ≡ v) → FirstPlace (λ j. get_or l j none) (i - 1) (places_of l) s (get_or (set out v (i - 1)) s 0)
      go s h (yes e) = rw (e, get_or-set_same out v (i - 1) 0 (rw m.long small)) (inl (record { from = omega arith; below = omega arith; holds = here; first = λ j a b. absurd (omega arith) }))
      go s h (no e) = rw (get_or-set_other out v s (i - 1) 0 e) (earlier i 0<i (λ q. e (sym q ∙ here)) (m.each s h))

  pub marked_other : slot_limit ≤ v → Marked l (i - 1) out
  marked_other large = record { long = m.long; each = λ s h. earlier i 0<i (λ q. omega (arith, q, here)) (m.each s h) }

pub marked_all : {l : List ℕ} {i : ℕ} {out : List ℕ} → i ≤ 0 → Marked l i out → FirstPlaces l out
marked_all {l} {i} {out} z m = record { long = m.long; each = λ s h. subst (λ (a : ℕ). FirstPlace (λ j. get_or l j none) a (places_of l) s (get_or out s 0)) start (m.each s h) }
  where
    start : i ≡ 0
    start = omega arith

-- ---- the table, when the places of l from the length of rest on were looked at, and rest stands before them

pub record Passed (l rest out : List ℕ) : Type 0 where
  pub within : length rest ≤ places_of l
  pub stands : (j : ℕ) → j < length rest → get_or l j none ≡ get_or rest j none
  pub marked : Marked l (length rest) out

pub passed_none : {l rest : List ℕ} → rest ≡ take (places_of l) l → Passed l rest (replicate slot_limit none)
passed_none {l} {rest} e = record {
  within = omega (arith, long);
  stands = λ j b. rw (e, get_or-take (places_of l) l j none (omega (arith, long))) refl;
  marked = marked_none l long;
}
  where
    long : length rest ≡ places_of l
    long = ap length e ∙ length-take-le (places_of l) l (omega arith)

module _ {l before out : List ℕ} (rest : List ℕ) (v : ℕ) (P : Passed l before out) (e : before ≡ push rest v) where
  longer : length before ≡ length rest + 1
  longer = ap length e ∙ length_push rest v

  shorter : length before - 1 ≡ length rest
  shorter = omega (arith, longer)

  some : 0 < length before
  some = omega (arith, longer)

  here : get_or l (length before - 1) none ≡ v
  here = rw shorter (P.stands (length rest) (omega (arith, longer)) ∙ rw (e, get_or_push rest v none (length rest) refl) refl)

  stands : (j : ℕ) → j < length rest → get_or l j none ≡ get_or rest j none
  stands j b = P.stands j (omega (arith, longer)) ∙ rw (e, get_or-append rest (v ∷ []) none j b) refl

  pub passed_slot : {slot i : ℕ} → slot ≡ v → i ≡ length rest → slot < slot_limit → Passed l rest (set out slot i)
  passed_slot same at small = record {
    within = omega (arith, longer, P.within);
    stands = stands;
    marked = rw (same, at, ← shorter) (marked_slot some P.within P.marked here (rw same at small));
  }

  pub passed_other : slot_limit ≤ v → Passed l rest out
  passed_other large = record {
    within = omega (arith, longer, P.within);
    stands = stands;
    marked = rw (← shorter) (marked_other some P.within P.marked here large);
  }

pub passed_all : {l rest out : List ℕ} → length rest ≡ 0 → Passed l rest out → FirstPlaces l out
passed_all z P = marked_all (omega (arith, z)) P.marked

-- ---- one place k that holds s, with the first place p of s

module _ {at : ℕ → ℕ} {n s p k : ℕ} (small : n ≤ none) (below : k < n) (holds : at k ≡ s) where
  -- p is k where no place before k holds what k holds
  pub here_first : FirstPlace at 0 n s p → ((j : ℕ) → j < k → at j ≢ at k) → p ≡ k
  here_first (inr f) alone = absurd (f.nowhere k (omega arith) below holds)
  here_first (inl f) alone = go (dec_lt p k) (dec_lt k p)
    where
      go : Dec (p < k) → Dec (k < p) → p ≡ k
      go (yes l) d = absurd (alone p l (f.holds ∙ sym holds))
      go (no l) (yes m) = absurd (f.first k (omega arith) m holds)
      go (no l) (no m) = omega arith

-- p is not the mark where some place holds s
pub stands_first : {at : ℕ → ℕ} {n s p j : ℕ} → n ≤ none → FirstPlace at 0 n s p → j < n → at j ≡ s → p ≢ none
stands_first small (inl f) l q e = omega (arith, f.below, e)
stands_first {j} small (inr f) l q e = f.nowhere j (omega arith) l q

-- ---- there is one table

first_same : {at : ℕ → ℕ} {i n s p q : ℕ} → FirstPlace at i n s p → FirstPlace at i n s q → p ≡ q
first_same {p} {q} (inl f) (inl g) = go (dec_lt p q) (dec_lt q p)
  where
    go : Dec (p < q) → Dec (q < p) → p ≡ q
    go (yes l) m = absurd (g.first p f.from l f.holds)
    go (no l) (yes m) = absurd (f.first q g.from m g.holds)
    go (no l) (no m) = omega arith
first_same {p} (inl f) (inr g) = absurd (g.nowhere p f.from f.below f.holds)
first_same {q} (inr f) (inl g) = absurd (f.nowhere q g.from g.below g.holds)
first_same (inr f) (inr g) = f.mark ∙ sym g.mark

pub places_same : {l r q : List ℕ} → FirstPlaces l r → FirstPlaces l q → r ≡ q
places_same {r} {q} a b = ext_get_or 0 r q (a.long ∙ sym b.long) (λ s h. let k = rw a.long at h in first_same (a.each s k) (b.each s k))
