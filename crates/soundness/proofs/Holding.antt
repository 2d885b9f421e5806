-- What a list holds below a place: nothing at first, and what stands at a place from the next one on; and what it holds from a place on.
use Prim.Native.Nat.{ℕ, ◌+◌, ◌-◌, ◌≤◌, ◌<◌}
use mathlib.Core.Path.{◌≡◌, sym, ap, ◌∙◌}
use mathlib.Core.Logic.{◌≢◌}
use mathlib.Core.List.{List}
use native.Mathlib.Decide.{ℕ_discrete}
use native.Mathlib.Omega.{arith}
use lib.ListN.{length, take, drop, get_or}
use Rattle.std.proofs.lemmas.List.{get_or-take, get_or-drop, length-take-le, length-drop}
use Rattle.laws.specs.Lowest.{Lowest, Throughout}
use Rattle.dispatcher.specs.Limits.{none}
use Rattle.soundness.specs.Parts.{HeldBelow, Unused, UnusedFrom}

pub held_none : {l : List ℕ} {s : ℕ} → HeldBelow l 0 s → ⊥
held_none h = omega (arith, h.below)

module _ {l : List ℕ} (k : ℕ) {s : ℕ} where
  pub held_here : get_or l k none ≡ s → HeldBelow l (k + 1) s
  held_here e = record { place = k; below = omega arith; holds = e }

  pub held_on : HeldBelow l k s → HeldBelow l (k + 1) s
  held_on h = record { place = h.place; below = omega (arith, h.below); holds = h.holds }

  pub held_before : get_or l k none ≢ s → HeldBelow l (k + 1) s → HeldBelow l k s
  held_before n h = go (ℕ_discrete h.place k)
    where
      go : Dec (h.place ≡ k) → HeldBelow l k s
      go (yes e) = absurd (n (rw e at h.holds))
      go (no e) = record { place = h.place; below = omega (arith, h.below); holds = h.holds }

-- ---- a list that is read from a place on

abbrev pub later : List ℕ → ℕ → List ℕ
later l from = take (length l - from) (drop from l)

module _ (l : List ℕ) (from : ℕ) where
  length_later : length (later l from) ≡ length l - from
  length_later = length-take-le (length l - from) (drop from l) (omega (arith, length-drop from l))

  later_at : {k : ℕ} → k < length l - from → get_or (later l from) k none ≡ get_or l (from + k) none
  later_at {k} b = get_or-take (length l - from) (drop from l) k none b ∙ get_or-drop from l k none

  from_at : {k : ℕ} → from ≤ k → k < length l → get_or l k none ≡ get_or (later l from) (k - from) none
  from_at {k} a b = ap (λ (i : ℕ). get_or l i none) (omega arith) ∙ sym (later_at (omega arith))

  pub later_unused : {n : ℕ} → length l ≡ n → Throughout (length (later l from)) (Unused (later l from)) → Throughout n (UnusedFrom l from)
  later_unused e rest k b a = from_at a (omega arith) ∙ rest (k - from) (omega (arith, length_later))

  pub later_lowest : {n k : ℕ} → length l ≡ n → Lowest (length (later l from)) (Unused (later l from)) k → Lowest n (UnusedFrom l from) (from + k)
  later_lowest {n} {k} e r = record {
    below = omega (arith, r.below, length_later);
    fails = λ u. r.fails (later_at (omega (arith, r.below, length_later)) ∙ u (omega arith));
    lower = λ j b a. from_at a (omega (arith, r.below, length_later)) ∙ r.lower (j - from) (omega arith);
  }
