-- The answers of a call on the task in a slot, where one refusal more can follow.
use Prim.Native.Nat.{ℕ, ◌≤◌, ◌<◌}
use mathlib.Core.Path.{◌≡◌}
use mathlib.Core.Logic.{◌≢◌, ◌⊎◌, inl, inr}
use mathlib.Core.List.{[], ◌∷◌, ◌++◌}
use native.Mathlib.Omega.{arith}
use Rattle.laws.specs.Answering.{◌when◌, Applies, turn_of, Answers}
use Rattle.laws.proofs.Answering.{applies_split}
use Rattle.dispatcher.specs.Answers.{Answer, number_of}
use Rattle.dispatcher.specs.Unsound.{unsound_refusals}
use Rattle.dispatcher.specs.Promise.{Answered}
use Rattle.dispatcher.specs.declared.Dispatcher.{Dispatcher}
use Rattle.dispatcher.proofs.Unsound.{unsound_turn, answered_first, answered_then}
use Rattle.tasks.specs.Named.{slot_refusals, named_refusals}

-- their turns have come when that of 5 has
pub named_turn : {d : Dispatcher} {slot : ℕ} (n : ℕ) → Applies (named_refusals d slot) n → turn_of n ≤ turn_of 5
named_turn {d} {slot} n a = go (applies_split (unsound_refusals d) (slot_refusals d slot) n a)
  where
    go : Applies (unsound_refusals d) n ⊎ Applies (slot_refusals d slot) n → turn_of n ≤ turn_of 5
    go (inl u) = let l = unsound_turn d n u in omega arith
    go (inr (inl (e, _))) = rw e (omega arith)
    go (inr (inr (inl (e, _)))) = rw e (omega arith)
    go (inr (inr (inr b))) = absurd b

module _ {d : Dispatcher} {slot : ℕ} {P : Type 0} {a : Answer} (k : ℕ) (l : turn_of 5 < turn_of k) (h : Answered (named_refusals d slot) d a) where
  pub named_refused : number_of a ≢ 0 → Answered (named_refusals d slot ++ (k when P ∷ [])) d a
  named_refused z = answered_first (named_refusals d slot) (k when P ∷ []) h z above
    where
      above : (m : ℕ) → Applies (k when P ∷ []) m → turn_of (number_of a) < turn_of m
      above m (inl (e, _)) = let s = named_turn {d = d} {slot = slot} (number_of a) (h.answer.listed z) in rw e (omega arith)
      above m (inr x) = absurd x

  pub named_then : {b : Answer} → number_of a ≡ 0 → Answers (k when P ∷ []) (number_of b) → Answered (named_refusals d slot ++ (k when P ∷ [])) d b
  named_then z = answered_then (named_refusals d slot) (k when P ∷ []) (rw z at h.answer) (omega arith, tt)
