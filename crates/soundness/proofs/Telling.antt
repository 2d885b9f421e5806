-- What the check tells: the number of the first condition that is broken, and where.
use Prim.Native.Nat.{ℕ, suc, ◌<◌}
use mathlib.Core.Path.{refl}
use mathlib.Core.List.{List, [], ◌∷◌}
use native.Mathlib.Omega.{arith}
use Rattle.std.specs.Prelude.{Err}
use Rattle.laws.specs.Lowest.{Lowest, Throughout}
use Rattle.laws.specs.Answering.{Refusal, ◌when◌, turn_of, Answers}
use Rattle.laws.proofs.Answering.{AllFrom, from_applies, answers_first, answers_then, answers_one, answers_none}
use Rattle.dispatcher.specs.Limits.{core_limit, slot_limit}
use Rattle.dispatcher.specs.Sound.{CountLegal, SlotKept, SlotsLegal, PlaceKept, OrderKept, MissingKept, MissingIdle, SeatKept}
use Rattle.dispatcher.specs.Unsound.{unsound_refusals}
use Rattle.dispatcher.specs.Promise.{Answered}
use Rattle.dispatcher.specs.declared.Refusal.TheVariants.{UnsoundCount, UnsoundSlot, UnsoundPlace, UnsoundMissingCore, UnsoundSeat}
use Rattle.dispatcher.specs.declared.Dispatcher.{Dispatcher}

-- ---- the rows of the conditions

-- the first condition is broken, or it is kept
module _ {P : Type 0} (k : ℕ) (rs : List Refusal) where
  broken : 0 < k → (P → ⊥) → AllFrom (suc (turn_of k)) rs → Answers (k when (P → ⊥) ∷ rs) k
  broken l n later = answers_first (k when (P → ⊥) ∷ []) rs (answers_one k l n) (λ z. omega arith) (λ m a. from_applies (suc (turn_of k)) rs m later a)

  kept : {n : ℕ} → P → Answers rs n → Answers (k when (P → ⊥) ∷ rs) n
  kept p = answers_then (k when (P → ⊥) ∷ []) rs (answers_none k (λ n. n p))

-- where one of n breaks a condition, not all keep it
not_all : {n k : ℕ} {P : ℕ → Type 0} → Lowest n P k → Throughout n P → ⊥
not_all {k = k} low all = low.fails (all k low.below)

-- ---- one condition after the other

module _ {d : Dispatcher} where
  pub tells_count : (CountLegal d → ⊥) → Answered (unsound_refusals d) d (Err (UnsoundCount d.cores))
  tells_count n = record {
    answer = broken 21 _ (omega arith) n (omega arith);
    place = record { told = ((λ _. refl), λ z. absurd (z refl)) };
  }

  pub tells_slot : CountLegal d → {s : ℕ} → Lowest slot_limit (SlotKept d) s → Answered (unsound_refusals d) d (Err (UnsoundSlot s))
  tells_slot counted low = record {
    answer = kept 21 _ counted (broken 22 _ (omega arith) (not_all low) (omega arith));
    place = record { told = ((λ e. absurd (omega arith)), λ _. ((λ _. low), λ z. absurd (z refl))) };
  }

  pub tells_place : CountLegal d → SlotsLegal d → {k : ℕ} → Lowest slot_limit (PlaceKept d) k → Answered (unsound_refusals d) d (Err (UnsoundPlace k))
  tells_place counted legal low = record {
    answer = kept 21 _ counted (kept 22 _ legal (broken 23 _ (omega arith) (not_all low) (omega arith)));
    place = record { told = ((λ e. absurd (omega arith)), λ _. ((λ e. absurd (omega arith)), λ _. ((λ _. low), λ z. absurd (z refl)))) };
  }

  pub tells_missing : CountLegal d → SlotsLegal d → OrderKept d → {c : ℕ} → Lowest core_limit (MissingKept d) c → Answered (unsound_refusals d) d (Err (UnsoundMissingCore c))
  tells_missing counted legal ordered low = record {
    answer = kept 21 _ counted (kept 22 _ legal (kept 23 _ ordered (broken 24 _ (omega arith) (not_all low) (omega arith))));
    place = record { told = ((λ e. absurd (omega arith)), λ _. ((λ e. absurd (omega arith)), λ _. ((λ e. absurd (omega arith)), λ _. ((λ _. low), λ z. absurd (z refl))))) };
  }

  pub tells_seat : CountLegal d → SlotsLegal d → OrderKept d → MissingIdle d → {c : ℕ} → Lowest core_limit (SeatKept d) c → Answered (unsound_refusals d) d (Err (UnsoundSeat c))
  tells_seat counted legal ordered idle low = record {
    answer = kept 21 _ counted (kept 22 _ legal (kept 23 _ ordered (kept 24 _ idle (broken 25 _ (omega arith) (not_all low) (omega arith)))));
    place = record { told = ((λ e. absurd (omega arith)), λ _. ((λ e. absurd (omega arith)), λ _. ((λ e. absurd (omega arith)), λ _. ((λ e. absurd (omega arith)), λ _. ((λ _. low), λ z. absurd (z refl)))))) };
  }
