-- Document 01, "Block": the task is no longer ready. If it waited, nothing else changes. If it ran, its core is idle, and a waiting task that reaches it may start.
use Rattle.std.specs.Prelude.{ℕ, ◌<◌, ◌≡◌, List, [], ◌∷◌, ◌++◌, length, set}
use Rattle.laws.specs.Answering.{Refusal, ◌when◌}
use Rattle.dispatcher.specs.Limits.{none}
use Rattle.dispatcher.specs.Slots.{seat_at}
use Rattle.dispatcher.specs.Refusals.{IsAbove, IsEmpty, IsNotReady}
use Rattle.dispatcher.specs.Unsound.{unsound_refusals}
use Rattle.dispatcher.specs.Reports.{still_of}
use Rattle.dispatcher.specs.Promise.{Promised}
use Rattle.dispatcher.specs.declared.Dispatcher.{Dispatcher}
use Rattle.dispatcher.specs.declared.Outcome.{Outcome}
use Rattle.order.specs.Changes.{left_of}
use Rattle.shifting.specs.Board.{Waits, with_seats}
use Rattle.shifting.specs.Filling.{FillsIn}

-- the slot has left the wake order, and core z is idle
abbrev pub freed_of : Dispatcher → ℕ → ℕ → Dispatcher
freed_of d slot z = with_seats (left_of d slot) (set d.seats z none)

-- core z of d, which is idle, is filled: but for the seats, the dispatcher stays, and nobody stops
pub record Refills (d : Dispatcher) (z : ℕ) (r : Outcome) : Type 0 where
  pub rest : r.dispatcher ≡ with_seats d r.dispatcher.seats
  pub size : length r.dispatcher.seats ≡ length d.seats
  pub fills : FillsIn d z (seat_at r.dispatcher) r.report.moves r.report.started
  pub stops : r.report.stopped ≡ none

pub record Blocked (d : Dispatcher) (slot : ℕ) (r : Outcome) : Type 0 where
  pub waited : Waits d slot → (r.dispatcher ≡ left_of d slot) × (r.report ≡ still_of r.report.answer)
  pub ran : (z : ℕ) → z < d.cores → seat_at d z ≡ slot → Refills (freed_of d slot z) z r

abbrev pub block_refusals : Dispatcher → ℕ → List Refusal
block_refusals d slot = unsound_refusals d ++ (
    3 when IsAbove slot ∷
    5 when IsEmpty d slot ∷
    10 when IsNotReady d slot ∷ [])

abbrev pub Blocks : Dispatcher → ℕ → Outcome → Type 0
Blocks d slot r = Promised (block_refusals d slot) d (Blocked d slot) r
