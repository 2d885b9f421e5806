-- Document 01, "Wake": the task becomes ready, last among equals, and seeks a core.
use Rattle.std.specs.Prelude.{ℕ, ◌≡◌, List, [], ◌∷◌, ◌++◌, length}
use Rattle.laws.specs.Answering.{Refusal, ◌when◌}
use Rattle.dispatcher.specs.Slots.{seat_at}
use Rattle.dispatcher.specs.Refusals.{IsAbove, IsEmpty, IsAlreadyReady}
use Rattle.dispatcher.specs.Unsound.{unsound_refusals}
use Rattle.dispatcher.specs.Promise.{Promised}
use Rattle.dispatcher.specs.declared.Dispatcher.{Dispatcher}
use Rattle.dispatcher.specs.declared.Outcome.{Outcome}
use Rattle.order.specs.Changes.{joined_of}
use Rattle.shifting.specs.Board.{with_seats}
use Rattle.shifting.specs.Arriving.{ArrivesIn}

-- but for the seats, the dispatcher after is the one before with the slot in the wake order
pub record Woken (d : Dispatcher) (slot : ℕ) (r : Outcome) : Type 0 where
  pub rest : r.dispatcher ≡ with_seats (joined_of d slot) r.dispatcher.seats
  pub size : length r.dispatcher.seats ≡ length d.seats
  pub arrives : ArrivesIn (joined_of d slot) slot (seat_at r.dispatcher) r.report.moves r.report.started r.report.stopped

abbrev pub wake_refusals : Dispatcher → ℕ → List Refusal
wake_refusals d slot = unsound_refusals d ++ (
    3 when IsAbove slot ∷
    5 when IsEmpty d slot ∷
    9 when IsAlreadyReady d slot ∷ [])

abbrev pub Wakes : Dispatcher → ℕ → Outcome → Type 0
Wakes d slot r = Promised (wake_refusals d slot) d (Woken d slot) r
