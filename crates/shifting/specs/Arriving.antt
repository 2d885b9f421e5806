-- A ready task that is on no core seeks one, as document 01 says of a waking task: the seats after it, moves, who started and who stopped.
use Rattle.std.specs.Prelude.{ℕ}
use Rattle.seating.specs.Arrival.{NoIdle, Arrives}
use Rattle.dispatcher.specs.Limits.{none}
use Rattle.dispatcher.specs.Slots.{seat_at, Shaped}
use Rattle.dispatcher.specs.Sound.{Sound}
use Rattle.dispatcher.specs.declared.Dispatcher.{Dispatcher}
use Rattle.order.specs.ComesBefore.{ComesBefore}
use Rattle.search.specs.declared.Sitters.{Sitters}
use Rattle.shifting.specs.Board.{may_run, Waits}
use Rattle.shifting.specs.Tables.{SittersOf}

abbrev pub ArrivesIn : Dispatcher → ℕ → (ℕ → ℕ) → ℕ → ℕ → ℕ → Type 0
ArrivesIn d x seats moves started stopped = Arrives d.cores none (may_run d) (ComesBefore d) (seat_at d) x seats moves started stopped

-- when it may
pub record Arriving (d : Dispatcher) (x : ℕ) : Type 0 where
  pub sound : Sound d
  pub waits : Waits d x

-- and it reaches no idle core
pub record Pushing (d : Dispatcher) (s : Sitters) (x : ℕ) : Type 0 where
  pub shaped : Shaped d
  pub arriving : Arriving d x
  pub sitters : SittersOf d s
  pub full : NoIdle d.cores none (may_run d) (seat_at d) x
