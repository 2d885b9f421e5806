-- Document 01's words for a dispatcher: which cores a task may use, who runs and who waits, and the dispatcher with other seats.
use Rattle.std.specs.Prelude.{ℕ, Bool, List}
use Rattle.masks.specs.Masks.{has}
use Rattle.seating.specs.Running.{Running, Waiting}
use Rattle.dispatcher.specs.Limits.{none}
use Rattle.dispatcher.specs.Slots.{task_at, seat_at, Ready, Shaped}
use Rattle.dispatcher.specs.Sound.{Sound}
use Rattle.dispatcher.specs.declared.Dispatcher.{Dispatcher}

-- core c is in the mask of the task in slot t
abbrev pub may_run : Dispatcher → ℕ → ℕ → Bool
may_run d t c = has (task_at d t).mask c

abbrev pub Runs : Dispatcher → ℕ → Type 0
Runs d t = Running d.cores none (seat_at d) t

abbrev pub Waits : Dispatcher → ℕ → Type 0
Waits d t = Waiting d.cores none (Ready d) (seat_at d) t

abbrev pub with_seats : Dispatcher → List ℕ → Dispatcher
with_seats d l = record { cores = d.cores; tasks = d.tasks; order = d.order; seats = l }

-- a sound dispatcher that is lent: a reference alone does not tell a proof how many tasks it has
pub record Lent (d : Dispatcher) : Type 0 where
  pub shaped : Shaped d
  pub sound : Sound d
