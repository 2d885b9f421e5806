-- Demands 2 and 3 for a dispatcher: a seating of its ready tasks, and what a call has made of the seats before it.
use Rattle.std.specs.Prelude.{ℕ}
use Rattle.seating.specs.Strong.{Keeps}
use Rattle.seating.specs.Least.{Least}
use Rattle.dispatcher.specs.Limits.{none}
use Rattle.dispatcher.specs.Slots.{Ready}
use Rattle.dispatcher.specs.declared.Dispatcher.{Dispatcher}
use Rattle.order.specs.ComesBefore.{ComesBefore}
use Rattle.shifting.specs.Board.{may_run}

-- the seating s keeps demand 2 for the ready tasks of d
abbrev pub KeepsIn : Dispatcher → (ℕ → ℕ) → Type 0
KeepsIn d s = Keeps d.cores none (may_run d) (ComesBefore d) (Ready d) s

-- from the seating s to s', which keep demand 2, no fewer tasks of d can be moved, and so many are
abbrev pub LeastIn : Dispatcher → (ℕ → ℕ) → (ℕ → ℕ) → ℕ → Type 0
LeastIn d s s' moves = Least d.cores none (may_run d) (ComesBefore d) (Ready d) s s' moves
