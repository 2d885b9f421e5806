-- An idle core seeks a waiting task, as document 01 says of a core that a block has freed: the seats after it, moves and who started.
use Rattle.std.specs.Prelude.{ℕ, ◌<◌, ◌≡◌}
use Rattle.seating.specs.Filling.{Fills}
use Rattle.dispatcher.specs.Limits.{none}
use Rattle.dispatcher.specs.Slots.{seat_at, Ready}
use Rattle.dispatcher.specs.Sound.{Sound}
use Rattle.dispatcher.specs.declared.Dispatcher.{Dispatcher}
use Rattle.order.specs.ComesBefore.{ComesBefore}
use Rattle.shifting.specs.Board.{may_run}

abbrev pub FillsIn : Dispatcher → ℕ → (ℕ → ℕ) → ℕ → ℕ → Type 0
FillsIn d z seats moves started = Fills d.cores none (may_run d) (ComesBefore d) (Ready d) (seat_at d) z seats moves started

-- when it may
pub record Freed (d : Dispatcher) (z : ℕ) : Type 0 where
  pub sound : Sound d
  pub below : z < d.cores
  pub idle : seat_at d z ≡ none
