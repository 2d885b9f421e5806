-- Demand 2 of a dispatcher after some calls.
use Rattle.std.specs.Prelude.{ℕ, ◌↔◌, List}
use Rattle.dispatcher.specs.Slots.{seat_at, Ready}
use Rattle.dispatcher.specs.declared.Dispatcher.{Dispatcher}
use Rattle.shifting.specs.Rule.{KeepsIn}
use Rattle.calls.specs.Sequence.{Step}
use Rattle.calls.specs.Woken.{WokenSince}

pub record Demand2 (l : List Step) (d : Dispatcher) : Type 0 where
  pub ready : (t : ℕ) → Ready d t ↔ WokenSince l t
  pub seats : KeepsIn d (seat_at d)
