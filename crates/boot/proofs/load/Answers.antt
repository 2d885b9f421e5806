-- `load` meets its promise: all that the records made stays, or none of it.
use mathlib.Core.Path.{refl}
use Rattle.std.specs.Prelude.{Ok}
use Rattle.dispatcher.proofs.Same.{refusal_positive}
use Rattle.boot.proofs.Advancing.{comes_loads}
use Rattle.boot.proofs.load.Goals as goal

pub returns-in-Ok : goal.returns-in-Ok
returns-in-Ok c = rw c.still.ensures (comes_loads (Ok tt) c.in-Ok.ensures (λ _. refl) (λ n. absurd (n refl)))

pub returns-in-Err : goal.returns-in-Err
returns-in-Err c = rw c.still-in-Err.ensures (comes_loads _ c.in-Err.ensures (λ z. absurd (refusal_positive c.in-Err.refused.refusal z)) (λ _. refl))
