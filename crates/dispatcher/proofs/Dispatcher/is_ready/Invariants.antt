-- `Dispatcher::is_ready` meets its promise: `found` says whether the slot stands at a place below the loop's.
use Prim.Native.Nat.{ℕ, ◌<◌}
use mathlib.Core.Path.{◌≡◌}
use Rattle.laws.specs.Decides.{Decides}
use Rattle.dispatcher.specs.Slots.{order_at}
use Rattle.dispatcher.proofs.Dispatcher.is_ready.Given as goal

abbrev pub invariant-loop-stands : goal.invariant-loop-stands
invariant-loop-stands l = Decides ((k : ℕ) × (k < l.stands-index) × (order_at l.fn.self k ≡ l.slot)) l.found
