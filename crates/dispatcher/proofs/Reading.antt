-- The arrays of a dispatcher have their lengths, and the machine reads an array within its length, where what the definitions take to stand
-- beyond it does not matter.
use Prim.Native.Nat.{ℕ, ◌<◌}
use mathlib.Core.Path.{◌≡◌}
use lib.ListN.{length, get_or}
use Rattle.laws.proofs.Lists.{get_d_any}
use Rattle.dispatcher.specs.Limits.{core_limit, slot_limit, none}
use Rattle.dispatcher.specs.Slots.{order_at, seat_at, Shaped}
use Rattle.dispatcher.specs.declared.Dispatcher.{Dispatcher}

-- `search (rules, shaped)` finds the lengths of a dispatcher that a function holds
pub shaped : {d : Dispatcher} → length d.tasks ≡ slot_limit → length d.order ≡ slot_limit → length d.seats ≡ core_limit → Shaped d
shaped t o s = record { tasks = t; order = o; seats = s }

pub order_read : (d : Dispatcher) (k : ℕ) → length d.order ≡ slot_limit → k < slot_limit → order_at d k ≡ get_or d.order k 0
order_read d k n l = get_d_any d.order k none 0 (rw n l)

pub seat_read : (d : Dispatcher) (c : ℕ) → length d.seats ≡ core_limit → c < core_limit → seat_at d c ≡ get_or d.seats c 0
seat_read d c n l = get_d_any d.seats c none 0 (rw n l)
