-- `last_on` meets its promise: of the slots at the passed places of the wake order that sit on a core of the mask, the core of the last one is picked.
use Rattle.std.proofs.Common.{ℕ, List, Option, leb, get_or}
use Rattle.masks.specs.Masks.{has}
use Rattle.dispatcher.specs.Limits.{greatest_priority}
use Rattle.dispatcher.specs.Slots.{order_at, seat_at}
use Rattle.dispatcher.specs.declared.Dispatcher.{Dispatcher}
use Rattle.order.specs.ComesBefore.{priority_of}
use Rattle.shifting.specs.Picking.{rank_at}
use Rattle.shifting.proofs.Along.{Along}
use Rattle.shifting.proofs.last_on.Given as goal

-- the core of the slot at place i, and the rank of what sits there
abbrev pub core_at : Dispatcher → List ℕ → ℕ → ℕ
core_at d cores i = get_or cores (order_at d i) 0

abbrev pub rank_on : Dispatcher → List ℕ → ℕ → ℕ
rank_on d cores i = rank_at d (seat_at d (core_at d cores i))

abbrev pub LastTo : Dispatcher → List ℕ → ℕ → ℕ → Option ℕ → ℕ → Type 0
LastTo d cores seen = Along (core_at d cores) (λ i. priority_of d (order_at d i)) (λ i j. leb (rank_on d cores i) (rank_on d cores j)) (λ i. has seen (core_at d cores i)) greatest_priority

abbrev pub invariant-loop-slot : goal.invariant-loop-slot
invariant-loop-slot l = LastTo l.d l.cores l.seen l.slot-index l.last l.lowest
