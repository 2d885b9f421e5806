-- `first_seeking` meets its promise: of the slots at the passed places of the wake order that wait and whose mask meets the cores, the first is picked.
use Rattle.std.proofs.Common.{ℕ, List, Option, leb}
use Rattle.dispatcher.specs.Slots.{order_at}
use Rattle.dispatcher.specs.declared.Dispatcher.{Dispatcher}
use Rattle.order.specs.ComesBefore.{priority_of}
use Rattle.shifting.specs.Picking.{rank_at}
use Rattle.shifting.proofs.Along.{Along}
use Rattle.shifting.proofs.Seeking.{wait_test}
use Rattle.shifting.proofs.first_seeking.Given as goal

abbrev pub FirstTo : Dispatcher → List ℕ → ℕ → ℕ → Option ℕ → ℕ → Type 0
FirstTo d cores lead = Along (order_at d) (λ i. priority_of d (order_at d i)) (λ i j. leb (rank_at d (order_at d j)) (rank_at d (order_at d i))) (λ i. wait_test d cores lead (order_at d i)) 0

abbrev pub invariant-loop-slot : goal.invariant-loop-slot
invariant-loop-slot l = FirstTo l.d l.cores l.lead l.slot-index l.first l.highest
