-- `first_places` meets its promise: going down the list, the table has the first place of each slot among the places passed.
use native.Mathlib.Omega.{arith}
use Rattle.order.proofs.Placing.{passed_none, passed_slot, passed_other, passed_all}
use Rattle.order.proofs.first_places.Goals as goal

pub loop-i-init : goal.loop-i-init
loop-i-init c =
    rw (c.into_iter-i-iterator.ensures.into_iter_gives, c.rev-i-items.ensures.source)
    (c.enumerate.ensures.count, rw c.enumerate.ensures.source (passed_none (rw (← c.min.ensures) c.iter.ensures.rest)))

pub loop-i-preserved-then-slot-lt-SLOTS : goal.loop-i-preserved-then-slot-lt-SLOTS
loop-i-preserved-then-slot-lt-SLOTS c =
    let steps = c.in-Some.ensures.steps in
    (omega arith, passed_slot _ _ c.loop-i.invariant.1 steps.1.0 c.from-slot.ensures (omega arith) c.if-slot-lt-SLOTS.true)

pub loop-i-preserved : goal.loop-i-preserved
loop-i-preserved c =
    let steps = c.in-Some.ensures.steps in
    (omega arith, passed_other _ _ c.loop-i.invariant.1 steps.1.0 (omega (arith, c.if-slot-lt-SLOTS.false)))

pub returns : goal.returns
returns c = passed_all c.in-None.ensures.steps.1.0 c.loop-i.invariant.1
