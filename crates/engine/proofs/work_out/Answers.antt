-- `work_out` meets its promise: one ready task after the other has its turn, and fewer are left.
use borrow.Author.Rules.{rules}
use Rattle.engine.proofs.Turning.{going_start, read, going_fewer, going_on, going_end}
use Rattle.engine.proofs.work_out.Goals as goal

pub loop-place-init : goal.loop-place-init
loop-place-init c = rw c.nothing-kept.ensures (going_start (search rules))

pub loop-place-smaller : goal.loop-place-smaller
loop-place-smaller c = going_fewer (search rules) c.requires c.loop-place.invariant c.in-Some.ensures

pub loop-place-preserved : goal.loop-place-preserved
loop-place-preserved c =
    going_on (search rules) c.requires c.loop-place.invariant c.in-Some.ensures c.of-board.ensures.cores c.of-board.ensures.masks
    (rw (read (search rules) c.requires c.loop-place.invariant c.in-Some.ensures) at c.take_turn.ensures)

pub returns : goal.returns
returns c = going_end (search rules) c.requires c.loop-place.invariant c.in_default.ensures
