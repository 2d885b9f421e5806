-- `work_out` meets its promise: one ready task after the other has its turn, and fewer are left.
use Rattle.engine.proofs.Turning.{Going, how_many}
use Rattle.engine.proofs.work_out.Given as goal

abbrev pub invariant-loop-place : goal.invariant-loop-place
invariant-loop-place l = Going l.d l.left l.kept

abbrev pub decreases-loop-place : goal.decreases-loop-place
decreases-loop-place l = how_many l.left
