-- `create_all` meets its promise: the records so far are created, and none of them was refused.
use Rattle.boot.proofs.Advancing.{Goes}
use Rattle.boot.proofs.create_all.Given as goal

abbrev pub invariant-loop-index : goal.invariant-loop-index
invariant-loop-index l = Goes l.fn.d l.list l.index-counter l.d
