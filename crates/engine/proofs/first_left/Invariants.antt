-- `first_left` meets its promise: of the places below the loop's the first of the highest priority is found.
use Rattle.engine.proofs.Earliest.{FirstTo}
use Rattle.engine.proofs.first_left.Given as goal

abbrev pub invariant-loop-k : goal.invariant-loop-k
invariant-loop-k l = FirstTo l.d l.left l.k l.first l.highest
