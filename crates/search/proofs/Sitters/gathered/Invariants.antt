-- `gathered` meets its promise: the mask has those of the cores below the loop's whose mark is small enough.
use Rattle.search.specs.Rounds.{Gathered}
use Rattle.search.proofs.Sitters.gathered.Given as goal

abbrev pub invariant-loop-core : goal.invariant-loop-core
invariant-loop-core l = Gathered l.marks l.limit l.core l.near
