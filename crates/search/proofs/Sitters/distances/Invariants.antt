-- `distances` meets its promise: the marks are right for as many steps as there were rounds, by fewer steps no core of the start is near, and a round that adds no core is the last.
use Rattle.search.proofs.Marking.{Rounds}
use Rattle.search.proofs.Sitters.distances.Given as goal

abbrev pub invariant-loop-limit : goal.invariant-loop-limit
invariant-loop-limit l = Rounds l.self.count l.self.masks l.start l.target l.marks l.near l.limit
