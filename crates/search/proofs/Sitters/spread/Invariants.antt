-- `spread` meets its promise: the mask has what the tasks on the cores below the loop's may use.
use Rattle.search.specs.Spread.{Spread}
use Rattle.search.proofs.Sitters.spread.Given as goal

abbrev pub invariant-loop-core : goal.invariant-loop-core
invariant-loop-core l = Spread l.self.count l.self.masks l.seen l.core l.wider
