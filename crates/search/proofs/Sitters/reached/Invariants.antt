-- `reached` meets its promise: each sweep adds reached cores only, and one that adds none has them all.
use Rattle.std.proofs.Common.{◌-◌, ◌^◌}
use Rattle.masks.specs.Masks.{width}
use Rattle.search.proofs.Sweeping.{Grown}
use Rattle.search.proofs.Sitters.reached.Given as goal

abbrev pub invariant-loop-seen : goal.invariant-loop-seen
invariant-loop-seen l = Grown l.self.count l.self.masks l.start l.seen

abbrev pub decreases-loop-seen : goal.decreases-loop-seen
decreases-loop-seen l = 2 ^ width - l.seen
