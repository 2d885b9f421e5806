-- `begin` meets its promise: the cores below the loop's have their first mark, and the others none.
use Rattle.std.proofs.Common.{arith}
use Rattle.std.proofs.lemmas.List.{get_or-replicate}
use Rattle.masks.specs.Masks.{width}
use Rattle.search.specs.Marks.{far}
use Rattle.search.proofs.Sitters.begin.Goals as goal

pub loop-core-init : goal.loop-core-init
loop-core-init c = (record { done = λ k l. absurd (omega arith) }, λ k _ l. get_or-replicate width k far 0 l)
