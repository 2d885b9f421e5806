-- `first_left` meets its promise: at the end all places have been looked at.
use Rattle.engine.proofs.Earliest.{first_all}
use Rattle.engine.proofs.first_left.Goals as goal

pub returns : goal.returns
returns c = first_all c.requires c.loop-k.first c.loop-k-test.false c.loop-k.invariant
