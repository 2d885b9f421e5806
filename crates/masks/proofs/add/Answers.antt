-- `masks::add` meets its promise.
use Rattle.masks.proofs.Adding.{added, none_added}
use Rattle.masks.proofs.add.Goals as goal

pub returns-then-core-lt-WIDTH : goal.returns-then-core-lt-WIDTH
returns-then-core-lt-WIDTH c = added c.args.mask c.args.core c.if-core-lt-WIDTH.true

pub returns-else-core-lt-WIDTH : goal.returns-else-core-lt-WIDTH
returns-else-core-lt-WIDTH c = none_added c.args.mask c.args.core c.if-core-lt-WIDTH.false
