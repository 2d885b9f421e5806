-- `masks::has` meets its promise: a set has no bit at or above its width.
use mathlib.Core.Path.{sym, ◌∙◌}
use borrow.Author.Tests.{le-ltb}
use Rattle.masks.proofs.Bits.{has_beyond}
use Rattle.masks.proofs.has.Goals as goal

pub returns-else-core-lt-SET_WIDTH : goal.returns-else-core-lt-SET_WIDTH
returns-else-core-lt-SET_WIDTH c =
    le-ltb _ _ c.if-core-lt-SET_WIDTH.false ∙ sym (has_beyond 64 c.args.set c.args.core c.ranges.set.fits c.if-core-lt-SET_WIDTH.false)
