-- `masks::names_missing` meets its promise: the set shifted down by the count is what it names from there on.
use native.Mathlib.Omega.{arith}
use borrow.Author.Tests.{le-ltb}
use Rattle.laws.proofs.Deciding.{decides_false}
use Rattle.masks.proofs.Bits.{names_test, none_beyond}
use Rattle.masks.proofs.names_missing.Goals as goal

pub returns-then-from-lt-SET_WIDTH : goal.returns-then-from-lt-SET_WIDTH
returns-then-from-lt-SET_WIDTH c = names_test c.args.count c.args.set

pub returns-else-from-lt-SET_WIDTH : goal.returns-else-from-lt-SET_WIDTH
returns-else-from-lt-SET_WIDTH c = rw (le-ltb _ _ c.if-from-lt-SET_WIDTH.false) (decides_false (none_beyond 64 c.ranges.set.fits (omega arith)))
