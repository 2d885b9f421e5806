-- `lowest` meets its contract, by what trailing zeros and ones are.
use native.Mathlib.Omega.{arith}
use Rattle.cpulists.proofs.Lowest.{lowest}
use Rattle.cpulists.proofs.Run.lowest.Goals as goal

pub overflow_sub-result : goal.overflow_sub-result
overflow_sub-result c = omega (arith, c.trailing_ones-cores.ensures, (lowest c.ranges.set.fits c.requires).0)

pub returns : goal.returns
returns c = rw c.trailing_ones-cores.ensures (lowest c.ranges.set.fits c.requires).1
