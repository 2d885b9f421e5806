-- `leading` meets its promise: with no core to start from the rounds go on to the end, and the cores that lead to the target are those with a mark.
use lib.Bits.{and_zero_l}
use Rattle.search.proofs.Marking.{marks_leading}
use Rattle.search.proofs.Sitters.leading.Goals as goal

pub returns : goal.returns
returns c = marks_leading c.args.self.now.few (c.distances.ensures.complete (and_zero_l c.distances.result.near))
