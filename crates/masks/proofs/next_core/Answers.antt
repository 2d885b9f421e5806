-- `masks::next_core` meets its promise.
use Rattle.masks.proofs.Next.{next_core_lem, zeros_fit}
use Rattle.masks.proofs.next_core.Goals as goal

pub overflow_cast-result : goal.overflow_cast-result
overflow_cast-result c = record { fits = zeros_fit _ }

pub returns : goal.returns
returns c = next_core_lem c.args.mask c.args.marked c.ranges.marked.fits
