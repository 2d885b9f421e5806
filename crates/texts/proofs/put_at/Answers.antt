-- `put_at` meets its promise: the bytes before the place and after the piece stay.
use Rattle.std.proofs.Common.{rules}
use Rattle.texts.proofs.Putting.{puts_part}
use Rattle.texts.proofs.put_at.Goals as goal

pub returns : goal.returns
returns c = puts_part c.args.bytes.now c.args.at (search rules) (search rules)
