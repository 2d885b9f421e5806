-- `put_spaced` meets its contract: a space, and the number after it.
use native.Mathlib.Omega.{arith}
use Rattle.texts.proofs.Putting.{puts_then}
use Rattle.decimals.proofs.put_spaced.Goals as goal

pub returns : goal.returns
returns c = puts_then c.put_at-next.ensures c.put.ensures (omega arith)
