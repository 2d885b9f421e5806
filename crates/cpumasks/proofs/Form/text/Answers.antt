-- `text` meets its promise: place after place is written, until the text is whole.
use native.Mathlib.Omega.{arith}
use Rattle.cpumasks.proofs.Making.{written_mask, words_enough}
use Rattle.cpumasks.proofs.Form.text.Goals as goal

pub returns : goal.returns
returns c =
    written_mask _ _ _ (λ h. c.requires (words_enough (rw c.args.self.needed at h))) (omega arith) (λ o l. c.loop-place.invariant.each o (omega arith))
