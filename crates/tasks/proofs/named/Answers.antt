-- `named` meets its promise: what the check of soundness says comes first, and after it whether there is such a slot, and a task in it.
use mathlib.Core.Path.{refl}
use native.Mathlib.Omega.{arith}
use Rattle.std.proofs.lemmas.Grind.{common_steps}
use Rattle.std.proofs.lemmas.Result.{err_from_is_err_and}
use Rattle.dispatcher.proofs.Unsound.{done_sound, unsound_first, sound_then}
use Rattle.dispatcher.proofs.Same.{refusal_positive}
use Rattle.tasks.specs.Named.{slot_refusals}
use Rattle.tasks.proofs.Model.{slot_later}
use Rattle.tasks.proofs.named.Goals as goal

pub returns-in_err-check : goal.returns-in_err-check
returns-in_err-check c =
    let a = c.args in
    let exit = err_from_is_err_and c.from_residual.result c.from_residual.ensures.1 in
    rw (exit.1, exit.2) (unsound_first (slot_refusals a.d a.slot) (slot_later a.d a.slot) c.in_err-check.ensures (refusal_positive _))

pub returns : goal.returns
returns c =
    let a = c.args in
    sound_then (slot_refusals a.d a.slot) (slot_later a.d a.slot) (done_sound a.d c.in_ok-check.ensures.answer refl) (grind (arith, common_steps))
