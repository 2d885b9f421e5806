-- `create_answer` meets its promise: what the check of soundness says comes first, and what `entry` says after it.
use mathlib.Core.Path.{refl}
use Rattle.std.proofs.lemmas.Result.{err_from_is_err_and}
use Rattle.dispatcher.proofs.Unsound.{done_sound, unsound_first, sound_then}
use Rattle.dispatcher.proofs.Same.{refusal_positive}
use Rattle.tasks.specs.Create.{entry_refusals}
use Rattle.tasks.proofs.Model.{entry_later}
use Rattle.tasks.proofs.create_answer.Goals as goal

pub returns-in_err-check : goal.returns-in_err-check
returns-in_err-check c =
    let a = c.args in
    let exit = err_from_is_err_and c.from_residual.result c.from_residual.ensures.1 in
    rw (exit.1, exit.2) (unsound_first (entry_refusals a.d a.slot a.priority a.mask) (entry_later a.d a.slot a.priority a.mask) c.in_err-check.ensures (refusal_positive _))

pub returns : goal.returns
returns c =
    let a = c.args in
    sound_then (entry_refusals a.d a.slot a.priority a.mask) (entry_later a.d a.slot a.priority a.mask) (done_sound a.d c.in_ok-check.ensures.answer refl) c.entry.ensures
