-- `keep` meets its promise.
use mathlib.Core.Path.{refl}
use mathlib.Core.List.{[]}
use Rattle.std.proofs.lemmas.Result.{err_from_is_err_and}
use Rattle.dispatcher.proofs.Unsound.{done_sound}
use Rattle.engine.proofs.Keeping.{refused_keeps, sound_keeps}
use Rattle.engine.proofs.keep.Goals as goal

pub returns-in_err-check : goal.returns-in_err-check
returns-in_err-check c =
    let exit = err_from_is_err_and c.from_residual.result c.from_residual.ensures.1 in
    rw (exit.1, exit.2) (refused_keeps c.in_err-check.ensures)

pub work_out-requires : goal.work_out-requires
work_out-requires c = done_sound c.args.d {rs = []} c.in_ok-check.ensures.answer refl

pub returns : goal.returns
returns c = sound_keeps (done_sound c.args.d {rs = []} c.in_ok-check.ensures.answer refl) c.work_out.ensures
