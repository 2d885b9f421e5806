-- `compare` meets its promise.
use mathlib.Core.Path.{refl}
use Rattle.std.specs.Prelude.{Ok, Err}
use Rattle.std.proofs.lemmas.Result.{err_from_is_err_and}
use Rattle.engine.proofs.compare.Goals as goal

pub returns-in_err-kept : goal.returns-in_err-kept
returns-in_err-kept c =
    let exit = err_from_is_err_and c.from_residual.result c.from_residual.ensures.1 in
    rw (exit.1, exit.2) (record { kept = Err _; keeps = c.in_err-kept.ensures; answer = refl; done = tt })

pub returns : goal.returns
returns c = record { kept = Ok c.in_ok-kept.kept; keeps = c.in_ok-kept.ensures; answer = refl; done = c.difference.ensures }
