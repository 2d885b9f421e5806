-- `wake_answer` meets its promise: what refuses every call on the task in a slot comes first.
use mathlib.Core.Path.{refl}
use native.Mathlib.Omega.{arith}
use Rattle.std.proofs.lemmas.Result.{err_from_is_err_and}
use Rattle.laws.proofs.Answering.{answers_none}
use Rattle.dispatcher.proofs.Same.{refusal_positive}
use Rattle.tasks.proofs.Naming.{named_refused, named_then}
use Rattle.readiness.proofs.wake_answer.Goals as goal

pub returns-in_err-named : goal.returns-in_err-named
returns-in_err-named c =
    let exit = err_from_is_err_and c.from_residual.result c.from_residual.ensures.1 in
    rw (exit.1, exit.2) (named_refused 9 (omega arith) c.in_err-named.ensures (refusal_positive _))

pub returns : goal.returns
returns c = named_then 9 (omega arith) c.in_ok-named.ensures refl (answers_none 9 (c.is_ready.ensures.no c.if-is_ready.false))
