-- `tell` meets its promise: each block holds at least a line more, and its lines are told next.
use mathlib.Core.Path.{refl}
use native.Mathlib.Omega.{arith}
use Rattle.std.proofs.Common.{rules, of_calls}
use Rattle.std.proofs.lemmas.Fn.{called_at}
use Rattle.std.proofs.lemmas.Result.{err_from_is_err_and}
use Rattle.days.proofs.Telling.{told_further, told_more, told_fails}
use Rattle.days.proofs.tell.Goals as goal

pub loop-next-smaller : goal.loop-next-smaller
loop-next-smaller g c = let further = told_further c.fresh.result c.requires.layout.0 c.loop-next.invariant.1 c.replay-replayed.ensures.replays (λ o. (c.type_inv.file o).fits) _ c.fresh.ensures (omega arith) (omega arith) c.replay-replayed.ensures.short in omega arith

pub loop-next-preserved : goal.loop-next-preserved
loop-next-preserved g c = (search (rules, of_calls), told_more c.fresh.result c.requires.layout.0 c.loop-next.invariant.1 c.replay-replayed.ensures.replays (called_at _ c.in_ok-hear.ensures refl) refl)

pub returns-in_err-hear : goal.returns-in_err-hear
returns-in_err-hear g c =
    let failed = err_from_is_err_and c.from_residual.result c.from_residual.ensures.1 in
    rw (failed.1, failed.2) (told_fails c.fresh.result c.requires.layout.0 c.loop-next.invariant.1 c.replay-replayed.ensures.replays (rw c.requires.layout.1 at c.fresh.ensures) (called_at _ c.in_err-hear.ensures refl) refl)
