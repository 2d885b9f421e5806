-- Any two results that the promise of delete allows are the same; delete of a ready task reports as the block; and it stops nobody.
use Prim.Native.Nat.{ℕ}
use mathlib.Core.Path.{◌≡◌, sym, ap, ◌∙◌}
use mathlib.Core.Logic.{inl, inr}
use native.Mathlib.Decide.{ℕ_discrete}
use Rattle.dispatcher.specs.Limits.{none}
use Rattle.dispatcher.specs.Slots.{no_task, Ready}
use Rattle.dispatcher.specs.Answers.{number_of}
use Rattle.dispatcher.specs.declared.Report.{Report}
use Rattle.dispatcher.specs.declared.Dispatcher.{Dispatcher}
use Rattle.dispatcher.specs.declared.Outcome.{Outcome}
use Rattle.dispatcher.proofs.Same.{outcome_same, promised_same}
use Rattle.dispatcher.proofs.Stable.{ready_or_not}
use Rattle.tasks.specs.Table.{with_task}
use Rattle.tasks.proofs.Same.{writes_same}
use Rattle.tasks.proofs.Model.{settled_settles}
use Rattle.readiness.specs.Block.{Blocks}
use Rattle.readiness.proofs.Same.{blocks_same}
use Rattle.readiness.proofs.Keeping.{block_stops_nobody}
use Rattle.deletion.specs.Delete.{BlocksThenEmpties, Deleted, Deletes}
use Rattle.deletion.proofs.Ending.{was_not_ready, block_deletes}
use Rattle.deletion.proofs.Model.{emptied_of}

ends_same : {d : Dispatcher} {slot : ℕ} {r q : Outcome} → BlocksThenEmpties d slot r → BlocksThenEmpties d slot q → r ≡ q
ends_same {slot = slot} a b =
    let same = blocks_same a.blocks b.blocks in
    outcome_same (a.reported ∙ ap (λ (o : Outcome). o.report) same ∙ sym b.reported) (a.emptied ∙ ap (λ (o : Outcome). with_task o.dispatcher slot no_task) same ∙ sym b.emptied)

deleted_same : {d : Dispatcher} {slot : ℕ} {r q : Outcome} → r.report.answer ≡ q.report.answer → Deleted d slot r → Deleted d slot q → r ≡ q
deleted_same {d} {slot} e a b = elim (ready_or_not d slot) [ inl on ↦ ends_same (a.ready on) (b.ready on) | inr off ↦ writes_same e (a.not_ready off) (b.not_ready off) ]

pub deletes_same : {d : Dispatcher} {slot : ℕ} {r q : Outcome} → Deletes d slot r → Deletes d slot q → r ≡ q
deletes_same = promised_same deleted_same

-- refused or done, delete of a ready task reports as the block of it
pub reports_as_block : {d : Dispatcher} {slot : ℕ} {b r : Outcome} → Ready d slot → Blocks d slot b → Deletes d slot r → r.report ≡ b.report
reports_as_block {d} {slot} {b} q B D = ap (λ (o : Outcome). o.report) (deletes_same D after)
  where
    after : Deletes d slot (emptied_of b.report b.dispatcher slot)
    after = block_deletes B (λ e. was_not_ready d slot (rw e at B.answer) q) (settled_settles b.report)

-- the deleted task is not stopped, nor is another
pub delete_stops_nobody : {d : Dispatcher} {slot : ℕ} {r : Outcome} → Deletes d slot r → r.report.stopped ≡ none
delete_stops_nobody {d} {slot} {r} D = elim (ℕ_discrete (number_of r.report.answer) 0) [
  | yes z ↦ elim (ready_or_not d slot) [ inl on ↦ let e = (D.done z).ready on in stopped e.reported ∙ block_stops_nobody e.blocks | inr off ↦ stopped ((D.done z).not_ready off).still ]
  | no z ↦ stopped (D.still z)
]
  where
    stopped : {p : Report} → r.report ≡ p → r.report.stopped ≡ p.stopped
    stopped e = ap (λ (x : Report). x.stopped) e
