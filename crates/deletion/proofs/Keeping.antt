-- Delete keeps a dispatcher sound: block does, and afterwards the slot is not ready and can be emptied. And it leaves what block and then delete leave.
use Prim.Native.Nat.{ℕ, ◌<◌}
use mathlib.Core.Path.{◌≡◌, refl, sym, ap, ◌∙◌}
use mathlib.Core.Logic.{inl, inr}
use mathlib.Core.List.{List}
use native.Mathlib.Omega.{arith}
use lib.ListN.{get_or}
use Rattle.laws.specs.Answering.{Applies}
use Rattle.laws.proofs.Answering.{done_where_none}
use Rattle.dispatcher.specs.Limits.{slot_limit}
use Rattle.dispatcher.specs.Slots.{no_task, task_at, Used, Ready, Shaped}
use Rattle.dispatcher.specs.Sound.{Sound}
use Rattle.dispatcher.specs.Answers.{number_of}
use Rattle.dispatcher.specs.declared.Task.{Task}
use Rattle.dispatcher.specs.declared.Report.{Report}
use Rattle.dispatcher.specs.declared.Dispatcher.{Dispatcher}
use Rattle.dispatcher.specs.declared.Outcome.{Outcome}
use Rattle.dispatcher.proofs.Unsound.{sound_own}
use Rattle.dispatcher.proofs.Promises.{called_below}
use Rattle.dispatcher.proofs.Ready.{ready_used}
use Rattle.dispatcher.proofs.Stable.{ready_or_not}
use Rattle.tasks.specs.Table.{with_task}
use Rattle.tasks.specs.Named.{slot_refusals}
use Rattle.tasks.proofs.Keeping.{with_task_keeps}
use Rattle.readiness.specs.Block.{Blocks}
use Rattle.readiness.proofs.Same.{blocks_same}
use Rattle.readiness.proofs.Keeping.{promised_keeps, block_tasks, block_keeps, block_ready}
use Rattle.deletion.specs.Delete.{BlocksThenEmpties, delete_refusals, Deletes}
use Rattle.deletion.proofs.Same.{reports_as_block}

emptied_keeps : {d : Dispatcher} {slot : ℕ} → Shaped d → Sound d → slot < slot_limit → (Ready d slot → ⊥) → Shaped (with_task d slot no_task) × Sound (with_task d slot no_task)
emptied_keeps L S below off = with_task_keeps L S below off (λ u. absurd (u (refl, refl)))

module _ {d : Dispatcher} {slot : ℕ} {r : Outcome} (E : BlocksThenEmpties d slot r) (z : number_of r.report.answer ≡ 0) where
  -- the block is done, since the delete is
  pub block_done : number_of E.block.report.answer ≡ 0
  block_done = ap (λ (x : Report). number_of x.answer) (sym E.reported) ∙ z

  pub ended_off : Shaped d → Sound d → Ready E.block.dispatcher slot → ⊥
  ended_off L S q = ((block_ready L S E.blocks block_done slot).0 q).1 refl

pub delete_keeps : {d : Dispatcher} {slot : ℕ} {r : Outcome} → Shaped d → Sound d → Deletes d slot r → Shaped r.dispatcher × Sound r.dispatcher
delete_keeps {d} {slot} L S D = promised_keeps (λ x. Shaped x × Sound x) D (L, S) (λ z. elim (ready_or_not d slot) [
  | inl on ↦
      let E = (D.done z).ready on in
      let k = block_keeps L S E.blocks in
      rw E.emptied (emptied_keeps k.0 k.1 (called_below d D.answer z) (ended_off E z L S))
  | inr off ↦ rw ((D.done z).not_ready off).written (emptied_keeps L S (called_below d D.answer z) off)
])

-- ---- delete of a ready task is block and then delete

-- nothing refuses a delete of a used slot
none_refuses : {d : Dispatcher} {slot : ℕ} → Sound d → slot < slot_limit → Used (task_at d slot) → (m : ℕ) → Applies (delete_refusals d slot) m → ⊥
none_refuses {d} {slot} S below used m a = go (sound_own d S (slot_refusals d slot) m a)
  where
    go : Applies (slot_refusals d slot) m → ⊥
    go (inl (_, above)) = omega (arith, above, below)
    go (inr (inl (_, empty))) = used empty
    go (inr (inr b)) = b

pub as_block_then_delete : {d : Dispatcher} {slot : ℕ} {b q r : Outcome} → Shaped d → Sound d → Ready d slot → Blocks d slot b → Deletes b.dispatcher slot q → Deletes d slot r
    → (r.dispatcher ≡ q.dispatcher) × (r.report ≡ b.report)
as_block_then_delete {d} {slot} {b} {q} {r} L S on B Q D = (E.emptied ∙ ap (λ (o : Outcome). with_task o.dispatcher slot no_task) same ∙ sym ((Q.done later).not_ready gone).written, reports_as_block on B D)
  where
    z : number_of r.report.answer ≡ 0
    z = done_where_none D.answer (none_refuses S on.slot (ready_used S on))

    E : BlocksThenEmpties d slot r
    E = (D.done z).ready on

    same : E.block ≡ b
    same = blocks_same E.blocks B

    y : number_of b.report.answer ≡ 0
    y = ap (λ (o : Outcome). number_of o.report.answer) (sym same) ∙ block_done E z

    gone : Ready b.dispatcher slot → ⊥
    gone k = ((block_ready L S B y slot).0 k).1 refl

    later : number_of q.report.answer ≡ 0
    later = done_where_none Q.answer (none_refuses (block_keeps L S B).1 on.slot (rw (ap (λ (l : List Task). get_or l slot no_task) (block_tasks B y)) (ready_used S on)))
