-- What delete does, as a function that computes, over what the check of soundness says; and that it meets the promise.
use Prim.Native.Nat.{ℕ}
use mathlib.Core.Path.{refl}
use mathlib.Core.Bool.{cond}
use Rattle.std.specs.Prelude.{Ok}
use lib.Dec.{eqb}
use borrow.Author.Tests.{eq-eqb, ne_eqb}
use Rattle.dispatcher.specs.Slots.{no_task, Shaped}
use Rattle.dispatcher.specs.Answers.{Answer, number_of}
use Rattle.dispatcher.specs.Unsound.{unsound_refusals}
use Rattle.dispatcher.specs.Reports.{still_of}
use Rattle.dispatcher.specs.Promise.{Answered}
use Rattle.dispatcher.specs.declared.Report.{Report}
use Rattle.dispatcher.specs.declared.Dispatcher.{Dispatcher}
use Rattle.dispatcher.specs.declared.Outcome.{Outcome}
use Rattle.tasks.specs.Table.{with_task}
use Rattle.tasks.proofs.Model.{settled_as, settled_settles}
use Rattle.readiness.specs.Block.{Blocks}
use Rattle.readiness.proofs.Model.{block_of, block_blocks}
use Rattle.deletion.specs.Delete.{Deletes}
use Rattle.deletion.proofs.Ending.{reported_deletes}

-- the slot is emptied where p says done
abbrev pub emptied_of : Report → Dispatcher → ℕ → Outcome
emptied_of p d slot = settled_as p d (with_task d slot no_task)

abbrev after_block : Outcome → ℕ → Outcome
after_block b slot = emptied_of (cond (eqb (number_of b.report.answer) 10) (still_of (Ok tt)) b.report) b.dispatcher slot

after_deletes : {d : Dispatcher} {slot : ℕ} {b : Outcome} → Blocks d slot b → Deletes d slot (after_block b slot)
after_deletes {b = b} B = reported_deletes B (λ e. rw (eq-eqb (number_of b.report.answer) 10 e) refl) (λ n. rw (ne_eqb (number_of b.report.answer) 10 n) refl) (settled_settles _)

-- j is what the check of soundness says
abbrev pub delete_of : Answer → Dispatcher → ℕ → Outcome
delete_of j d slot = after_block (block_of j d slot) slot

pub delete_deletes : {d : Dispatcher} (j : Answer) (slot : ℕ) → Shaped d → Answered (unsound_refusals d) d j → Deletes d slot (delete_of j d slot)
delete_deletes j slot L s = after_deletes (block_blocks j slot L s)
