-- Document 01's delete as document 02's request 1 changes it: deleting a ready task does what block does, then empties the slot, and reports
-- as the block. A task that is not ready is deleted as before: its slot is emptied.
use Rattle.std.specs.Prelude.{ℕ, ◌≡◌, List, [], ◌∷◌, ◌++◌}
use Rattle.laws.specs.Answering.{Refusal, ◌when◌}
use Rattle.dispatcher.specs.Slots.{no_task, Ready}
use Rattle.dispatcher.specs.Refusals.{IsAbove, IsEmpty}
use Rattle.dispatcher.specs.Unsound.{unsound_refusals}
use Rattle.dispatcher.specs.Promise.{Promised}
use Rattle.dispatcher.specs.declared.Dispatcher.{Dispatcher}
use Rattle.dispatcher.specs.declared.Outcome.{Outcome}
use Rattle.tasks.specs.Table.{with_task, Writes}
use Rattle.readiness.specs.Block.{Blocks}

-- the task is blocked, then its slot is emptied; the report is the block's
pub record BlocksThenEmpties (d : Dispatcher) (slot : ℕ) (r : Outcome) : Type 0 where
  pub block : Outcome
  pub blocks : Blocks d slot block
  pub emptied : r.dispatcher ≡ with_task block.dispatcher slot no_task
  pub reported : r.report ≡ block.report

pub record Deleted (d : Dispatcher) (slot : ℕ) (r : Outcome) : Type 0 where
  pub ready : Ready d slot → BlocksThenEmpties d slot r
  pub not_ready : (Ready d slot → ⊥) → Writes d slot no_task r

-- ready or not, a task is deleted: only the refusals of every call on the task in a slot are left
abbrev pub delete_refusals : Dispatcher → ℕ → List Refusal
delete_refusals d slot = unsound_refusals d ++ (
    3 when IsAbove slot ∷
    5 when IsEmpty d slot ∷ [])

abbrev pub Deletes : Dispatcher → ℕ → Outcome → Type 0
Deletes d slot r = Promised (delete_refusals d slot) d (Deleted d slot) r
