-- A call on a dispatcher, what its promise allows, and the rows of its refusals.
use Rattle.std.specs.Prelude.{ℕ, ◌≤◌, List}
use Rattle.laws.specs.Lists.{All}
use Rattle.laws.specs.Answering.{Refusal}
use Rattle.dispatcher.specs.Limits.{greatest_priority}
use Rattle.dispatcher.specs.declared.TaskRecord.{TaskRecord}
use Rattle.dispatcher.specs.declared.Dispatcher.{Dispatcher}
use Rattle.dispatcher.specs.declared.Outcome.{Outcome}
use Rattle.tasks.specs.Create.{create_refusals, Creates}
use Rattle.boot.specs.Load.{load_refusals, AllOrNone}
use Rattle.readiness.specs.Wake.{wake_refusals, Wakes}
use Rattle.readiness.specs.Block.{block_refusals, Blocks}
use Rattle.deletion.specs.Delete.{delete_refusals, Deletes}

pub data Call : Type 0 where
  create : (slot priority mask : ℕ) → Call
  delete : (slot : ℕ) → Call
  load : (list : List TaskRecord) → Call
  wake : (slot : ℕ) → Call
  block : (slot : ℕ) → Call

abbrev pub Does : Call → Dispatcher → Outcome → Type 0
Does (create slot priority mask) d r = Creates d slot priority mask r
Does (delete slot) d r = Deletes d slot r
Does (load list) d r = AllOrNone d list r
Does (wake slot) d r = Wakes d slot r
Does (block slot) d r = Blocks d slot r

abbrev pub refusals_of : Call → Dispatcher → List Refusal
refusals_of (create slot priority mask) d = create_refusals d slot priority mask
refusals_of (delete slot) d = delete_refusals d slot
refusals_of (load list) d = load_refusals d list
refusals_of (wake slot) d = wake_refusals d slot
refusals_of (block slot) d = block_refusals d slot

-- a priority is one byte
abbrev pub FitsPriority : ℕ → Type 0
FitsPriority priority = priority ≤ greatest_priority

abbrev pub Fits : Call → Type 0
Fits (create slot priority mask) = FitsPriority priority
Fits (delete slot) = Unit {0}
Fits (load list) = All (λ (t : TaskRecord). FitsPriority t.priority) list
Fits (wake slot) = Unit {0}
Fits (block slot) = Unit {0}
