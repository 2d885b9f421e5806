-- What stands where in a dispatcher.
use Rattle.std.specs.Prelude.{ℕ, ◌<◌, ◌≡◌, length, get_or}
use Rattle.dispatcher.specs.Limits.{core_limit, slot_limit, none}
use Rattle.dispatcher.specs.declared.Task.{Task}
use Rattle.dispatcher.specs.declared.TaskRecord.{TaskRecord}
use Rattle.dispatcher.specs.declared.Dispatcher.{Dispatcher}

abbrev pub no_task : Task
no_task = record { priority = 0; mask = 0 }

-- a record's task; and what is read past the end of a list of records
abbrev pub task_of : TaskRecord → Task
task_of t = record { priority = t.priority; mask = t.mask }

abbrev pub no_record : TaskRecord
no_record = record { slot = 0; priority = 0; mask = 0 }

-- the task in slot s, the slot at place k of the wake order, the slot on core c
abbrev pub task_at : Dispatcher → ℕ → Task
task_at d s = get_or d.tasks s no_task

abbrev pub order_at : Dispatcher → ℕ → ℕ
order_at d k = get_or d.order k none

abbrev pub seat_at : Dispatcher → ℕ → ℕ
seat_at d c = get_or d.seats c none

-- a slot is empty when its priority and mask are both 0, and used otherwise
abbrev pub Empty : Task → Type 0
Empty t = (t.priority ≡ 0) × (t.mask ≡ 0)

abbrev pub Used : Task → Type 0
Used t = Empty t → ⊥

-- slot s is ready: it stands in the wake order
pub record Ready (d : Dispatcher) (s : ℕ) : Type 0 where
  pub slot : s < slot_limit
  pub place : ℕ
  pub within : place < slot_limit
  pub stands : order_at d place ≡ s

-- the lengths of the arrays: so it is with every dispatcher that the machine holds
pub record Shaped (d : Dispatcher) : Type 0 where
  pub tasks : length d.tasks ≡ slot_limit
  pub order : length d.order ≡ slot_limit
  pub seats : length d.seats ≡ core_limit
