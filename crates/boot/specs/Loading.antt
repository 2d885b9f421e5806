-- What the records of a list come to: all of them stand in their slots, or one was refused.
use Rattle.std.specs.Prelude.{ℕ, ◌<◌, ◌≡◌, ◌≢◌, List, length}
use Rattle.dispatcher.specs.Slots.{task_at, task_of}
use Rattle.dispatcher.specs.Answers.{Answer, number_of}
use Rattle.dispatcher.specs.Promise.{Answered}
use Rattle.dispatcher.specs.declared.TaskRecord.{TaskRecord}
use Rattle.dispatcher.specs.declared.Dispatcher.{Dispatcher}
use Rattle.boot.specs.Load.{record_at, load_refusals, Names}

-- none of the first k records names slot s
abbrev pub NamedByNone : List TaskRecord → ℕ → ℕ → Type 0
NamedByNone list k s = (i : ℕ) → i < k → (record_at list i).slot ≢ s

-- e is d with the first k records in their slots
pub record Filling (d : Dispatcher) (list : List TaskRecord) (k : ℕ) (e : Dispatcher) : Type 0 where
  pub cores : e.cores ≡ d.cores
  pub size : length e.tasks ≡ length d.tasks
  pub named : (i : ℕ) → i < k → task_at e (record_at list i).slot ≡ task_of (record_at list i)
  pub others : (s : ℕ) → NamedByNone list k s → task_at e s ≡ task_at d s
  pub order : e.order ≡ d.order
  pub seats : e.seats ≡ d.seats

-- the answer of a load with the index that goes with it; where it is done, e has all the records
pub record Comes (d : Dispatcher) (list : List TaskRecord) (a : Answer) (index : ℕ) (e : Dispatcher) : Type 0 where
  pub answer : Answered (load_refusals d list) d a
  pub names : Names d list (number_of a) index
  pub filled : number_of a ≡ 0 → Filling d list (length list) e
