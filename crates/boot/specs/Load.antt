-- Document 01, "Load": the kernel hands its boot list as a run of task records. All are created in order, or none: the answer names the
-- first refused record's index and number, and index 0 with number 0 or, by request 3, 21 to 25. A slot named twice is refused at its
-- second place, with number 4.
use Rattle.std.specs.Prelude.{ℕ, ◌<◌, ◌≡◌, ◌≢◌, ◌⊎◌, List, [], ◌∷◌, ◌++◌, length, get_or}
use Rattle.laws.specs.Lists.{In}
use Rattle.laws.specs.Answering.{Refusal, ◌when◌, checked_first, Answers}
use Rattle.dispatcher.specs.Slots.{task_at, task_of, no_record}
use Rattle.dispatcher.specs.Answers.{number_of}
use Rattle.dispatcher.specs.Refusals.{IsAbove, IsInUse, IsPriorityZero, IsMaskEmpty, IsMissingCore}
use Rattle.dispatcher.specs.Unsound.{unsound_refusals}
use Rattle.dispatcher.specs.Reports.{still_of}
use Rattle.dispatcher.specs.Promise.{Promised}
use Rattle.dispatcher.specs.declared.TaskRecord.{TaskRecord}
use Rattle.dispatcher.specs.declared.Dispatcher.{Dispatcher}
use Rattle.dispatcher.specs.declared.Outcome.{Outcome}
use Rattle.boot.specs.declared.Loaded.{Loaded}

abbrev pub record_at : List TaskRecord → ℕ → TaskRecord
record_at list i = get_or list i no_record

-- an earlier record names the slot of record i
abbrev pub NamedBefore : List TaskRecord → ℕ → Type 0
NamedBefore list i = (j : ℕ) × (j < i) × ((record_at list j).slot ≡ (record_at list i).slot)

-- why record i is refused where those before it are created
abbrev pub record_refusals : Dispatcher → List TaskRecord → ℕ → List Refusal
record_refusals d list i =
    3 when IsAbove (record_at list i).slot ∷
    4 when (IsInUse d (record_at list i).slot ⊎ NamedBefore list i) ∷
    6 when IsPriorityZero (record_at list i).priority ∷
    7 when IsMaskEmpty (record_at list i).mask ∷
    8 when IsMissingCore d (record_at list i).mask ∷ []

-- record i is the first refused one, and n is its number
pub record FirstRefused (d : Dispatcher) (list : List TaskRecord) (i n : ℕ) : Type 0 where
  pub within : i < length list
  pub number : Answers (record_refusals d list i) n
  pub refused : n ≢ 0
  pub earlier : (j : ℕ) → j < i → Answers (record_refusals d list j) 0

-- some record is the first refused one, with number n
abbrev pub RecordGives : Dispatcher → List TaskRecord → ℕ → Type 0
RecordGives d list n = (i : ℕ) × FirstRefused d list i n

-- why a sound dispatcher refuses the list
abbrev pub list_refusals : Dispatcher → List TaskRecord → List Refusal
list_refusals d list =
    3 when RecordGives d list 3 ∷
    4 when RecordGives d list 4 ∷
    6 when RecordGives d list 6 ∷
    7 when RecordGives d list 7 ∷
    8 when RecordGives d list 8 ∷ []

abbrev pub load_refusals : Dispatcher → List TaskRecord → List Refusal
load_refusals d list = unsound_refusals d ++ list_refusals d list

-- each record's slot holds its task, the other slots what they held, and the rest is as it was: nobody moves, starts or stops
pub record AllCreated (d : Dispatcher) (list : List TaskRecord) (r : Outcome) : Type 0 where
  pub cores : r.dispatcher.cores ≡ d.cores
  pub size : length r.dispatcher.tasks ≡ length d.tasks
  pub named : (i : ℕ) → i < length list → task_at r.dispatcher (record_at list i).slot ≡ task_of (record_at list i)
  pub others : (s : ℕ) → ((i : ℕ) → i < length list → (record_at list i).slot ≢ s) → task_at r.dispatcher s ≡ task_at d s
  pub order : r.dispatcher.order ≡ d.order
  pub seats : r.dispatcher.seats ≡ d.seats
  pub still : r.report ≡ still_of r.report.answer

-- what load does to the dispatcher, and reports
abbrev pub AllOrNone : Dispatcher → List TaskRecord → Outcome → Type 0
AllOrNone d list r = Promised (load_refusals d list) d (AllCreated d list) r

abbrev pub outcome_of : Loaded → Outcome
outcome_of r = record { report = r.report.report; dispatcher = r.dispatcher }

-- the index that goes with the number n
pub record Names (d : Dispatcher) (list : List TaskRecord) (n index : ℕ) : Type 0 where
  pub whole : (n ≡ 0) ⊎ In n checked_first → index ≡ 0
  pub record_number : n ≢ 0 → (In n checked_first → ⊥) → FirstRefused d list index n

pub record Loads (d : Dispatcher) (list : List TaskRecord) (r : Loaded) : Type 0 where
  pub all_or_none : AllOrNone d list (outcome_of r)
  pub names : Names d list (number_of r.report.report.answer) r.report.index
