-- One step of a day: a call of the file, and its line.
use Rattle.std.specs.Prelude.{ℕ, ◌+◌, ◌≡◌, ◌⊎◌, List, Option, Some, None, Result, Ok, Err}
use Rattle.dispatcher.specs.Limits.{none}
use Rattle.dispatcher.specs.Reports.{plain_of}
use Rattle.dispatcher.specs.declared.Refusal.{Refusal}
use Rattle.dispatcher.specs.declared.Dispatcher.{Dispatcher}
use Rattle.dispatcher.specs.declared.Outcome.{Outcome}
use Rattle.lines.specs.Line.{Writes}
use Rattle.lines.specs.declared.Line.{Line}
use Rattle.calls.specs.Call.{Call, create, delete, load, wake, block, Does}
use Rattle.days.specs.declared.Stepped.{Stepped}
use Rattle.days.specs.Calls.{CallAt, HasNoCall}

-- 0 to 3 for C, W, B, D; a load, which no file has, counts as its creates
abbrev pub kind_of : Call → ℕ
kind_of (create slot priority mask) = 0
kind_of (wake slot) = 1
kind_of (block slot) = 2
kind_of (delete slot) = 3
kind_of (load list) = 0

abbrev pub slot_of : Call → ℕ
slot_of (create slot priority mask) = slot
slot_of (wake slot) = slot
slot_of (block slot) = slot
slot_of (delete slot) = slot
slot_of (load list) = none

-- the line of call k: the running number is from 1
abbrev pub line_with : ℕ → ℕ → ℕ → Outcome → Line
line_with k kind slot o = record { number = k + 1; kind = kind; slot = slot; report = plain_of o.report }

abbrev pub line_of : ℕ → Call → Outcome → Line
line_of k c o = line_with k (kind_of c) (slot_of c) o

-- what a call becomes with its line: how long the line is and the dispatcher after the call, or why the line is refused
abbrev pub Told : Line → Outcome → List ℕ → List ℕ → Result (Option Stepped) Refusal → Type 0
Told line made before after (Ok (Some s)) = Writes line made.dispatcher before after (Ok s.length) × (s.dispatcher ≡ made.dispatcher)
Told line made before after (Ok None) = ⊥
Told line made before after (Err r) = Writes line made.dispatcher before after (Err r)

-- the call is made and its line written; where the line is refused nothing comes of the call
pub record Tells (b : List ℕ) (k : ℕ) (d : Dispatcher) (before after : List ℕ) (r : Result (Option Stepped) Refusal) : Type 0 where
  pub call : Call
  pub at : CallAt b k call
  pub outcome : Outcome
  pub does : Does call d outcome
  pub told : Told (line_of k call outcome) outcome before after r

-- where the file has no such call nothing is written
pub record Ended (b : List ℕ) (k : ℕ) (before after : List ℕ) (r : Result (Option Stepped) Refusal) : Type 0 where
  pub none : HasNoCall b k
  pub nothing : r ≡ Ok None
  pub bytes : after ≡ before

abbrev pub Steps : List ℕ → ℕ → Dispatcher → List ℕ → List ℕ → Result (Option Stepped) Refusal → Type 0
Steps b k d before after r = Tells b k d before after r ⊎ Ended b k before after r
