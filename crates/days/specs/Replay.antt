-- A run of steps: the lines of the calls from k on, as many as a buffer holds.
use Rattle.std.specs.Prelude.{ℕ, zero, suc, ◌+◌, ◌≤◌, ◌≡◌, List, [], ◌∷◌, ◌++◌, length, drop, Option, None, Result, Ok, Err}
use Rattle.dispatcher.specs.Sound.{Sound}
use Rattle.dispatcher.specs.Fresh.{Freshly}
use Rattle.dispatcher.specs.Answers.{Answer}
use Rattle.dispatcher.specs.declared.Refusal.{Refusal}
use Rattle.dispatcher.specs.declared.Dispatcher.{Dispatcher}
use Rattle.dispatcher.specs.declared.Outcome.{Outcome}
use Rattle.files.specs.Layout.{core_count, record_count_of, event_count}
use Rattle.files.specs.Faults.{WellFormed}
use Rattle.lines.specs.Line.{text_of}
use Rattle.calls.specs.Call.{Call, Does}
use Rattle.calls.specs.Sequence.{Step}
use Rattle.days.specs.declared.Stepped.{Stepped}
use Rattle.days.specs.declared.Replayed.{Replayed}
use Rattle.days.specs.Calls.{CallAt}
use Rattle.days.specs.Step.{line_of, Steps}

-- call k of the file makes o of d, and t is its line; a line is written of a sound dispatcher only
pub record LineAt (b : List ℕ) (k : ℕ) (d : Dispatcher) (o : Outcome) (t : List ℕ) : Type 0 where
  pub call : Call
  pub at : CallAt b k call
  pub does : Does call d o
  pub sound : Sound o.dispatcher
  pub text : t ≡ text_of (line_of k call o) o.dispatcher

-- no line of call k on d has more bytes than a line can have
abbrev pub Short : List ℕ → ℕ → Dispatcher → Type 0
Short b k d = (o : Outcome) (t : List ℕ) → LineAt b k d o t → length t ≤ 231

-- n calls of the file, from call k on, are made one after the other from d: they leave e, and t is their lines
abbrev pub Prints : List ℕ → ℕ → Dispatcher → ℕ → Dispatcher → List ℕ → Type 0
Prints b k d zero e t = (e ≡ d) × (t ≡ [])
Prints b k d (suc n) e t = (o : Outcome) × (l : List ℕ) × (u : List ℕ) × LineAt b k d o l × (t ≡ l ++ u) × Prints b (k + 1) o.dispatcher n e u

-- a step that writes nothing, and answers so
abbrev pub stop_of : Answer → Result (Option Stepped) Refusal
stop_of (Ok done) = Ok None
stop_of (Err r) = Err r

-- the step of call k writes nothing and answers a
pub record Stops (b : List ℕ) (k : ℕ) (d : Dispatcher) (room : List ℕ) (a : Answer) : Type 0 where
  pub after : List ℕ
  pub steps : Steps b k d room after (stop_of a)

-- the lines stand at the buffer's start and no other byte changes; the answer is that of the first step which writes nothing
pub record Replays (b : List ℕ) (k : ℕ) (d : Dispatcher) (before after : List ℕ) (r : Replayed) : Type 0 where
  pub made : ℕ
  pub text : List ℕ
  pub prints : Prints b k d made r.dispatcher text
  pub next : r.next ≡ k + made
  pub length_told : r.length ≡ length text
  pub fits : length text ≤ length before
  pub written : after ≡ text ++ drop (length text) before
  pub stops : Stops b (k + made) r.dispatcher (drop (length text) before) r.answer

-- the lines of a day: one for each record and event of a well-formed file, on a fresh dispatcher of so many cores as it says
pub record DayText (b t : List ℕ) : Type 0 where
  pub well_formed : WellFormed b
  pub fresh : Outcome
  pub freshly : Freshly (core_count b) fresh
  pub after : Dispatcher
  pub prints : Prints b 0 fresh.dispatcher (record_count_of b + event_count b) after t

-- a file's calls from the first on, as a sequence with the latest first
abbrev pub CallsOf : List ℕ → List Step → Type 0
CallsOf b [] = Unit {0}
CallsOf b (s ∷ l) = CallAt b (length l) s.call × CallsOf b l
