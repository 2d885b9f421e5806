-- Document 01's cases to be proved, and those of request 1: a fresh dispatcher, then calls, each with what it must report and the seats afterwards.
use Rattle.std.specs.Prelude.{ℕ, ◌≡◌, List, [], ◌∷◌, take}
use Rattle.dispatcher.specs.Limits.{none}
use Rattle.dispatcher.specs.Answers.{number_of}
use Rattle.dispatcher.specs.Fresh.{Freshly}
use Rattle.dispatcher.specs.declared.Dispatcher.{Dispatcher}
use Rattle.dispatcher.specs.declared.Outcome.{Outcome}
use Rattle.calls.specs.Call.{Call, create, delete, wake, block, Does}

-- a call and its line: answer, moves, started, stopped, then for each core the slot or the mark
pub record Line : Type 0 where
  pub call : Call
  pub answer : ℕ
  pub moves : ℕ
  pub started : ℕ
  pub stopped : ℕ
  pub seats : List ℕ

abbrev pub line : Call → ℕ → ℕ → ℕ → ℕ → List ℕ → Line
line c a m s e l = record { call = c; answer = a; moves = m; started = s; stopped = e; seats = l }

pub record Prints (l : Line) (r : Outcome) : Type 0 where
  pub answer : number_of r.report.answer ≡ l.answer
  pub moves : r.report.moves ≡ l.moves
  pub started : r.report.started ≡ l.started
  pub stopped : r.report.stopped ≡ l.stopped
  pub seats : take r.dispatcher.cores r.dispatcher.seats ≡ l.seats

-- from d every result that the promises allow prints these lines
abbrev pub Follows : Dispatcher → List Line → Type 0
Follows d [] = Unit {0}
Follows d (l ∷ ls) = (r : Outcome) → Does l.call d r → Prints l r × Follows r.dispatcher ls

-- fresh with so many cores, its answer, and the lines that follow
pub record Case : Type 0 where
  pub cores : ℕ
  pub answer : ℕ
  pub lines : List Line

abbrev pub case : ℕ → ℕ → List Line → Case
case n a ls = record { cores = n; answer = a; lines = ls }

pub record Holds (c : Case) : Type 0 where
  pub answer : (r : Outcome) → Freshly c.cores r → number_of r.report.answer ≡ c.answer
  pub lines : (r : Outcome) → Freshly c.cores r → Follows r.dispatcher c.lines

abbrev pub AllHold : List Case → Type 0
AllHold [] = Unit {0}
AllHold (c ∷ cs) = Holds c × AllHold cs

-- document 01's listing: four creates, then eight events; the last of them, refused 11 there, is accepted by request 1
abbrev pub listing : List Line
listing =
    line (create 0 50 3) 0 0 none none (none ∷ none ∷ none ∷ []) ∷
    line (create 1 40 6) 0 0 none none (none ∷ none ∷ none ∷ []) ∷
    line (create 2 30 1) 0 0 none none (none ∷ none ∷ none ∷ []) ∷
    line (create 5 30 4) 0 0 none none (none ∷ none ∷ none ∷ []) ∷
    line (wake 0) 0 0 0 none (0 ∷ none ∷ none ∷ []) ∷
    line (wake 1) 0 0 1 none (0 ∷ 1 ∷ none ∷ []) ∷
    line (wake 2) 0 2 2 none (2 ∷ 0 ∷ 1 ∷ []) ∷
    line (wake 5) 0 0 none none (2 ∷ 0 ∷ 1 ∷ []) ∷
    line (block 0) 0 1 5 none (2 ∷ 1 ∷ 5 ∷ []) ∷
    line (wake 5) 9 0 none none (2 ∷ 1 ∷ 5 ∷ []) ∷
    line (wake 0) 0 1 0 5 (2 ∷ 0 ∷ 1 ∷ []) ∷
    line (delete 5) 0 0 none none (2 ∷ 0 ∷ 1 ∷ []) ∷ []

-- request 1 on a running task: slot 0 is deleted, slot 1 moves to its core, and slot 2, which waited, starts on the core that slot 1 left;
-- then nobody waits, and the core of slot 2, deleted in its turn, stays idle; a slot is deleted once, and slot 3, never woken, without a stir
abbrev pub endings : List Line
endings =
    line (create 0 50 1) 0 0 none none (none ∷ none ∷ []) ∷
    line (create 1 40 3) 0 0 none none (none ∷ none ∷ []) ∷
    line (create 2 30 2) 0 0 none none (none ∷ none ∷ []) ∷
    line (create 3 30 2) 0 0 none none (none ∷ none ∷ []) ∷
    line (wake 0) 0 0 0 none (0 ∷ none ∷ []) ∷
    line (wake 1) 0 0 1 none (0 ∷ 1 ∷ []) ∷
    line (wake 2) 0 0 none none (0 ∷ 1 ∷ []) ∷
    line (delete 0) 0 1 2 none (1 ∷ 2 ∷ []) ∷
    line (delete 2) 0 0 none none (1 ∷ none ∷ []) ∷
    line (delete 2) 5 0 none none (1 ∷ none ∷ []) ∷
    line (delete 3) 0 0 none none (1 ∷ none ∷ []) ∷ []

-- fresh with 0 cores is refused 2, with 32 done, with 33 refused 2; on a fresh dispatcher of one core, with priority 1, create of slot 0
-- with mask 2 is refused 8, of slot 127 with mask 1 done, of slot 128 with mask 1 refused 3; the event file's listing for three cores; and request 1's on two
abbrev pub cases : List Case
cases =
    case 0 2 [] ∷
    case 32 0 [] ∷
    case 33 2 [] ∷
    case 1 0 (line (create 0 1 2) 8 0 none none (none ∷ []) ∷ []) ∷
    case 1 0 (line (create 127 1 1) 0 0 none none (none ∷ []) ∷ []) ∷
    case 1 0 (line (create 128 1 1) 3 0 none none (none ∷ []) ∷ []) ∷
    case 3 0 listing ∷
    case 2 0 endings ∷ []
