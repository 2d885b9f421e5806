-- Document 01: what the line writer refuses, and which bytes the lent buffer has afterwards.
use Rattle.std.specs.Prelude.{ℕ, ◌≤◌, ◌<◌, ◌≡◌, List, [], ◌∷◌, ◌++◌, length, take, drop, Result, Ok, Err, IfOk, OnOk, OnErr}
use Rattle.laws.specs.Answering.{Refusal, ◌when◌, Answers}
use Rattle.decimals.specs.Fault.{fault_text}
use Rattle.dispatcher.specs.Answers.{Answer, number_of}
use Rattle.dispatcher.specs.Unsound.{unsound_refusals}
use Rattle.dispatcher.specs.Promise.{Answered}
use Rattle.dispatcher.specs.declared.Refusal.{Refusal as Reason}
use Rattle.dispatcher.specs.declared.Dispatcher.{Dispatcher}
use Rattle.lines.specs.declared.Line.{Line}
use Rattle.lines.specs.Text.{line_text}

abbrev pub IsLineKind : ℕ → Type 0
IsLineKind kind = kind ≤ 3

-- a line with the seats of a dispatcher, one for each of its cores
abbrev pub text_of : Line → Dispatcher → List ℕ
text_of l d = line_text l (take d.cores d.seats)

-- 15: line longer than the lent buffer
abbrev pub IsLong : List ℕ → List ℕ → Type 0
IsLong text buffer = length buffer < length text

-- why the line of a sound dispatcher is refused
abbrev pub text_refusals : Line → Dispatcher → List ℕ → List Refusal
text_refusals l d buffer = 14 when (IsLineKind l.kind → ⊥) ∷ 15 when IsLong (text_of l d) buffer ∷ []

abbrev pub line_refusals : Line → Dispatcher → List ℕ → List Refusal
line_refusals l d buffer = unsound_refusals d ++ text_refusals l d buffer

-- what is answered where nothing but the text's length can refuse it
abbrev pub SaysLong : List ℕ → List ℕ → Answer → Type 0
SaysLong text buffer a = Answers (15 when IsLong text buffer ∷ []) (number_of a)

-- the length of what was written, or why nothing was
abbrev pub Written : Type 0
Written = Result ℕ Reason

abbrev pub answer_of : Written → Answer
answer_of (Ok n) = Ok tt
answer_of (Err r) = Err r

-- the answer is what Says allows. Accepted: the text stands at the buffer's start, no other byte changes, and its length is returned;
-- refused: no byte changes
pub record Stands (Says : Answer → Type 0) (text before after : List ℕ) (r : Written) : Type 0 where
  pub answer : Says (answer_of r)
  pub length_told : IfOk r (λ n. n ≡ length text)
  pub written : OnOk r (after ≡ text ++ drop (length text) before)
  pub kept : OnErr r (after ≡ before)

abbrev pub Writes : Line → Dispatcher → List ℕ → List ℕ → Written → Type 0
Writes l d before after r = Stands (Answered (line_refusals l d before) d) (text_of l d) before after r

-- the line of a refused file
abbrev pub WritesFault : ℕ → ℕ → List ℕ → List ℕ → Written → Type 0
WritesFault n offset before after r = Stands (SaysLong (fault_text n offset) before) (fault_text n offset) before after r
