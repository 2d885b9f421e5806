-- What one line gives: Reads is what is promised of reading it, and TextOut s says which text the set s has in the other format.
use Rattle.std.specs.Prelude.{ℕ, ◌≡◌, Ok, Err, List, [], ◌∷◌, ◌++◌}
use Rattle.texts.specs.Joined.{newline}
use Rattle.decimals.specs.Fault.{fault_text}
use Rattle.cpusets.specs.Answers.{number_of, Reading}

-- the text of a set, and its newline
pub record LineOf (IsText : List ℕ → Type 0) (line : List ℕ) : Type 0 where
  pub text : List ℕ
  pub is : IsText text
  pub ended : line ≡ text ++ (newline ∷ [])

-- the line of what was read: a set's, or the refusal's
abbrev pub Says : (ℕ → List ℕ → Type 0) → Reading → List ℕ → Type 0
Says TextOut (Ok s) line = LineOf (TextOut s) line
Says TextOut (Err fault) line = line ≡ fault_text (number_of fault.refusal) fault.offset

pub record Turns (Reads : Reading → Type 0) (TextOut : ℕ → List ℕ → Type 0) (line : List ℕ) : Type 0 where
  pub reading : Reading
  pub reads : Reads reading
  pub says : Says TextOut reading line
