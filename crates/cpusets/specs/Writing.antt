-- Request 2: what a writer answers, and which bytes the lent buffer has afterwards. 19 comes before 20; a refused write has no length and changes no byte.
use Rattle.std.specs.Prelude.{ℕ, ◌≤◌, ◌<◌, ◌≡◌, Ok, IsErrAnd, List, ◌++◌, length, drop}
use Rattle.masks.specs.Masks.{NamesMissing}
use Rattle.cpusets.specs.Answers.{number_of, Written}

pub record Refuses (n : ℕ) (before after : List ℕ) (r : Written) : Type 0 where
  pub answer : IsErrAnd r (λ refusal. number_of refusal ≡ n)
  pub kept : after ≡ before

-- the text stands at the buffer's start, and no other byte changes
pub record Stands (text before after : List ℕ) (r : Written) : Type 0 where
  pub told : r ≡ Ok (length text)
  pub written : after ≡ text ++ drop (length text) before

abbrev pub Equals : List ℕ → List ℕ → Type 0
Equals t u = u ≡ t

pub record WritesText (TextOf : List ℕ → Type 0) (before after : List ℕ) (r : Written) : Type 0 where
  pub text : List ℕ
  pub is : TextOf text
  pub short : length before < length text → Refuses 20 before after r
  pub room : length text ≤ length before → Stands text before after r

pub record Writes (TextOf : List ℕ → Type 0) (n s : ℕ) (before after : List ℕ) (r : Written) : Type 0 where
  pub above : NamesMissing n s → Refuses 19 before after r
  pub below : (NamesMissing n s → ⊥) → WritesText TextOf before after r
