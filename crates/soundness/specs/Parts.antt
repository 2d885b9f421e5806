-- What is asked of one part of a dispatcher: a list of slots as the wake order or the seats.
use Rattle.std.specs.Prelude.{ℕ, ◌≤◌, ◌<◌, ◌≡◌, List, get_or}
use Rattle.dispatcher.specs.Limits.{none}

-- a place below k holds slot s
pub record HeldBelow (l : List ℕ) (k s : ℕ) : Type 0 where
  pub place : ℕ
  pub below : place < k
  pub holds : get_or l place none ≡ s

-- place k holds the mark
abbrev pub Unused : List ℕ → ℕ → Type 0
Unused l k = get_or l k none ≡ none

-- it does, if it is not below `from`
abbrev pub UnusedFrom : List ℕ → ℕ → ℕ → Type 0
UnusedFrom l from k = from ≤ k → Unused l k
