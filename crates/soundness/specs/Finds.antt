-- What a search for a breach answers.
use Rattle.std.specs.Prelude.{ℕ, Option, MatchOption}
use Rattle.laws.specs.Lowest.{Lowest, Throughout}

-- the lowest of n slots, places or cores that breaks a condition, or nothing where none does
abbrev pub Finds : ℕ → (ℕ → Type 0) → Option ℕ → Type 0
Finds n Kept r = MatchOption r (Throughout n Kept) (Lowest n Kept)
