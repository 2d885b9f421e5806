-- Demand 2, as request 1 reads it: the ready tasks are those woken and not since blocked nor deleted. This is said of the calls that were made.
use Rattle.std.specs.Prelude.{ℕ, ◌≡◌, ◌⊎◌, List, [], ◌∷◌, ◌++◌}
use Rattle.dispatcher.specs.Answers.{number_of}
use Rattle.calls.specs.Call.{wake, block, delete}
use Rattle.calls.specs.Sequence.{Step}

-- the call was an accepted wake of slot t, an accepted block of it, an accepted delete of it
abbrev pub Woke : Step → ℕ → Type 0
Woke s t = (s.call ≡ wake t) × (number_of s.outcome.report.answer ≡ 0)

abbrev pub DidBlock : Step → ℕ → Type 0
DidBlock s t = (s.call ≡ block t) × (number_of s.outcome.report.answer ≡ 0)

abbrev pub DidDelete : Step → ℕ → Type 0
DidDelete s t = (s.call ≡ delete t) × (number_of s.outcome.report.answer ≡ 0)

abbrev pub Among : Step → List Step → Type 0
Among s [] = ⊥
Among s (a ∷ l) = (s ≡ a) ⊎ Among s l

-- of the calls, the latest first, one woke t, and none after it blocked t or deleted it
pub record WokenSince (l : List Step) (t : ℕ) : Type 0 where
  pub later : List Step
  pub waking : Step
  pub earlier : List Step
  pub split : l ≡ later ++ (waking ∷ earlier)
  pub woken : Woke waking t
  pub not_since : (s : Step) → Among s later → DidBlock s t ⊎ DidDelete s t → ⊥
