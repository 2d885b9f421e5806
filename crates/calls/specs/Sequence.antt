-- A sequence of calls on a fresh dispatcher, accepted and refused ones in any mixture.
use Rattle.std.specs.Prelude.{ℕ, ◌≡◌, List, [], ◌∷◌}
use Rattle.dispatcher.specs.Fresh.{Freshly}
use Rattle.dispatcher.specs.declared.Dispatcher.{Dispatcher}
use Rattle.dispatcher.specs.declared.Outcome.{Outcome}
use Rattle.calls.specs.Call.{Call, Does, Fits}

-- a call that was made, and what came of it
pub record Step : Type 0 where
  pub call : Call
  pub outcome : Outcome

-- d is what the calls, the latest of them first, have made of a fresh dispatcher of n cores
abbrev pub After : ℕ → List Step → Dispatcher → Type 0
After n [] d = (r : Outcome) × Freshly n r × (d ≡ r.dispatcher)
After n (s ∷ l) d = (e : Dispatcher) × After n l e × Fits s.call × Does s.call e s.outcome × (d ≡ s.outcome.dispatcher)
