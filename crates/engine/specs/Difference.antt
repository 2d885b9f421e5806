-- Whether tasks that are marked, as those that the engine keeps, are the ones that a dispatcher runs, and if not the lowest slot that is in one set and not in the other.
use Rattle.std.specs.Prelude.{ℕ, ◌≡◌, ◌≢◌, ◌↔◌, Bool, true, false, List, get_or, Option, MatchOption, Result, IfOk}
use Rattle.laws.specs.Lowest.{Lowest, Throughout}
use Rattle.dispatcher.specs.Limits.{slot_limit, none}
use Rattle.dispatcher.specs.declared.Dispatcher.{Dispatcher}
use Rattle.dispatcher.specs.declared.Refusal.{Refusal}
use Rattle.shifting.specs.Board.{Runs}
use Rattle.engine.specs.declared.Kept.{Kept}
use Rattle.engine.specs.Keep.{answer_in, EngineKeeps}

-- slot t is marked exactly if its task runs
abbrev pub Alike : Dispatcher → List Bool → ℕ → Type 0
Alike d tasks t = (get_or tasks t false ≡ true) ↔ Runs d t

-- a task is marked exactly if it has a core
abbrev pub HasCore : Bool → ℕ → Type 0
HasCore marked core = (marked ≡ true) ↔ (core ≢ none)

-- no slot differs
abbrev pub NoDifference : Dispatcher → List Bool → Type 0
NoDifference d tasks = Throughout slot_limit (Alike d tasks)

abbrev pub Difference : Dispatcher → List Bool → Option ℕ → Type 0
Difference d tasks slot = MatchOption slot (NoDifference d tasks) (Lowest slot_limit (Alike d tasks))

-- engine and dispatcher compared: what differs between the tasks that the engine keeps and those that run; nothing is said of a dispatcher that is refused
pub record Compares (d : Dispatcher) (r : Result (Option ℕ) Refusal) : Type 0 where
  pub kept : Result Kept Refusal
  pub keeps : EngineKeeps d kept
  pub answer : answer_in r ≡ answer_in kept
  pub done : IfOk kept (λ k. IfOk r (Difference d k.tasks))
