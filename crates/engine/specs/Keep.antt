-- Document 02, request 4: what the engine keeps. The set of the tasks kept is fixed; which legal seating of them is given is free.
use Rattle.std.specs.Prelude.{ℕ, ◌≤◌, ◌≡◌, ◌↔◌, Bool, true, false, get_or, length, replicate, Result, Ok, IfOk}
use Rattle.std.specs.Result.{result_and}
use Rattle.seating.specs.Running.{Running}
use Rattle.seating.specs.Strong.{Legal}
use Rattle.seating.specs.Greedy.{Greedy}
use Rattle.dispatcher.specs.Limits.{core_limit, slot_limit, none}
use Rattle.dispatcher.specs.Slots.{Ready}
use Rattle.dispatcher.specs.Answers.{Answer}
use Rattle.dispatcher.specs.Unsound.{unsound_refusals}
use Rattle.dispatcher.specs.Promise.{Answered}
use Rattle.dispatcher.specs.declared.Refusal.{Refusal}
use Rattle.dispatcher.specs.declared.Dispatcher.{Dispatcher}
use Rattle.order.specs.ComesBefore.{ComesBefore}
use Rattle.shifting.specs.Board.{may_run}
use Rattle.engine.specs.declared.Kept.{Kept}

-- whether slot t is marked, and the slot on core c
abbrev pub kept_in : Kept → ℕ → Bool
kept_in r t = get_or r.tasks t false

abbrev pub seat_of : Kept → ℕ → ℕ
seat_of r c = get_or r.seats c none

-- nobody is kept
abbrev pub nothing : Kept
nothing = record { tasks = replicate slot_limit false; seats = replicate core_limit none }

-- the tasks kept are those that the rule keeps, and the seats are a legal seating of just these
pub record WorkedOut (d : Dispatcher) (r : Kept) : Type 0 where
  pub slots : length r.tasks ≡ slot_limit
  pub greedy : Greedy d.cores none (may_run d) (ComesBefore d) (Ready d) (kept_in r)
  pub legal : Legal d.cores none (may_run d) (Ready d) (seat_of r)
  pub seated : (t : ℕ) → Running d.cores none (seat_of r) t ↔ (kept_in r t ≡ true)
  pub missing : (c : ℕ) → d.cores ≤ c → seat_of r c ≡ none

-- done where there is a value, and refused with the same refusal where there is none
abbrev pub answer_in : {A : Type 0} → Result A Refusal → Answer
answer_in r = result_and r (Ok tt)

-- an unsound dispatcher is refused as by every call
pub record EngineKeeps (d : Dispatcher) (r : Result Kept Refusal) : Type 0 where
  pub answered : Answered (unsound_refusals d) d (answer_in r)
  pub done : IfOk r (WorkedOut d)
