-- Document 01: fresh takes a core count; all slots of a fresh dispatcher are empty. A refused fresh returns number 2 with an empty
-- dispatcher of one core.
use Rattle.std.specs.Prelude.{ℕ, ◌≡◌, ◌≢◌, List, [], ◌∷◌, replicate}
use Rattle.laws.specs.Answering.{Refusal, ◌when◌, Answers}
use Rattle.dispatcher.specs.Limits.{core_limit, slot_limit, none}
use Rattle.dispatcher.specs.Slots.{no_task}
use Rattle.dispatcher.specs.Answers.{number_of}
use Rattle.dispatcher.specs.Refusals.{IsBadCount}
use Rattle.dispatcher.specs.Reports.{still_of}
use Rattle.dispatcher.specs.declared.Dispatcher.{Dispatcher}
use Rattle.dispatcher.specs.declared.Outcome.{Outcome}

-- every slot empty, nobody woken, nobody seated
abbrev pub empty_of : ℕ → Dispatcher
empty_of n = record { cores = n; tasks = replicate slot_limit no_task; order = replicate slot_limit none; seats = replicate core_limit none }

abbrev pub fresh_refusals : ℕ → List Refusal
fresh_refusals cores = 2 when IsBadCount cores ∷ []

pub record Freshly (cores : ℕ) (r : Outcome) : Type 0 where
  pub answer : Answers (fresh_refusals cores) (number_of r.report.answer)
  pub still : r.report ≡ still_of r.report.answer
  pub done : number_of r.report.answer ≡ 0 → r.dispatcher ≡ empty_of cores
  pub refused : number_of r.report.answer ≢ 0 → r.dispatcher ≡ empty_of 1
