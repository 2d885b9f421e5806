-- Document 01: create fills the named slot, not ready.
use Rattle.std.specs.Prelude.{ℕ, List, [], ◌∷◌, ◌++◌}
use Rattle.laws.specs.Answering.{Refusal, ◌when◌}
use Rattle.dispatcher.specs.Refusals.{IsAbove, IsInUse, IsPriorityZero, IsMaskEmpty, IsMissingCore}
use Rattle.dispatcher.specs.Unsound.{unsound_refusals}
use Rattle.dispatcher.specs.Promise.{Promised}
use Rattle.dispatcher.specs.declared.Dispatcher.{Dispatcher}
use Rattle.dispatcher.specs.declared.Outcome.{Outcome}
use Rattle.tasks.specs.Table.{Writes}

-- why a sound dispatcher refuses a task
abbrev pub entry_refusals : Dispatcher → ℕ → ℕ → ℕ → List Refusal
entry_refusals d slot priority mask =
    3 when IsAbove slot ∷
    4 when IsInUse d slot ∷
    6 when IsPriorityZero priority ∷
    7 when IsMaskEmpty mask ∷
    8 when IsMissingCore d mask ∷ []

abbrev pub create_refusals : Dispatcher → ℕ → ℕ → ℕ → List Refusal
create_refusals d slot priority mask = unsound_refusals d ++ entry_refusals d slot priority mask

abbrev pub Creates : Dispatcher → ℕ → ℕ → ℕ → Outcome → Type 0
Creates d slot priority mask r = Promised (create_refusals d slot priority mask) d (Writes d slot (record { priority = priority; mask = mask })) r
