-- The refusals of every call on the task in a slot: dispatcher not sound, slot above 127, slot empty.
use Rattle.std.specs.Prelude.{ℕ, List, [], ◌∷◌, ◌++◌}
use Rattle.laws.specs.Answering.{Refusal, ◌when◌}
use Rattle.dispatcher.specs.Refusals.{IsAbove, IsEmpty}
use Rattle.dispatcher.specs.Unsound.{unsound_refusals}
use Rattle.dispatcher.specs.declared.Dispatcher.{Dispatcher}

-- why a sound dispatcher refuses the call
abbrev pub slot_refusals : Dispatcher → ℕ → List Refusal
slot_refusals d slot =
    3 when IsAbove slot ∷
    5 when IsEmpty d slot ∷ []

abbrev pub named_refusals : Dispatcher → ℕ → List Refusal
named_refusals d slot = unsound_refusals d ++ slot_refusals d slot
