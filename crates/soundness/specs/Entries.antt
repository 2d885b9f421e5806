-- The entries of the wake order from its first place on, and a table of the places where the slots stand.
use Rattle.std.specs.Prelude.{ℕ, ◌≤◌, ◌<◌, ◌≡◌, ◌≢◌, ◌⊎◌, List, length, get_or}
use Rattle.dispatcher.specs.Limits.{slot_limit, none}
use Rattle.dispatcher.specs.Slots.{order_at, Ready}
use Rattle.dispatcher.specs.Sound.{Entered}
use Rattle.dispatcher.specs.declared.Dispatcher.{Dispatcher}
use Rattle.soundness.specs.Parts.{HeldBelow}

-- p is a place below k where slot s stands, or the mark where there is no such place
abbrev pub PlaceBelow : Dispatcher → ℕ → ℕ → ℕ → Type 0
PlaceBelow d k s p = ((p < k) × (order_at d p ≡ s)) ⊎ ((HeldBelow d.order k s → ⊥) × (p ≡ none))

-- all places below k are entered, and places tells for each slot where among them it stands
pub record Entries (d : Dispatcher) (k : ℕ) (places : List ℕ) : Type 0 where
  pub within : k ≤ slot_limit
  pub entered : (j : ℕ) → j < k → Entered d j
  pub long : length places ≡ slot_limit
  pub each : (s : ℕ) → s < slot_limit → PlaceBelow d k s (get_or places s none)

-- and place k is not
pub record EntriesEnd (d : Dispatcher) (k : ℕ) (places : List ℕ) : Type 0 where
  pub all : Entries d k places
  pub ends : k < slot_limit → Entered d k → ⊥

-- places has an entry for each slot, which is not the mark exactly where the slot is ready
pub record TellsReady (d : Dispatcher) (places : List ℕ) : Type 0 where
  pub long : length places ≡ slot_limit
  pub ready : (s : ℕ) → s < slot_limit → get_or places s none ≢ none → Ready d s
  pub told : (s : ℕ) → Ready d s → get_or places s none ≢ none
