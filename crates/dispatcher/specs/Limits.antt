-- Document 01, "Numbers".
use Rattle.std.specs.Prelude.{ℕ, ◌≤◌}
use Rattle.masks.specs.Masks.{width}

-- a mask has a bit for each core
abbrev pub core_limit : ℕ
core_limit = width

abbrev pub slot_limit : ℕ
slot_limit = 128

-- the mark that is no slot: it stands at unused places of the wake order, on idle cores, and in a report for none
abbrev pub none : ℕ
none = 255

-- an event file has at most so many events
abbrev pub event_limit : ℕ
event_limit = 16000

abbrev pub greatest_priority : ℕ
greatest_priority = 255

-- cores: 1 to 32
abbrev pub LegalCount : ℕ → Type 0
LegalCount n = (1 ≤ n) × (n ≤ core_limit)

-- priority: 1 to 255
abbrev pub LegalPriority : ℕ → Type 0
LegalPriority p = (1 ≤ p) × (p ≤ greatest_priority)
