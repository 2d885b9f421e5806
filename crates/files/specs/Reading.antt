-- What the file reader answers.
use Rattle.std.specs.Prelude.{ℕ, ◌+◌, ◌≡◌, List, Option, Some, None, Result, Ok, Err}
use Rattle.dispatcher.specs.Answers.{refusal_number}
use Rattle.dispatcher.specs.declared.TaskRecord.{TaskRecord}
use Rattle.files.specs.Layout.{byte, lowest_first, mask_bytes, core_count, record_count_of, record_place, event_count, event_place, HasRecord, HasEvent}
use Rattle.files.specs.Faults.{WellFormed, FirstFault}
use Rattle.files.specs.declared.Layout.{Layout}
use Rattle.files.specs.declared.Fault.{Fault}
use Rattle.files.specs.declared.FileEvent.{FileEvent}

abbrev pub IsFirstFault : List ℕ → Fault → Type 0
IsFirstFault b f = FirstFault b (refusal_number f.refusal) f.offset

-- a well-formed file has a layout, any other a first fault
abbrev pub Reads : List ℕ → Result Layout Fault → Type 0
Reads b (Ok l) = WellFormed b × (l.cores ≡ core_count b) × (l.records ≡ record_count_of b) × (l.events ≡ event_count b)
Reads b (Err f) = IsFirstFault b f

-- record i: slot, priority, and the mask, lowest byte first
abbrev pub ReadsRecord : List ℕ → ℕ → Option TaskRecord → Type 0
ReadsRecord b i (Some r) =
    HasRecord b i × (r.slot ≡ byte b (record_place b i)) × (r.priority ≡ byte b (record_place b i + 1)) × (r.mask ≡ lowest_first mask_bytes b (record_place b i + 2))
ReadsRecord b i None = HasRecord b i → ⊥

-- event i: a kind and a slot
abbrev pub ReadsEvent : List ℕ → ℕ → Option FileEvent → Type 0
ReadsEvent b i (Some e) = HasEvent b i × (e.kind ≡ byte b (event_place b i)) × (e.slot ≡ byte b (event_place b i + 1))
ReadsEvent b i None = HasEvent b i → ⊥
