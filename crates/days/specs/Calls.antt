-- Document 01, "Event file": the calls that a file makes, one for each record and event, from 0 on: records become creates, then the events.
use Rattle.std.specs.Prelude.{ℕ, ◌-◌, ◌≤◌, cond, List, eqb, Option, Some, None}
use Rattle.files.specs.Layout.{record_count_of}
use Rattle.files.specs.Reading.{ReadsRecord, ReadsEvent}
use Rattle.calls.specs.Call.{Call, create, delete, load, wake, block}
use Rattle.days.specs.declared.FileCall.{FileCall}
use Rattle.days.specs.declared.FileCall.TheVariants.{Create, Wake, Block, Delete}

abbrev pub EventAt : List ℕ → ℕ → ℕ → ℕ → Type 0
EventAt b k kind slot = (record_count_of b ≤ k) × ReadsEvent b (k - record_count_of b) (Some (record { kind = kind; slot = slot }))

-- kinds: 1 wake, 2 block, 3 delete; a file creates record by record and has no load
abbrev pub CallAt : List ℕ → ℕ → Call → Type 0
CallAt b k (create slot priority mask) = ReadsRecord b k (Some (record { slot = slot; priority = priority; mask = mask }))
CallAt b k (wake slot) = EventAt b k 1 slot
CallAt b k (block slot) = EventAt b k 2 slot
CallAt b k (delete slot) = EventAt b k 3 slot
CallAt b k (load list) = ⊥

abbrev pub HasNoCall : List ℕ → ℕ → Type 0
HasNoCall b k = (c : Call) → CallAt b k c → ⊥

-- what a call of a file asks for
abbrev pub call_of : FileCall → Call
call_of (Create r) = create r.slot r.priority r.mask
call_of (Wake slot) = wake slot
call_of (Block slot) = block slot
call_of (Delete slot) = delete slot

-- the call of an event
abbrev pub event_call_of : ℕ → ℕ → Option FileCall
event_call_of kind slot = cond (eqb kind 1) (Some (Wake slot)) (cond (eqb kind 2) (Some (Block slot)) (cond (eqb kind 3) (Some (Delete slot)) None))

abbrev pub ReadsCall : List ℕ → ℕ → Option FileCall → Type 0
ReadsCall b k (Some f) = CallAt b k (call_of f)
ReadsCall b k None = HasNoCall b k
