-- A day, and the event file that says it: its three sections, one after the other.
use Rattle.std.specs.Prelude.{ℕ, zero, suc, ◌/◌, ◌%◌, ◌^◌, ◌≤◌, ◌<◌, List, [], ◌∷◌, ◌++◌, length}
use Rattle.laws.specs.Lists.{All}
use Rattle.dispatcher.specs.Limits.{event_limit, LegalCount}
use Rattle.dispatcher.specs.declared.TaskRecord.{TaskRecord}
use Rattle.files.specs.Layout.{byte, mask_bytes}
use Rattle.files.specs.Faults.{IsEventKind}

pub record Happening : Type 0 where
  pub kind : ℕ
  pub slot : ℕ

pub record Day : Type 0 where
  pub cores : ℕ
  pub records : List TaskRecord
  pub events : List Happening

-- n in k bytes, lowest first
abbrev pub bytes_of : ℕ → ℕ → List ℕ
bytes_of zero n = []
bytes_of (suc k) n = n % 256 ∷ bytes_of k (n / 256)

abbrev pub record_bytes : List TaskRecord → List ℕ
record_bytes [] = []
record_bytes (r ∷ rs) = r.slot ∷ r.priority ∷ (bytes_of mask_bytes r.mask ++ record_bytes rs)

abbrev pub event_bytes : List Happening → List ℕ
event_bytes [] = []
event_bytes (e ∷ es) = e.kind ∷ e.slot ∷ event_bytes es

-- the core count; the tasks after their count; the events after theirs
abbrev pub file_of : Day → List ℕ
file_of d = d.cores ∷ length d.records ∷ (record_bytes d.records ++ (bytes_of 2 (length d.events) ++ event_bytes d.events))

abbrev pub FitsByte : ℕ → Type 0
FitsByte n = n < 256

-- each number of the list is a byte
abbrev pub Bytes : List ℕ → Type 0
Bytes b = (o : ℕ) → FitsByte (byte b o)

-- each field in its bytes, and an event's kind is one
abbrev pub FitsRecord : TaskRecord → Type 0
FitsRecord r = FitsByte r.slot × FitsByte r.priority × (r.mask < 256 ^ mask_bytes)

abbrev pub FitsEvent : Happening → Type 0
FitsEvent e = IsEventKind e.kind × FitsByte e.slot

-- what a file can say
pub record LegalDay (d : Day) : Type 0 where
  pub count : LegalCount d.cores
  pub many_records : FitsByte (length d.records)
  pub records : All FitsRecord d.records
  pub many_events : length d.events ≤ event_limit
  pub events : All FitsEvent d.events

-- what is read past the end of a list of events
abbrev pub no_event : Happening
no_event = record { kind = 0; slot = 0 }
