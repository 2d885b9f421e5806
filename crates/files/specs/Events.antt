-- What the reader knows before it comes to the events, and the first event whose kind is bad.
use Rattle.std.specs.Prelude.{ℕ, ◌+◌, ◌*◌, ◌≤◌, ◌<◌, ◌≡◌, List, length, Option, Some, None}
use Rattle.dispatcher.specs.Limits.{event_limit, LegalCount}
use Rattle.files.specs.Layout.{byte, core_count, record_count_of, count_place, event_count}
use Rattle.files.specs.Faults.{IsEventKind}
use Rattle.files.specs.declared.Layout.{Layout}

-- the counts are legal and in the file
pub record HeadRead (b : List ℕ) (l : Layout) : Type 0 where
  pub cores_is : l.cores ≡ core_count b
  pub count : LegalCount l.cores
  pub records_is : l.records ≡ record_count_of b
  pub small : l.records ≤ 255
  pub there : count_place b + 2 ≤ length b
  pub events_is : l.events ≡ event_count b
  pub few : l.events ≤ event_limit

-- the kind of event i, the events standing from `at` on, is in the file and is no event's
pub record BadAt (b : List ℕ) (at i : ℕ) : Type 0 where
  pub there : at + 2 * i < length b
  pub bad : IsEventKind (byte b (at + 2 * i)) → ⊥

abbrev pub NoneBad : List ℕ → ℕ → ℕ → Type 0
NoneBad b at n = (i : ℕ) → i < n → BadAt b at i → ⊥

-- r is the lowest of the events that is bad so
abbrev pub FirstBad : List ℕ → ℕ → ℕ → Option ℕ → Type 0
FirstBad b at events (Some r) = (r < events) × BadAt b at r × NoneBad b at r
FirstBad b at events None = NoneBad b at events
