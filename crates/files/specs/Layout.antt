-- Document 01, "Event file": what stands where. A byte past the file's end counts as 0; a file that lacks a byte of its counts is too
-- short whatever the count.
use Rattle.std.specs.Prelude.{ℕ, zero, suc, ◌+◌, ◌*◌, ◌≤◌, ◌<◌, List, length, get_or}
use Rattle.dispatcher.specs.Limits.{event_limit}

abbrev pub byte : List ℕ → ℕ → ℕ
byte b o = get_or b o 0

-- the number that k bytes say, lowest first
abbrev pub lowest_first : ℕ → List ℕ → ℕ → ℕ
lowest_first zero b o = 0
lowest_first (suc k) b o = byte b o + 256 * lowest_first k b (o + 1)

-- one byte, the core count
abbrev pub core_count : List ℕ → ℕ
core_count b = byte b 0

-- then the tasks: count in one byte; per task slot (1 byte), priority (1), mask (4)
abbrev pub record_count_of : List ℕ → ℕ
record_count_of b = byte b 1

abbrev pub mask_bytes : ℕ
mask_bytes = 4

abbrev pub record_place : List ℕ → ℕ → ℕ
record_place b i = 2 + (2 + mask_bytes) * i

-- then the events: count in two bytes; per event a kind and a slot
abbrev pub count_place : List ℕ → ℕ
count_place b = record_place b (record_count_of b)

abbrev pub event_count : List ℕ → ℕ
event_count b = lowest_first 2 b (count_place b)

abbrev pub event_place : List ℕ → ℕ → ℕ
event_place b i = count_place b + 2 + 2 * i

abbrev pub end_place : List ℕ → ℕ
end_place b = event_place b (event_count b)

-- the length of the largest well-formed file: as many tasks as a byte counts, and as many events as there may be
abbrev pub largest_file : ℕ
largest_file = 2 + (2 + mask_bytes) * 255 + 2 + 2 * event_limit

-- record i and event i are in the file: the count has them, and so has the file
pub record HasRecord (b : List ℕ) (i : ℕ) : Type 0 where
  pub counted : i < record_count_of b
  pub there : record_place b (i + 1) ≤ length b

pub record HasEvent (b : List ℕ) (i : ℕ) : Type 0 where
  pub counted : i < event_count b
  pub there : event_place b (i + 1) ≤ length b
