-- Document 01, "A sound dispatcher": conditions (a) to (e). Each of (b) to (e) is said of one slot, place or core at a time, so that
-- the lowest one that breaks it has a meaning.
use Rattle.std.specs.Prelude.{ℕ, ◌≤◌, ◌<◌, ◌≡◌, ◌≢◌, true}
use Rattle.laws.specs.Lowest.{Throughout}
use Rattle.masks.specs.Masks.{has, LegalMask}
use Rattle.dispatcher.specs.Limits.{core_limit, slot_limit, none, LegalCount, LegalPriority}
use Rattle.dispatcher.specs.Slots.{task_at, order_at, seat_at, Used, Ready}
use Rattle.dispatcher.specs.declared.Task.{Task}
use Rattle.dispatcher.specs.declared.Dispatcher.{Dispatcher}

-- (a) its core count is 1 to 32
abbrev pub CountLegal : Dispatcher → Type 0
CountLegal d = LegalCount d.cores

-- (b) each used slot has a legal priority and mask
pub record LegalTask (count : ℕ) (t : Task) : Type 0 where
  pub priority : LegalPriority t.priority
  pub mask : LegalMask count t.mask

abbrev pub SlotKept : Dispatcher → ℕ → Type 0
SlotKept d s = Used (task_at d s) → LegalTask d.cores (task_at d s)

abbrev pub SlotsLegal : Dispatcher → Type 0
SlotsLegal d = Throughout slot_limit (SlotKept d)

-- (c) the wake order holds only used slots, none twice, from its first place without a gap; and its unused places hold the mark
pub record Entered (d : Dispatcher) (k : ℕ) : Type 0 where
  pub slot : order_at d k < slot_limit
  pub used : Used (task_at d (order_at d k))
  pub not_twice : (j : ℕ) → j < k → order_at d j ≢ order_at d k
  pub no_gap : (j : ℕ) → j < k → order_at d j ≢ none

abbrev pub PlaceKept : Dispatcher → ℕ → Type 0
PlaceKept d k = order_at d k ≢ none → Entered d k

abbrev pub OrderKept : Dispatcher → Type 0
OrderKept d = Throughout slot_limit (PlaceKept d)

-- (d) each core at or above the count holds the mark
abbrev pub MissingKept : Dispatcher → ℕ → Type 0
MissingKept d c = d.cores ≤ c → seat_at d c ≡ none

abbrev pub MissingIdle : Dispatcher → Type 0
MissingIdle d = Throughout core_limit (MissingKept d)

-- (e) each seated slot is in the wake order, sits once, on a core of its mask; an idle core holds the mark
pub record Seated (d : Dispatcher) (c : ℕ) : Type 0 where
  pub ready : Ready d (seat_at d c)
  pub once : (b : ℕ) → b < c → seat_at d b ≢ seat_at d c
  pub allowed : has (task_at d (seat_at d c)).mask c ≡ true

abbrev pub SeatKept : Dispatcher → ℕ → Type 0
SeatKept d c = seat_at d c ≢ none → Seated d c

abbrev pub SeatsKept : Dispatcher → Type 0
SeatsKept d = Throughout core_limit (SeatKept d)

pub record Sound (d : Dispatcher) : Type 0 where
  pub count : CountLegal d
  pub slots : SlotsLegal d
  pub order : OrderKept d
  pub missing : MissingIdle d
  pub seats : SeatsKept d
