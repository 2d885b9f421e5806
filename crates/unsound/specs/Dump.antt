-- A dump: the bytes of C's `struct makxirund_dispatcher` as they stand in memory, and the dispatcher that they mean. Bytes that are in no
-- field are padding and mean nothing.
use Rattle.std.specs.Prelude.{ℕ, ◌+◌, ◌*◌, ◌<◌, ◌≡◌, List, length, get_or}
use Rattle.dispatcher.specs.Limits.{core_limit, slot_limit, none}
use Rattle.dispatcher.specs.Slots.{no_task}
use Rattle.dispatcher.specs.declared.Task.{Task}
use Rattle.dispatcher.specs.declared.Dispatcher.{Dispatcher}
use Rattle.files.specs.Layout.{byte, lowest_first}

-- so many bytes are a dump
abbrev pub IsDump : List ℕ → Type 0
IsDump b = length b ≡ 1348

-- task s has eight bytes: its priority in the first, its mask in the last four
pub record TaskIn (b : List ℕ) (s : ℕ) (t : Task) : Type 0 where
  pub priority : t.priority ≡ byte b (4 + 8 * s)
  pub mask : t.mask ≡ lowest_first 4 b (8 + 8 * s)

-- number k of those that stand from a place on, two bytes each
abbrev pub NumberIn : List ℕ → ℕ → ℕ → ℕ → Type 0
NumberIn b at k v = v ≡ lowest_first 2 b (at + 2 * k)

-- a list of n entries, each of which is as a claim on its place says
pub record Entries {A : Type 0} (n : ℕ) (Is : ℕ → A → Type 0) (beyond : A) (l : List A) : Type 0 where
  pub long : length l ≡ n
  pub each : (i : ℕ) → i < n → Is i (get_or l i beyond)

-- the places are those that the C header asserts
pub record Dumps (b : List ℕ) (d : Dispatcher) : Type 0 where
  pub cores : d.cores ≡ byte b 0
  pub tasks : Entries slot_limit (TaskIn b) no_task d.tasks
  pub order : Entries slot_limit (NumberIn b 1028) none d.order
  pub seats : Entries core_limit (NumberIn b 1284) none d.seats
