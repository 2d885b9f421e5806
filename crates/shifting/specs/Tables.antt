-- What the search is given of a dispatcher: the mask of the task on each core below the count, and which of them are idle.
use Rattle.std.specs.Prelude.{ℕ, ◌<◌, ◌≡◌, eqb, get_or}
use Rattle.masks.specs.Masks.{has}
use Rattle.dispatcher.specs.Limits.{none}
use Rattle.dispatcher.specs.Slots.{task_at, seat_at}
use Rattle.dispatcher.specs.declared.Dispatcher.{Dispatcher}
use Rattle.search.specs.declared.Sitters.{Sitters}

-- an idle core has the mask 0, since no task is in the slot that the mark names
pub record SittersOf (d : Dispatcher) (s : Sitters) : Type 0 where
  pub count : s.count ≡ d.cores
  pub each : (c : ℕ) → c < d.cores → get_or s.masks c 0 ≡ (task_at d (seat_at d c)).mask

pub record IdleCores (d : Dispatcher) (m : ℕ) : Type 0 where
  pub each : (c : ℕ) → c < d.cores → has m c ≡ eqb (seat_at d c) none
