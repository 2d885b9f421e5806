-- What a search for a place promises, in the words of seatings.
use Rattle.std.specs.Prelude.{ℕ, ◌+◌, ◌<◌, ◌≡◌, Bool, false, List, get_or}
use Rattle.masks.specs.Masks.{has}
use Rattle.seating.proofs.Place.{left}
use Rattle.seating.proofs.Seeking as seeking
use Rattle.dispatcher.specs.Limits.{none}
use Rattle.dispatcher.specs.Slots.{task_at}
use Rattle.dispatcher.specs.declared.Dispatcher.{Dispatcher}
use Rattle.engine.specs.declared.places.Board.{Board}
use Rattle.engine.specs.declared.places.Seeking.{Seeking}
use Rattle.engine.specs.Seats.{seat_in}

-- the mask of the task in each slot
pub record MasksOf (d : Dispatcher) (masks : List ℕ) : Type 0 where
  pub each : (t : ℕ) → get_or masks t 0 ≡ (task_at d t).mask

-- core c is in the mask of slot t
abbrev pub allowed : List ℕ → ℕ → ℕ → Bool
allowed masks t c = has (get_or masks t 0) c

-- what a search has come to, a place being found or not
abbrev pub tried : Bool → Seeking → seeking.Tried
tried found s = record { found = found; seat = seat_in s.seats; asked = has s.asked }

pub record Sought (b : Board) (s : Seeking) (slot : ℕ) (found : Bool) (r : Seeking) : Type 0 where
  pub sought : seeking.Sought b.cores none (allowed b.masks) (seat_in s.seats) (has s.asked) slot (tried found r)

-- when a core may be asked
pub record Asks (b : Board) (s : Seeking) (core : ℕ) : Type 0 where
  pub below : core < b.cores
  pub not_yet : has s.asked core ≡ false

pub record Asked (b : Board) (s : Seeking) (core : ℕ) (found : Bool) (r : Seeking) : Type 0 where
  pub asked : seeking.Asked b.cores none (allowed b.masks) (seat_in s.seats) (has s.asked) core (tried found r)

-- twice the number of cores not yet asked
abbrev pub unasked : ℕ → Seeking → ℕ
unasked n s = left n (has s.asked) + left n (has s.asked)
