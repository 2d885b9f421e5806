-- The turns of the ready tasks: whose turn is next, and what a turn does.
use Rattle.std.specs.Prelude.{ℕ, ◌<◌, ◌≡◌, ◌≢◌, Bool, List, get_or, set, Option, MatchOption}
use Rattle.masks.specs.Masks.{has}
use Rattle.seating.proofs.Seeking as seeking
use Rattle.dispatcher.specs.Limits.{slot_limit, none}
use Rattle.dispatcher.specs.Slots.{order_at, Shaped}
use Rattle.dispatcher.specs.Sound.{Sound}
use Rattle.dispatcher.specs.declared.Dispatcher.{Dispatcher}
use Rattle.order.specs.ComesBefore.{ComesBefore}
use Rattle.engine.specs.declared.places.Board.{Board}
use Rattle.engine.specs.Seats.{seat_in, Seats}
use Rattle.engine.specs.Search.{allowed}
use Rattle.engine.specs.declared.Kept.{Kept}

-- left is the wake order of d without some of its slots
pub record LeftOf (d : Dispatcher) (left : List ℕ) : Type 0 where
  pub shaped : Shaped d
  pub sound : Sound d
  pub same : (k : ℕ) → get_or left k none ≢ none → get_or left k none ≡ order_at d k

-- place k is that of the slot that comes before the others that are left
pub record IsFirst (d : Dispatcher) (left : List ℕ) (k : ℕ) : Type 0 where
  pub below : k < slot_limit
  pub used : get_or left k none ≢ none
  pub rest : (j : ℕ) → j < slot_limit → get_or left j none ≢ none → j ≢ k → ComesBefore d (get_or left k none) (get_or left j none)

-- none is left
abbrev pub NoneLeft : List ℕ → Type 0
NoneLeft left = (j : ℕ) → j < slot_limit → get_or left j none ≡ none

abbrev pub FirstLeft : Dispatcher → List ℕ → Option ℕ → Type 0
FirstLeft d left first = MatchOption first (NoneLeft left) (IsFirst d left)

-- when slot t may take its turn
pub record CanTurn (kept : Kept) (slot : ℕ) : Type 0 where
  pub slot_below : slot < slot_limit
  pub seats : Seats kept.seats

-- it takes its turn: a place is sought for it, no core having been asked before, and it is marked if one is found
pub record Turned (b : Board) (kept : Kept) (slot : ℕ) (r : Kept) : Type 0 where
  pub found : Bool
  pub asked : ℕ → Bool
  pub sought : seeking.Sought b.cores none (allowed b.masks) (seat_in kept.seats) (has 0) slot (record { found = found; seat = seat_in r.seats; asked = asked })
  pub seats : Seats r.seats
  pub tasks : r.tasks ≡ set kept.tasks slot found
