-- Who sits where.
use Rattle.std.specs.Prelude.{ℕ, ◌<◌, ◌≡◌, ◌≢◌, List, get_or, length}
use Rattle.dispatcher.specs.Limits.{core_limit, slot_limit, none}

abbrev pub seat_in : List ℕ → ℕ → ℕ
seat_in seats c = get_or seats c none

-- who sits has a slot
pub record Seats (seats : List ℕ) : Type 0 where
  pub size : length seats ≡ core_limit
  pub slots : (c : ℕ) → seat_in seats c ≢ none → seat_in seats c < slot_limit
