-- What a shift is: the seats after it, and what a call reports of it.
use Rattle.std.specs.Prelude.{ℕ, ◌-◌, ◌≡◌, List, length, get_or}
use Rattle.dispatcher.specs.Limits.{none}
use Rattle.dispatcher.specs.declared.Dispatcher.{Dispatcher}
use Rattle.search.specs.Taken.{take_list}
use Rattle.search.specs.declared.Route.{Route}
use Rattle.shifting.specs.Arriving.{ArrivesIn}
use Rattle.shifting.specs.Filling.{FillsIn}
use Rattle.shifting.specs.declared.Shift.{Shift}

abbrev pub seat_on : Shift → ℕ → ℕ
seat_on r c = get_or r.seats c none

abbrev pub Arrived : Dispatcher → ℕ → Shift → Type 0
Arrived d x r = ArrivesIn d x (seat_on r) r.moves r.started r.stopped

-- nobody stops where an idle core is filled
abbrev pub Refilled : Dispatcher → ℕ → Shift → Type 0
Refilled d z r = FillsIn d z (seat_on r) r.moves r.started × (r.stopped ≡ none)

-- nobody moves
abbrev pub still_at : List ℕ → Shift
still_at seats = record { seats = seats; moves = 0; started = none; stopped = none }

-- slot x takes a chain, and another stops
abbrev pub taken_by : List ℕ → Route → ℕ → ℕ → Shift
taken_by seats r x stopped = record { seats = take_list seats x r; moves = length r - 1; started = x; stopped = stopped }
