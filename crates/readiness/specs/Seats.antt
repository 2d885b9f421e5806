-- On which core a slot sits, and what a shift makes of a dispatcher and reports.
use Rattle.std.specs.Prelude.{ℕ, ◌<◌, ◌≡◌, ◌≢◌, List, get_or, Option, Some, None, Ok}
use Rattle.dispatcher.specs.Limits.{core_limit, none}
use Rattle.dispatcher.specs.declared.Report.{Report}
use Rattle.dispatcher.specs.declared.Dispatcher.{Dispatcher}
use Rattle.dispatcher.specs.declared.Outcome.{Outcome}
use Rattle.shifting.specs.Board.{with_seats}
use Rattle.shifting.specs.declared.Shift.{Shift}

-- it sits on core c
pub record SitsAt (seats : List ℕ) (slot c : ℕ) : Type 0 where
  pub below : c < core_limit
  pub sits : get_or seats c none ≡ slot

-- it sits on none
pub record SitsNowhere (seats : List ℕ) (slot : ℕ) : Type 0 where
  pub none_sits : (c : ℕ) → c < core_limit → get_or seats c none ≢ slot

abbrev pub CoreOf : List ℕ → ℕ → Option ℕ → Type 0
CoreOf seats slot (Some c) = SitsAt seats slot c
CoreOf seats slot None = SitsNowhere seats slot

abbrev pub report_of_shift : Shift → Report
report_of_shift s = record { answer = Ok tt; moves = s.moves; started = s.started; stopped = s.stopped }

-- d after a shift
abbrev pub shifted_of : Dispatcher → Shift → Outcome
shifted_of d s = record { report = report_of_shift s; dispatcher = with_seats d s.seats }
