-- The loop's invariant: behind the first seat, those passed are written, each behind a comma.
use Rattle.std.proofs.Common.{◌≡◌, ◌++◌, take}
use Rattle.lines.proofs.Seats.{commas}
use Rattle.lines.proofs.put_seats.Given as goal

abbrev pub invariant-loop-seat : goal.invariant-loop-seat
invariant-loop-seat l = l.text.items ≡ l.initial.text.items ++ commas (take l.seat-index l.seat-items)
