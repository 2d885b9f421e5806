-- `put_seats` meets its contract: at the loop's end all seats behind the first are written.
use Rattle.std.proofs.Common.{arith}
use Rattle.lines.proofs.Seats.{seats_end}
use Rattle.lines.proofs.put_seats.Goals as goal

pub returns-clause-items : goal.returns-clause-items
returns-clause-items c = seats_end c.args.seats.now c.args.text.now.items c.loop-seat.seat-index c.loop-seat.invariant c.put_slot.ensures.items (omega arith) (omega arith)
