-- `seat` and `free` meet their promises together.
use Rattle.engine.proofs.Searching.{fewer_unasked, occupant_below, asked_held, sought_here, fewer_left, sought_on}
use Rattle.engine.proofs.places.Board.+free_seat.Goals as goal

pub free-seat-requires : goal.free-seat-requires
free-seat-requires t c = (rw (← c.decreases) (fewer_unasked c.requires c.add-s.ensures), occupant_below c.requires c.add-s.ensures c.if-occupant-eq-NONE.false)

pub free-returns-else-occupant-eq-NONE : goal.free-returns-else-occupant-eq-NONE
free-returns-else-occupant-eq-NONE t c = asked_held c.requires c.add-s.ensures c.if-occupant-eq-NONE.false c.seat.ensures

pub seat-returns-then-free : goal.seat-returns-then-free
seat-returns-then-free t c = sought_here c.args.self.now c.args.s.now c.args.slot c.next_core-core.ensures c.if-self-core.false c.free.new.s c.if-free.ensures

pub seat-seat-requires : goal.seat-seat-requires
seat-seat-requires t c = (rw (← c.decreases) (fewer_left c.args.self.now c.args.s.now c.args.slot c.next_core-core.ensures c.if-self-core.false c.free.new.s c.if-free.ensures), c.requires)

pub seat-returns : goal.seat-returns
seat-returns t c = sought_on c.if-free.ensures c.seat.ensures
