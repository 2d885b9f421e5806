-- `seat` and `free` call each other: each asks a core that has not been asked, so the cores left to ask are fewer at each call.
use Prim.Native.Nat.{suc}
use Rattle.engine.specs.Search.{unasked}
use Rattle.engine.proofs.places.Board.+free_seat.Given as goal

abbrev pub decreases-free : goal.decreases-free
decreases-free l = unasked l.self.now.cores l.s.now

abbrev pub decreases-seat : goal.decreases-seat
decreases-seat l = suc (unasked l.self.now.cores l.s.now)
