-- `sitters` meets its promise: of the cores below the loop's the masks of the sitters are in the table and the idle ones in the mask.
use Rattle.std.proofs.Common.{arith}
use Rattle.shifting.proofs.Tabling.{sitters_start, idle_start, sitter_slot}
use Rattle.shifting.proofs.sitters.Goals as goal

pub loop-core-init : goal.loop-core-init
loop-core-init c = (sitters_start c.args.d.now, idle_start c.args.d.now)

pub bounds-d-from : goal.bounds-d-from
bounds-d-from c = omega (arith, c.from.ensures, sitter_slot c.requires.shaped c.requires.sound (omega (arith, c.loop-core-test.true, c.from-count.ensures)) c.if-slot-eq-NONE.false)
