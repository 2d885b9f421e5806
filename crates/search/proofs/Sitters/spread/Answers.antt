-- `spread` meets its promise: the mask has what the tasks on the cores below the loop's may use.
use Rattle.std.proofs.Common.{sym, ◌∙◌}
use Rattle.search.proofs.Sweeping.{spread_pass, spread_add}
use Rattle.search.proofs.Sitters.spread.Goals as goal
use Rattle.search.proofs.Sitters.spread.Goals.{then-has, else-has}

pub loop-core-preserved : goal.loop-core-preserved
loop-core-preserved c =
    elim c.if-has.branch [
      | then-has w ↦ rw w.wider-is (spread_add c.loop-core.invariant c.loop-core-test.true (rw c.from.ensures at (sym c.has.ensures ∙ w.if-has.true)) w.cut-allowed.ensures)
      | else-has w ↦ rw w.wider-is (spread_pass c.loop-core.invariant c.loop-core-test.true (rw c.from.ensures at (sym c.has.ensures ∙ w.if-has.false)))
    ]
