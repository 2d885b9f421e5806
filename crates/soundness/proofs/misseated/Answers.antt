-- `misseated` meets its promise: all cores below the loop's are kept, and the marks tell who sits there.
use mathlib.Core.Path.{◌∙◌}
use borrow.Author.Rules.{rules}
use Rattle.soundness.proofs.Sitting.{kept_none, seat_breaks, seat_kept, idle_kept}
use Rattle.soundness.proofs.misseated.Goals as goal
use Rattle.soundness.proofs.misseated.Goals.{then-slot-lt-SLOTS+else-not-may_sit, else-slot-lt-SLOTS+else-sits-ne-NONE}

pub loop-c-init : goal.loop-c-init
loop-c-init c = kept_none c.args.d.now

pub returns-then-not-may_sit : goal.returns-then-not-may_sit
returns-then-not-may_sit c = seat_breaks (search rules) c.from.ensures c.loop-c-test.true c.from-slot.ensures c.requires c.loop-c.invariant c.if-slot-lt-SLOTS.true c.may_sit.ensures c.if-not-may_sit.true

pub loop-c-preserved : goal.loop-c-preserved
loop-c-preserved c =
    elim c.if-slot-lt-SLOTS.branch [
      | then-slot-lt-SLOTS+else-not-may_sit w ↦
          rw w.seated-is
          (seat_kept (search rules) c.from.ensures c.loop-c-test.true c.from-slot.ensures c.requires c.loop-c.invariant w.if-slot-lt-SLOTS.true w.may_sit.ensures w.if-not-may_sit.false)
      | else-slot-lt-SLOTS+else-sits-ne-NONE w ↦
          rw w.seated-is
          (idle_kept (search rules) c.from.ensures c.loop-c-test.true c.from-slot.ensures c.requires c.loop-c.invariant (c.from-slot.ensures ∙ w.if-sits-ne-NONE.false))
    ]
