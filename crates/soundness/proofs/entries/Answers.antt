-- `entries` meets its promise: all places below the loop's are entered, and the table tells where among them each slot stands.
use native.Mathlib.Omega.{arith}
use borrow.Author.Rules.{rules}
use Rattle.soundness.proofs.Entering.{entries_none, entry_above, entry_ends, entry_goes}
use Rattle.soundness.proofs.entries.Goals as goal
use Rattle.soundness.proofs.entries.Goals.{then-slot-ge-SLOTS-via-then-slot-ge-SLOTS, then-slot-ge-SLOTS-via-else-slot-ge-SLOTS+then-not-is_entry}

pub loop-k-init : goal.loop-k-init
loop-k-init c = (omega arith, entries_none c.args.d.now)

pub returns-then-slot-ge-SLOTS : goal.returns-then-slot-ge-SLOTS
returns-then-slot-ge-SLOTS c =
    elim c.then-slot-ge-SLOTS.branch [
      | then-slot-ge-SLOTS-via-then-slot-ge-SLOTS w ↦ entry_above (search rules) c.loop-k-test.true c.from-slot.ensures c.loop-k.invariant.1 w.if-slot-ge-SLOTS.true
      | then-slot-ge-SLOTS-via-else-slot-ge-SLOTS+then-not-is_entry w ↦
          entry_ends (search rules) c.loop-k-test.true c.from-slot.ensures c.loop-k.invariant.1 w.if-slot-ge-SLOTS.false c.requires w.is_entry.ensures w.if-not-is_entry.true
    ]

pub loop-k-preserved : goal.loop-k-preserved
loop-k-preserved c = (
  c.loop-k.invariant.0,
  entry_goes (search rules) c.loop-k-test.true c.from-slot.ensures c.loop-k.invariant.1 c.if-slot-ge-SLOTS.false c.requires c.is_entry.ensures c.if-not-is_entry.false,
)
