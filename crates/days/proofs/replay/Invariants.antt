-- `replay` meets its promise: the lines so far stand at the buffer's start, the next call is made from where they left off, and each line takes room.
use Prim.Native.Nat.{◌-◌}
use lib.ListN.{length}
use Rattle.days.proofs.Printing.{SoFar}
use Rattle.days.proofs.replay.Given as goal

abbrev pub invariant-loop-stepped : goal.invariant-loop-stepped
invariant-loop-stepped l = SoFar l.file l.k l.initial.current l.initial.buffer l.buffer l.next l.length l.current

abbrev pub decreases-loop-stepped : goal.decreases-loop-stepped
decreases-loop-stepped l = length l.initial.buffer - l.length
