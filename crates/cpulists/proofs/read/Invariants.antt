-- What stands before the place is read, and all of the text once the place is its end. The measure is what is left of the text.
use Prim.Native.Nat.{◌-◌, ◌≤◌, ◌<◌}
use lib.ListN.{length}
use Rattle.cpusets.specs.Limit.{cores_of}
use Rattle.cpulists.specs.Progress.{ReadTo, ReadAll}
use Rattle.cpulists.proofs.read.Given as goal

abbrev pub invariant-loop-walk : goal.invariant-loop-walk
invariant-loop-walk l =
    (l.walk.place < length l.text → ReadTo (cores_of l.limit) l.text l.walk.place l.walk.set) × (length l.text ≤ l.walk.place → ReadAll (cores_of l.limit) l.text l.walk.set)

abbrev pub decreases-loop-walk : goal.decreases-loop-walk
decreases-loop-walk l = length l.text - l.walk.place
