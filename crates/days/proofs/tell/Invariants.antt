-- `tell` meets its promise: the pieces so far are the text of the calls before the next.
use Prim.Native.Nat.{◌-◌}
use denote.Param.Always.{always_mut}
use Rattle.days.proofs.Telling.{SoFarTold}
use Rattle.days.proofs.tell.Given as goal

abbrev pub invariant-loop-next : goal.invariant-loop-next
invariant-loop-next g l = (always_mut g.F.FnMut l.initial.hear → always_mut g.F.FnMut l.hear) × SoFarTold g.F.FnMut l.file l.initial.hear l.initial.current l.hear l.next l.current

abbrev pub decreases-loop-next : goal.decreases-loop-next
decreases-loop-next g l = l.calls - l.next
