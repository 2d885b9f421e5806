-- `bad_kind` meets its promise: no event below the loop's is bad.
use Rattle.files.specs.Events.{NoneBad}
use Rattle.files.proofs.bad_kind.Given as goal

abbrev pub invariant-loop-i : goal.invariant-loop-i
invariant-loop-i l = NoneBad l.file l.at l.i
