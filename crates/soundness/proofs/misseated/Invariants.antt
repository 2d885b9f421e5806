-- `misseated` meets its promise: all cores below the loop's are kept, and the marks tell who sits there.
use Rattle.soundness.proofs.Sitting.{KeptBelow}
use Rattle.soundness.proofs.misseated.Given as goal

abbrev pub invariant-loop-c : goal.invariant-loop-c
invariant-loop-c l = KeptBelow l.d l.c l.seated
