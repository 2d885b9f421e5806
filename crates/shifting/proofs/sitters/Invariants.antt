-- `sitters` meets its promise: of the cores below the loop's the masks of the sitters are in the table and the idle ones in the mask.
use Rattle.shifting.proofs.Tabling.{SittersTo, IdleTo}
use Rattle.shifting.proofs.sitters.Given as goal

abbrev pub invariant-loop-core : goal.invariant-loop-core
invariant-loop-core l = SittersTo l.d l.core l.masks × IdleTo l.d l.core l.idle
