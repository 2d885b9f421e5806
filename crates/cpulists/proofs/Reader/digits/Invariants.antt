-- What is read so far are digits.
use Prim.Native.Nat.{◌+◌}
use Rattle.cpulists.proofs.Numbers.{SoFar}
use Rattle.cpulists.proofs.Reader.digits.Given as goal

abbrev pub invariant-loop-k : goal.invariant-loop-k
invariant-loop-k l = SoFar l.self.cores l.self.text.now l.at (l.at + l.k) l.value
