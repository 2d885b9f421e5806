-- `print_day` is safe: no more lines agree than there are.
use Prim.Native.Nat.{◌≤◌}
use Rattle.bench.proofs.print_day.Given as goal

abbrev pub invariant-loop-k : goal.invariant-loop-k
invariant-loop-k g l = l.tally.agree ≤ l.k
