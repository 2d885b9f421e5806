-- `convert` is safe: the window is as long as it says. Both are terms, since a tactic would write all its bytes out.
use Prim.Native.Nat.{ℕ, ◌<◌}
use mathlib.Core.Path.{sym, subst}
use lib.ListN.{length-replicate}
use Rattle.std.proofs.Common.{lit<}
use Rattle.convert.proofs.convert.Goals as goal

pub read_to_end-requires : goal.read_to_end-requires
read_to_end-requires g c = subst (λ (k : ℕ). 0 < k) (sym (length-replicate {A = ℕ} 4194304 0)) (lit< tt)

pub slice_bounds-read_to_end-end : goal.slice_bounds-read_to_end-end
slice_bounds-read_to_end-end g c = sym (length-replicate {A = ℕ} 4194304 0)
