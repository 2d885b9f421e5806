-- Runs that ascend.
use Prim.Native.Nat.{ℕ, ◌+◌, ◌≤◌}
use mathlib.Core.Logic.{inl, inr}
use mathlib.Core.List.{List, [], ◌∷◌}
use native.Mathlib.Omega.{arith}
use Rattle.laws.specs.Lists.{Any}
use Rattle.cpulists.specs.List.{Run, Covers, Ascending}

pub ascending_from : (c d : ℕ) (rs : List Run) → c ≤ d → Ascending d rs → Ascending c rs
ascending_from c d [] l a = a
ascending_from c d (r ∷ rs) l a = (omega (arith, a.0), a.1, a.2)

-- they cover no core below where they begin
pub covers_from : (c k : ℕ) (rs : List Run) → Ascending c rs → Any (Covers k) rs → c ≤ k
covers_from c k [] a i = absurd i
covers_from c k (r ∷ rs) a (inl h) = omega (arith, a.0, h.0)
covers_from c k (r ∷ rs) a (inr i) = omega (arith, a.0, a.1, covers_from (r.last + 2) k rs a.2 i)
