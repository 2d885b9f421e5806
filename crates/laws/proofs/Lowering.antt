-- There is one lowest number of which a claim does not hold.
use Prim.Native.Nat.{ℕ, ◌<◌}
use mathlib.Core.Path.{◌≡◌}
use native.Mathlib.Decide.{dec_lt}
use native.Mathlib.Omega.{arith}
use Rattle.laws.specs.Lowest.{Lowest}

pub lowest_same : {n : ℕ} {P : ℕ → Type 0} {j k : ℕ} → Lowest n P j → Lowest n P k → j ≡ k
lowest_same {j} {k} a b = go (dec_lt j k) (dec_lt k j)
  where
    go : Dec (j < k) → Dec (k < j) → j ≡ k
    go (yes l) d = absurd (a.fails (b.lower j l))
    go (no l) (yes m) = absurd (b.fails (a.lower k m))
    go (no l) (no m) = omega arith
