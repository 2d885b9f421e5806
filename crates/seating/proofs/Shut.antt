-- The strong rule by ranks (of two tasks the one with the lower rank comes before), and why a task waits rightly: cores that it cannot leave.
use Prim.Native.Nat.{ℕ, ◌<◌}
use mathlib.Core.Path.{◌≡◌}
use mathlib.Core.Logic.{◌≢◌}
use mathlib.Core.Bool.{Bool, true}
use mathlib.Core.List.{List}
use Rattle.laws.specs.Lists.{last}
use Rattle.seating.specs.Running.{May, Waiting}
use Rattle.seating.specs.Chain.{Chain}

-- whatever core a waiting task could get by such a chain is held, and by a task that comes before it
pub record RankStrong (n e : ℕ) (may : ℕ → ℕ → Bool) (rank : ℕ → ℕ) (R : ℕ → Type 0) (s : ℕ → ℕ) : Type 0 where
  pub full : (w c : ℕ) (p : List ℕ) → Waiting n e R s w → Chain n e may s w c p → s (last c p) ≢ e
  pub before : (w c : ℕ) (p : List ℕ) → Waiting n e R s w → Chain n e may s w c p → rank (s (last c p)) < rank w

-- why w waits: a set of cores, all held by tasks that come before w, that neither w nor any of these tasks can leave
pub record Shut (n e : ℕ) (may : ℕ → ℕ → Bool) (rank : ℕ → ℕ) (s : ℕ → ℕ) (w : ℕ) : Type 0 where
  pub K : ℕ → Bool
  pub starts : (c : ℕ) → May n may w c → K c ≡ true
  pub full : (c : ℕ) → K c ≡ true → s c ≢ e
  pub before : (c : ℕ) → K c ≡ true → rank (s c) < rank w
  pub closed : (c : ℕ) → K c ≡ true → (d : ℕ) → May n may (s c) d → K d ≡ true
