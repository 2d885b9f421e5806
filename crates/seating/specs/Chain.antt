-- Document 01, "Words": a chain from a task is cores p1, .., pk, all different, p1 in the task's mask, and each next core in the mask of the task
-- sitting on the core before it. The last core may be idle; no earlier one is.
use Rattle.std.specs.Prelude.{ℕ, ◌≢◌, Bool, List, [], ◌∷◌}
use Rattle.laws.specs.Lists.{Distinct}
use Rattle.seating.specs.Running.{May}

-- each core of p is in the mask of the task on the core before it, the first of them in that of the task on c
abbrev pub Links : ℕ → ℕ → (ℕ → ℕ → Bool) → (ℕ → ℕ) → ℕ → List ℕ → Type 0
Links n e may s c [] = Unit {0}
Links n e may s c (d ∷ p) = (s c ≢ e) × May n may (s c) d × Links n e may s d p

-- the cores c ∷ p are a chain from t
pub record Chain (n e : ℕ) (may : ℕ → ℕ → Bool) (s : ℕ → ℕ) (t c : ℕ) (p : List ℕ) : Type 0 where
  pub start : May n may t c
  pub links : Links n e may s c p
  pub distinct : Distinct (c ∷ p)
