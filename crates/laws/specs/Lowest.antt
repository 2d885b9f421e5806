-- The lowest number below n of which a claim does not hold.
use Rattle.std.specs.Prelude.{ℕ, ◌<◌}

pub record Lowest (n : ℕ) (P : ℕ → Type 0) (k : ℕ) : Type 0 where
  pub below : k < n
  pub fails : P k → ⊥
  pub lower : (j : ℕ) → j < k → P j

-- it holds of every number below n
abbrev pub Throughout : ℕ → (ℕ → Type 0) → Type 0
Throughout n P = (k : ℕ) → k < n → P k
