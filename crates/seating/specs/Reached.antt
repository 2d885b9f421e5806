-- Document 01, "Words": reached from a task is a core that ends some chain from it.
use Rattle.std.specs.Prelude.{ℕ, ◌≡◌, Bool, List}
use Rattle.laws.specs.Lists.{last}
use Rattle.seating.specs.Chain.{Chain}

pub record Reached (n e : ℕ) (may : ℕ → ℕ → Bool) (s : ℕ → ℕ) (t a : ℕ) : Type 0 where
  pub c : ℕ
  pub p : List ℕ
  pub chain : Chain n e may s t c p
  pub ends : last c p ≡ a
