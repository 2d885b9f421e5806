-- Of the numbers below m that pass a test, the last by an order; or none passes.
use Rattle.std.specs.Prelude.{ℕ, ◌<◌, ◌≡◌, ◌⊎◌, Bool, true, false}

-- le a b: a is not after b
pub record Picked (le : ℕ → ℕ → Bool) (f : ℕ → Bool) (m r : ℕ) : Type 0 where
  pub below : r < m
  pub passes : f r ≡ true
  pub last : (c : ℕ) → c < m → f c ≡ true → le c r ≡ true

-- r is then a mark
pub record NonePicked (mark : ℕ) (f : ℕ → Bool) (m r : ℕ) : Type 0 where
  pub none : (c : ℕ) → c < m → f c ≡ false
  pub is : r ≡ mark

abbrev pub Picks : ℕ → (ℕ → ℕ → Bool) → (ℕ → Bool) → ℕ → ℕ → Type 0
Picks mark le f m r = Picked le f m r ⊎ NonePicked mark f m r
