-- Document 02, request 4: no legal seating of the ready tasks runs more tasks of priority p or above, for any p. Said of any class of tasks that has,
-- with a task, all the ready ones that come before it.
use Rattle.std.specs.Prelude.{ℕ, ◌≤◌, ◌≡◌, Bool, true, not, ◌&&◌, eqb}
use Rattle.laws.specs.Counting.{count}
use Rattle.seating.specs.Strong.{Legal}

-- whoever comes before a task of the class is of the class
pub record Upward (Before : ℕ → ℕ → Type 0) (R : ℕ → Type 0) (class : ℕ → Bool) : Type 0 where
  pub up : (t u : ℕ) → R t → R u → Before t u → class u ≡ true → class t ≡ true

-- core c has a task of the class
unfoldable pub holds_at : ℕ → (ℕ → Bool) → (ℕ → ℕ) → ℕ → Bool
holds_at e class s c = not (eqb (s c) e) && class (s c)

-- how many tasks of the class the seating runs, counted by their cores, since a task sits on one core only
unfoldable pub running : ℕ → ℕ → (ℕ → Bool) → (ℕ → ℕ) → ℕ
running n e class s = count (holds_at e class s) n

-- no legal seating of the ready tasks R runs more tasks of the class than s
pub record Most (n e : ℕ) (may : ℕ → ℕ → Bool) (R : ℕ → Type 0) (class : ℕ → Bool) (s : ℕ → ℕ) : Type 0 where
  pub most : (s'' : ℕ → ℕ) → Legal n e may R s'' → running n e class s'' ≤ running n e class s
