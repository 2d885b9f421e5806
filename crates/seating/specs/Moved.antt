-- Document 01, "Words": moved in a call is a task that runs before and after, on different cores.
use Rattle.std.specs.Prelude.{ℕ, ◌<◌, ◌≡◌, ◌≢◌, Bool, not, ◌&&◌, eqb}
use Rattle.laws.specs.Counting.{any_below, count}

-- the task on core c before, in the seating s, runs after, in s', on another core
pub record Moved (n e : ℕ) (s s' : ℕ → ℕ) (c : ℕ) : Type 0 where
  pub real : s c ≢ e
  pub core : ℕ
  pub below : core < n
  pub other : core ≢ c
  pub sits : s' core ≡ s c

-- the same as a test
unfoldable pub moved_at : ℕ → ℕ → (ℕ → ℕ) → (ℕ → ℕ) → ℕ → Bool
moved_at n e s s' c = not (eqb (s c) e) && any_below (λ d. not (eqb d c) && eqb (s' d) (s c)) n

-- how many tasks are moved, counted by the cores that they leave, since a task sits on one core only
unfoldable pub moved : ℕ → ℕ → (ℕ → ℕ) → (ℕ → ℕ) → ℕ
moved n e s s' = count (moved_at n e s s') n
