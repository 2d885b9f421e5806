-- Demand 3: no seating that keeps demand 2 for the same ready tasks moves fewer of the tasks that run both before and after. The reported count of moves
-- is that least number, and it is below the number of cores.
use Rattle.std.specs.Prelude.{ℕ, ◌≤◌, ◌<◌, ◌≡◌, Bool}
use Rattle.seating.specs.Moved.{moved}
use Rattle.seating.specs.Strong.{Keeps}

-- s and s' are the seatings before and after, R the ready tasks after
pub record Least (n e : ℕ) (may : ℕ → ℕ → Bool) (Before : ℕ → ℕ → Type 0) (R : ℕ → Type 0) (s s' : ℕ → ℕ) (moves : ℕ) : Type 0 where
  pub fewest : (s'' : ℕ → ℕ) → Keeps n e may Before R s'' → moved n e s s' ≤ moved n e s s''
  pub told : moves ≡ moved n e s s'
  pub below : moves < n
