-- Document 01, "Words": running is ready and on a core; waiting is ready and on none.
-- There are n cores, numbered below n; e is the mark of an idle core; `may t c`: core c is in task t's mask; R t: task t is ready; a seating s gives
-- each core its task, or e.
use Rattle.std.specs.Prelude.{ℕ, ◌<◌, ◌≡◌, ◌≢◌, Bool, true}

abbrev pub May : ℕ → (ℕ → ℕ → Bool) → ℕ → ℕ → Type 0
May n may t c = (c < n) × (may t c ≡ true)

-- task t sits on a core; that whoever sits is ready is part of demand 2 (`Legal`)
pub record Running (n e : ℕ) (s : ℕ → ℕ) (t : ℕ) : Type 0 where
  pub real : t ≢ e
  pub core : ℕ
  pub below : core < n
  pub sits : s core ≡ t

pub record Waiting (n e : ℕ) (R : ℕ → Type 0) (s : ℕ → ℕ) (t : ℕ) : Type 0 where
  pub ready : R t
  pub off : Running n e s t → ⊥
