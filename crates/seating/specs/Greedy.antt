-- Document 02, request 4: "take the ready tasks in their order, and keep each for which a place can be found beside those already kept". A place can be
-- found exactly when the kept tasks and the new one have a seating together.
use Rattle.std.specs.Prelude.{ℕ, ◌≡◌, ◌⊎◌, Bool, true}
use Rattle.laws.specs.Decides.{Decides}
use Rattle.seating.specs.Running.{Running}
use Rattle.seating.specs.Strong.{Legal}

-- the tasks T have a seating together: a legal one, of these tasks alone, in which each of them runs
pub record Together (n e : ℕ) (may : ℕ → ℕ → Bool) (T : ℕ → Type 0) : Type 0 where
  pub s : ℕ → ℕ
  pub legal : Legal n e may T s
  pub runs : (t : ℕ) → T t → Running n e s t

-- the tasks already kept when it is t's turn, those that come before it, and t
abbrev pub WithKept : (ℕ → ℕ → Type 0) → (ℕ → Bool) → ℕ → ℕ → Type 0
WithKept Before kept t u = (u ≡ t) ⊎ ((kept u ≡ true) × Before u t)

-- of the ready tasks R, those kept are the ones that the rule keeps
pub record Greedy (n e : ℕ) (may : ℕ → ℕ → Bool) (Before : ℕ → ℕ → Type 0) (R : ℕ → Type 0) (kept : ℕ → Bool) : Type 0 where
  pub ready : (t : ℕ) → kept t ≡ true → R t
  pub each : (t : ℕ) → R t → Decides (Together n e may (WithKept Before kept t)) (kept t)
