-- Demand 2: each running task is ready and on a core of its mask, one to a core, and a ready task waits only when no chain of shifts leads from it to an
-- idle core or to a running task that comes after it. (The second half is Invariant 2 of source document 002, by the order of document 01.)
use Rattle.std.specs.Prelude.{ℕ, ◌<◌, ◌≡◌, ◌≢◌, Bool, true}
use Rattle.seating.specs.Running.{Waiting}
use Rattle.seating.specs.Reached.{Reached}

pub record Legal (n e : ℕ) (may : ℕ → ℕ → Bool) (R : ℕ → Type 0) (s : ℕ → ℕ) : Type 0 where
  pub ready : (c : ℕ) → c < n → s c ≢ e → R (s c)
  pub allowed : (c : ℕ) → c < n → s c ≢ e → may (s c) c ≡ true
  pub once : (c d : ℕ) → c < n → d < n → s c ≢ e → s c ≡ s d → c ≡ d

pub record Strong (n e : ℕ) (may : ℕ → ℕ → Bool) (Before : ℕ → ℕ → Type 0) (R : ℕ → Type 0) (s : ℕ → ℕ) : Type 0 where
  pub no_idle : (w c : ℕ) → Waiting n e R s w → Reached n e may s w c → s c ≢ e
  pub none_after : (w c : ℕ) → Waiting n e R s w → Reached n e may s w c → Before w (s c) → ⊥

-- the seating keeps demand 2 for the ready tasks R
pub record Keeps (n e : ℕ) (may : ℕ → ℕ → Bool) (Before : ℕ → ℕ → Type 0) (R : ℕ → Type 0) (s : ℕ → ℕ) : Type 0 where
  pub legal : Legal n e may R s
  pub strong : Strong n e may Before R s
