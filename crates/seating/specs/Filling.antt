-- Document 01, "Block": a core z is idle, and a waiting task may start there.
use Rattle.std.specs.Prelude.{ℕ, ◌≡◌, ◌⊎◌, ◌≢◌, Bool, eqb}
use Rattle.seating.specs.Running.{Waiting}
use Rattle.seating.specs.Reached.{Reached}
use Rattle.seating.specs.Taking.{Goes, Stays}

-- of the waiting tasks that reach this core, h is the one that comes before the rest
pub record First (n e : ℕ) (may : ℕ → ℕ → Bool) (Before : ℕ → ℕ → Type 0) (R : ℕ → Type 0) (s : ℕ → ℕ) (z h : ℕ) : Type 0 where
  pub waits : Waiting n e R s h
  pub reaches : Reached n e may s h z
  pub rest : (w : ℕ) → Waiting n e R s w → Reached n e may s w z → w ≢ h → Before h w

-- It starts, by a shortest chain to that core.
pub record Filled (n e : ℕ) (may : ℕ → ℕ → Bool) (Before : ℕ → ℕ → Type 0) (R : ℕ → Type 0) (s : ℕ → ℕ) (z : ℕ) (s' : ℕ → ℕ) (moves started : ℕ) : Type 0 where
  pub first : First n e may Before R s z started
  pub goes : Goes n e may s started (λ c. eqb c z) s' moves

-- If none reaches it, the core stays idle.
pub record StaysIdle (n e : ℕ) (may : ℕ → ℕ → Bool) (R : ℕ → Type 0) (s : ℕ → ℕ) (z : ℕ) (s' : ℕ → ℕ) (moves started : ℕ) : Type 0 where
  pub none : (w : ℕ) → Waiting n e R s w → Reached n e may s w z → ⊥
  pub stays : Stays s s' moves
  pub starts : started ≡ e

abbrev pub Fills : ℕ → ℕ → (ℕ → ℕ → Bool) → (ℕ → ℕ → Type 0) → (ℕ → Type 0) → (ℕ → ℕ) → ℕ → (ℕ → ℕ) → ℕ → ℕ → Type 0
Fills n e may Before R s z s' moves started = Filled n e may Before R s z s' moves started ⊎ StaysIdle n e may R s z s' moves started
