-- Document 01, "Wake": a ready task x that is on no core seeks one. `Before t u`: task t comes before task u.
use Rattle.std.specs.Prelude.{ℕ, ◌≡◌, ◌⊎◌, ◌≢◌, Bool, eqb}
use Rattle.seating.specs.Reached.{Reached}
use Rattle.seating.specs.Taking.{Goes, Stays}

-- If an idle core is reached, the call takes a shortest chain to an idle core.
pub record ToIdle (n e : ℕ) (may : ℕ → ℕ → Bool) (s : ℕ → ℕ) (x : ℕ) (s' : ℕ → ℕ) (moves started stopped : ℕ) : Type 0 where
  pub goes : Goes n e may s x (λ c. eqb (s c) e) s' moves
  pub starts : started ≡ x
  pub stops : stopped ≡ e

pub record NoIdle (n e : ℕ) (may : ℕ → ℕ → Bool) (s : ℕ → ℕ) (x : ℕ) : Type 0 where
  pub held : (c : ℕ) → Reached n e may s x c → s c ≢ e

-- Otherwise take, of the tasks on reached cores, the one that all the others come before: it is on core z.
pub record Last (n e : ℕ) (may : ℕ → ℕ → Bool) (Before : ℕ → ℕ → Type 0) (s : ℕ → ℕ) (x z : ℕ) : Type 0 where
  pub reached : Reached n e may s x z
  pub others : (c : ℕ) → Reached n e may s x c → c ≢ z → Before (s c) (s z)

-- If the newcomer comes before it, that task stops and waits, and the call takes a shortest chain to its core.
pub record Pushes (n e : ℕ) (may : ℕ → ℕ → Bool) (Before : ℕ → ℕ → Type 0) (s : ℕ → ℕ) (x : ℕ) (s' : ℕ → ℕ) (moves started stopped : ℕ) : Type 0 where
  pub full : NoIdle n e may s x
  pub core : ℕ
  pub last : Last n e may Before s x core
  pub before : Before x (s core)
  pub goes : Goes n e may s x (λ c. eqb c core) s' moves
  pub starts : started ≡ x
  pub stops : stopped ≡ s core

-- If not, the newcomer waits and nobody moves.
pub record MustWait (n e : ℕ) (may : ℕ → ℕ → Bool) (Before : ℕ → ℕ → Type 0) (s : ℕ → ℕ) (x : ℕ) (s' : ℕ → ℕ) (moves started stopped : ℕ) : Type 0 where
  pub full : NoIdle n e may s x
  pub not_before : (z : ℕ) → Last n e may Before s x z → Before x (s z) → ⊥
  pub stays : Stays s s' moves
  pub starts : started ≡ e
  pub stops : stopped ≡ e

abbrev pub Arrives : ℕ → ℕ → (ℕ → ℕ → Bool) → (ℕ → ℕ → Type 0) → (ℕ → ℕ) → ℕ → (ℕ → ℕ) → ℕ → ℕ → ℕ → Type 0
Arrives n e may Before s x s' moves started stopped =
    ToIdle n e may s x s' moves started stopped ⊎ (Pushes n e may Before s x s' moves started stopped ⊎ MustWait n e may Before s x s' moves started stopped)
