-- Tasks take their turns in their order, and a place is sought for each: what holds after each turn.
use Prim.Native.Nat.{ℕ, ◌<◌}
use mathlib.Core.Path.{◌≡◌, sym, ◌∙◌}
use mathlib.Core.Logic.{inl, inr, ◌≢◌}
use mathlib.Core.Bool.{Bool, false}
use native.Mathlib.Decide.{ℕ_discrete}
use native.Mathlib.Omega.{arith}
use Rattle.laws.specs.Decides.{Decides}
use Rattle.laws.proofs.Deciding.{clash, decides_by, decides_is, decides_false}
use Rattle.seating.specs.Running.{Running}
use Rattle.seating.proofs.Same.{runs_ready}
use Rattle.seating.proofs.Keep.{Settled, Joins, settled_iff}
use Rattle.seating.proofs.Seeking.{Tried, Sought, sought_settled, sought_keeps, sought_runs, sought_old}

-- s is a strong seating of the tasks R that have had their turn, and of these the ones kept are those that it runs
pub record Turns (n e : ℕ) (may : ℕ → ℕ → Bool) (rank : ℕ → ℕ) (R : ℕ → Type 0) (s : ℕ → ℕ) (kept : ℕ → Bool) : Type 0 where
  pub settled : Settled n e may rank R s
  pub runs : (x : ℕ) → Decides (Running n e s x) (kept x)

-- nobody has had a turn
pub turns_start : {n e : ℕ} {may : ℕ → ℕ → Bool} {rank : ℕ → ℕ} {R : ℕ → Type 0} {s : ℕ → ℕ} {kept : ℕ → Bool} → ((t : ℕ) → R t → ⊥) → ((c : ℕ) → c < n → s c ≡ e)
    → ((x : ℕ) → kept x ≡ false) → Turns n e may rank R s kept
turns_start none idle off = record {
  settled = record {
    legal = record { ready = λ c l q. absurd (q (idle c l)); allowed = λ c l q. absurd (q (idle c l)); once = λ c d l m q i. absurd (q (idle c l)) };
    shut = λ w u. absurd (none w u.ready);
  };
  runs = λ x. decides_is (sym (off x)) (decides_false (λ u. u.real (sym u.sits ∙ idle u.core u.below)));
}

-- t, which comes after all that have had their turn, has its own: it is kept if a place is found, and nobody else is kept or dropped
pub turns_next : {n e : ℕ} {may : ℕ → ℕ → Bool} {rank : ℕ → ℕ} {R R' : ℕ → Type 0} {s : ℕ → ℕ} {kept kept' : ℕ → Bool} {t : ℕ} {A : ℕ → Bool} {r : Tried}
    → Turns n e may rank R s kept → Joins R R' t → t ≢ e → ((u : ℕ) → R u → rank u < rank t) → ((c : ℕ) → A c ≡ false) → Sought n e may s A t r
    → kept' t ≡ r.found → ((x : ℕ) → x ≢ t → kept' x ≡ kept x) → Turns n e may rank R' r.seat kept'
turns_next {n} {e} {may} {rank} {R} {R'} {s} {kept} {kept'} {t} {A} {r} H J real later z h own others =
    record { settled = sought_settled H.settled J real later z h; runs = λ x. go x (ℕ_discrete x t) }
  where
    -- whoever else runs ran before
    ran : (x : ℕ) → x ≢ t → Running n e r.seat x → Running n e s x
    ran x q u = elim (sought_old H.settled J real later z h x u) [ inl i ↦ i | inr i ↦ absurd (q i.1) ]

    off : r.found ≡ false → Running n e r.seat t → ⊥
    off f u = elim (sought_old H.settled J real later z h t u) [ inl i ↦ absurd (let l = later t (runs_ready H.settled.legal i) in omega arith) | inr i ↦ clash i.0 f ]

    go : (x : ℕ) → Dec (x ≡ t) → Decides (Running n e r.seat x) (kept' x)
    go x (yes q) = rw q (decides_is (sym own) (record { yes = sought_runs H.settled J real later z h; no = off }))
    go x (no q) = decides_is (sym (others x q)) (decides_by (sought_keeps H.settled J real later z h x) (ran x q) (H.runs x))

-- the tasks that have had their turn, in other words
pub turns_iff : {n e : ℕ} {may : ℕ → ℕ → Bool} {rank : ℕ → ℕ} {R R' : ℕ → Type 0} {s : ℕ → ℕ} {kept : ℕ → Bool} → ((t : ℕ) → R t → R' t) → ((t : ℕ) → R' t → R t)
    → Turns n e may rank R s kept → Turns n e may rank R' s kept
turns_iff f g H = record { settled = settled_iff f g H.settled; runs = H.runs }
