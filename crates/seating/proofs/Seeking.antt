-- One search for a place, from no core asked on: what it comes to, step by step, and what the place that it finds, or finds not, does to a seating.
use Prim.Native.Nat.{ℕ, ◌<◌}
use mathlib.Core.Path.{◌≡◌, refl, ◌∙◌, subst}
use mathlib.Core.Logic.{◌⊎◌, inl, inr, ◌≢◌}
use mathlib.Core.Bool.{Bool, true, false}
use native.Mathlib.Omega.{arith}
use Rattle.laws.specs.Lists.{last}
use Rattle.laws.proofs.Deciding.{cases, clash}
use Rattle.seating.specs.Running.{May, Running}
use Rattle.seating.proofs.Update.{upd}
use Rattle.seating.proofs.Same.{runs_ready}
use Rattle.seating.proofs.Take.{took_runs, took_old, took_keeps}
use Rattle.seating.proofs.Keep.{Settled, Joins, arrive_waits, arrive_idle}
use Rattle.seating.proofs.Place.{mark, Place, Freed, NoPlace, Kept, free_idle, free_held, sit, ask_on, ask_none, place_less, none_shut, kept_more}

-- whether a place was found, the seating, and the cores asked
pub record Tried : Type 0 where
  pub found : Bool
  pub seat : ℕ → ℕ
  pub asked : ℕ → Bool

-- ---- what it finds

-- what a search for a place for t in s comes to, the cores in A having been asked before it
pub record Sought (n e : ℕ) (may : ℕ → ℕ → Bool) (s : ℕ → ℕ) (A : ℕ → Bool) (t : ℕ) (r : Tried) : Type 0 where
  pub place : r.found ≡ true → Place n e may s A t r.seat
  pub none : r.found ≡ false → NoPlace n e may s A t r.asked
  pub as_was : r.found ≡ false → r.seat ≡ s

-- what asking core c comes to
pub record Asked (n e : ℕ) (may : ℕ → ℕ → Bool) (s : ℕ → ℕ) (A : ℕ → Bool) (c : ℕ) (r : Tried) : Type 0 where
  pub freed : r.found ≡ true → Freed n e may s A c r.seat
  pub kept : r.found ≡ false → Kept n e may s A c r.asked
  pub as_was : r.found ≡ false → r.seat ≡ s

module _ {n e : ℕ} {may : ℕ → ℕ → Bool} {s : ℕ → ℕ} {A : ℕ → Bool} where
  pub sought_none : {t : ℕ} → ((c : ℕ) → May n may t c → A c ≡ true) → Sought n e may s A t (record { found = false; seat = s; asked = A })
  sought_none h = record { place = λ q. clash q refl; none = λ q. ask_none h; as_was = λ q. refl }

  pub sought_here : {t c : ℕ} {r : Tried} → May n may t c → Asked n e may s A c r → r.found ≡ true
      → Sought n e may s A t (record { found = true; seat = upd r.seat c t; asked = r.asked })
  sought_here m a f = record { place = λ q. sit m (a.freed f); none = λ q. clash refl q; as_was = λ q. clash refl q }

  pub sought_on : {t c : ℕ} {r r' : Tried} → Asked n e may s A c r → r.found ≡ false → Sought n e may r.seat r.asked t r' → Sought n e may s A t r'
  sought_on {t} {c} {r} {r'} a f h = record {
    place = λ q. place_less (kept_more (a.kept f)) (subst (λ (z : ℕ → ℕ). Place n e may z r.asked t r'.seat) (a.as_was f) (h.place q));
    none = λ q. ask_on (a.kept f) (subst (λ (z : ℕ → ℕ). NoPlace n e may z r.asked t r'.asked) (a.as_was f) (h.none q));
    as_was = λ q. h.as_was q ∙ a.as_was f;
  }

  pub asked_idle : {c : ℕ} {B : ℕ → Bool} → A c ≡ false → s c ≡ e → Asked n e may s A c (record { found = true; seat = s; asked = B })
  asked_idle o i = record { freed = λ q. free_idle o i; kept = λ q. clash refl q; as_was = λ q. clash refl q }

  pub asked_held : {c : ℕ} {r : Tried} → c < n → A c ≡ false → s c ≢ e → Sought n e may s (mark A c) (s c) r → Asked n e may s A c r
  asked_held l o i h = record { freed = λ q. free_held o i (h.place q); kept = λ q. record { below = l; held = i; none = h.none q }; as_was = h.as_was }

-- ---- what it does to a seating

module _ {n e : ℕ} {may : ℕ → ℕ → Bool} {rank : ℕ → ℕ} {R R' : ℕ → Type 0} {s : ℕ → ℕ} {t : ℕ} {A : ℕ → Bool} {r : Tried} (H : Settled n e may rank R s) (J : Joins R R' t)
    (real : t ≢ e) (later : (u : ℕ) → R u → rank u < rank t) (z : (c : ℕ) → A c ≡ false) (h : Sought n e may s A t r) where
  out : Running n e s t → ⊥
  out q = let l = later t (runs_ready H.legal q) in omega arith

  -- t comes after whoever is ready, and a place is sought for it
  pub sought_settled : Settled n e may rank R' r.seat
  sought_settled = go (cases r.found)
    where
      go : (r.found ≡ true) ⊎ (r.found ≡ false) → Settled n e may rank R' r.seat
      go (inl f) = arrive_idle H J real out (h.place f).took (h.place f).idle
      go (inr f) = rw (h.as_was f) (arrive_waits H J (none_shut z (h.none f) (λ c l q. later (s c) (H.legal.ready c l q))))

  -- whoever ran runs
  pub sought_keeps : (x : ℕ) → Running n e s x → Running n e r.seat x
  sought_keeps x u = go (cases r.found)
    where
      go : (r.found ≡ true) ⊎ (r.found ≡ false) → Running n e r.seat x
      go (inl f) = let P = h.place f in took_keeps H.legal real P.took x u (λ q. u.real (q ∙ P.idle))
      go (inr f) = rw (h.as_was f) u

  -- and so does t, if a place was found
  pub sought_runs : r.found ≡ true → Running n e r.seat t
  sought_runs f = took_runs H.legal real (h.place f).took

  -- and nobody else
  pub sought_old : (x : ℕ) → Running n e r.seat x → Running n e s x ⊎ ((r.found ≡ true) × (x ≡ t))
  sought_old x u = go (cases r.found)
    where
      here : (f : r.found ≡ true) → (x ≡ t) ⊎ (Running n e s x × (x ≢ s (last (h.place f).c (h.place f).p))) → Running n e s x ⊎ ((r.found ≡ true) × (x ≡ t))
      here f (inl q) = inr (f, q)
      here f (inr q) = inl q.0

      go : (r.found ≡ true) ⊎ (r.found ≡ false) → Running n e s x ⊎ ((r.found ≡ true) × (x ≡ t))
      go (inl f) = here f (took_old H.legal real (h.place f).took x u)
      go (inr f) = inl (subst (λ (y : ℕ → ℕ). Running n e y x) (h.as_was f) u)
