-- An arrival and a filling keep any legal seating legal, whether it is strong or not, and leave every core at or above the count as it was.
use Prim.Native.Nat.{ℕ, ◌≤◌}
use mathlib.Core.Path.{◌≡◌, fun_ext}
use mathlib.Core.Logic.{inl, inr, ◌≢◌}
use mathlib.Core.Bool.{Bool}
use native.Mathlib.Omega.{arith}
use Rattle.seating.specs.Running.{Running}
use Rattle.seating.specs.Taking.{Goes, Stays}
use Rattle.seating.specs.Arrival.{Arrives}
use Rattle.seating.specs.Filling.{Fills}
use Rattle.seating.specs.Strong.{Legal}
use Rattle.seating.proofs.Take.{took_legal, chain_below}
use Rattle.seating.proofs.Rules.{takes_took}

-- ---- it stays legal

goes_legal : {n e : ℕ} {may : ℕ → ℕ → Bool} {R : ℕ → Type 0} {s : ℕ → ℕ} {x : ℕ} {T : ℕ → Bool} {s' : ℕ → ℕ} {moves : ℕ} → Legal n e may R s → x ≢ e → R x → (Running n e s x → ⊥)
    → Goes n e may s x T s' moves → Legal n e may R s'
goes_legal L real ready out g = took_legal L real ready out (takes_took g.chosen.chain g.takes)

stays_legal : {n e : ℕ} {may : ℕ → ℕ → Bool} {R : ℕ → Type 0} {s s' : ℕ → ℕ} {moves : ℕ} → Legal n e may R s → Stays s s' moves → Legal n e may R s'
stays_legal L h = rw (fun_ext h.seats) L

pub arrives_legal : {n e : ℕ} {may : ℕ → ℕ → Bool} {Before : ℕ → ℕ → Type 0} {R : ℕ → Type 0} {s : ℕ → ℕ} {x : ℕ} {s' : ℕ → ℕ} {moves started stopped : ℕ}
    → Legal n e may R s → x ≢ e → R x → (Running n e s x → ⊥) → Arrives n e may Before s x s' moves started stopped → Legal n e may R s'
arrives_legal L real ready out (inl h) = goes_legal L real ready out h.goes
arrives_legal L real ready out (inr (inl h)) = goes_legal L real ready out h.goes
arrives_legal L real ready out (inr (inr h)) = stays_legal L h.stays

pub fills_legal : {n e : ℕ} {may : ℕ → ℕ → Bool} {Before : ℕ → ℕ → Type 0} {R : ℕ → Type 0} {s : ℕ → ℕ} {z : ℕ} {s' : ℕ → ℕ} {moves started : ℕ}
    → Legal n e may R s → ((t : ℕ) → R t → t ≢ e) → Fills n e may Before R s z s' moves started → Legal n e may R s'
fills_legal L real (inl h) = let u = h.first.waits in goes_legal L (real _ u.ready) u.ready u.off h.goes
fills_legal L real (inr h) = stays_legal L h.stays

-- ---- the cores at or above the count: those of a chain are below it

goes_beyond : {n e : ℕ} {may : ℕ → ℕ → Bool} {s : ℕ → ℕ} {x : ℕ} {T : ℕ → Bool} {s' : ℕ → ℕ} {moves : ℕ} → Goes n e may s x T s' moves → (c : ℕ) → n ≤ c → s' c ≡ s c
goes_beyond g c l = g.takes.others c (λ i. let b = chain_below g.chosen.chain c i in omega arith)

pub arrives_beyond : {n e : ℕ} {may : ℕ → ℕ → Bool} {Before : ℕ → ℕ → Type 0} {s : ℕ → ℕ} {x : ℕ} {s' : ℕ → ℕ} {moves started stopped : ℕ}
    → Arrives n e may Before s x s' moves started stopped → (c : ℕ) → n ≤ c → s' c ≡ s c
arrives_beyond (inl h) = goes_beyond h.goes
arrives_beyond (inr (inl h)) = goes_beyond h.goes
arrives_beyond (inr (inr h)) = λ c l. h.stays.seats c

pub fills_beyond : {n e : ℕ} {may : ℕ → ℕ → Bool} {Before : ℕ → ℕ → Type 0} {R : ℕ → Type 0} {s : ℕ → ℕ} {z : ℕ} {s' : ℕ → ℕ} {moves started : ℕ}
    → Fills n e may Before R s z s' moves started → (c : ℕ) → n ≤ c → s' c ≡ s c
fills_beyond (inl h) = goes_beyond h.goes
fills_beyond (inr h) = λ c l. h.stays.seats c
