-- An order that is a rank: the strong rule by the order and by the rank are the same.
use Prim.Native.Nat.{ℕ, ◌<◌}
use mathlib.Core.Path.{◌≡◌, refl, ◌∙◌, subst}
use mathlib.Core.Logic.{◌≢◌}
use mathlib.Core.Bool.{Bool}
use mathlib.Core.List.{List}
use native.Mathlib.Omega.{arith}
use Rattle.laws.specs.Lists.{last}
use Rattle.laws.proofs.Counting.{last_in}
use Rattle.seating.specs.Running.{Running, Waiting}
use Rattle.seating.specs.Chain.{Chain}
use Rattle.seating.specs.Reached.{Reached}
use Rattle.seating.specs.Strong.{Legal, Strong, Keeps}
use Rattle.seating.proofs.Shut.{RankStrong}
use Rattle.seating.proofs.Take.{chain_below}
use Rattle.seating.proofs.Same.{same}
use Rattle.seating.proofs.Keep.{Settled}
use Rattle.seating.proofs.Reach.{strong_settled}

-- of the ready tasks the one with the lower rank comes before, and no two have one rank
pub record Ranked (R : ℕ → Type 0) (Before : ℕ → ℕ → Type 0) (rank : ℕ → ℕ) : Type 0 where
  pub lower : (t u : ℕ) → R t → R u → Before t u → rank t < rank u
  pub before : (t u : ℕ) → R t → R u → rank t < rank u → Before t u
  pub once : (t u : ℕ) → R t → R u → rank t ≡ rank u → t ≡ u

pub reached_below : {n e : ℕ} {may : ℕ → ℕ → Bool} {s : ℕ → ℕ} {x c : ℕ} → Reached n e may s x c → c < n
reached_below {n} r = subst (λ (z : ℕ). z < n) r.ends (chain_below r.chain (last r.c r.p) (last_in r.c r.p))

pub chain_reached : {n e : ℕ} {may : ℕ → ℕ → Bool} {s : ℕ → ℕ} {x c : ℕ} {p : List ℕ} → Chain n e may s x c p → Reached n e may s x (last c p)
chain_reached {c} {p} k = record { c = c; p = p; chain = k; ends = refl }

module _ {n e : ℕ} {may : ℕ → ℕ → Bool} {Before : ℕ → ℕ → Type 0} {rank : ℕ → ℕ} {R : ℕ → Type 0} {s : ℕ → ℕ} (O : Ranked R Before rank) where
  pub strong_ranked : Legal n e may R s → Strong n e may Before R s → RankStrong n e may rank R s
  strong_ranked L S = record { full = λ w c p u k. S.no_idle w (last c p) u (chain_reached k); before = λ w c p u k. lower w c p u k }
    where
      lower : (w c : ℕ) (p : List ℕ) → Waiting n e R s w → Chain n e may s w c p → rank (s (last c p)) < rank w
      lower w c p u k =
          let r = chain_reached k in
          let l : last c p < n = reached_below r in
          let held : s (last c p) ≢ e = S.no_idle w (last c p) u r in
          let ready : R (s (last c p)) = L.ready (last c p) l held in
          let a : rank w < rank (s (last c p)) → ⊥ = λ b. S.none_after w (last c p) u r (O.before w (s (last c p)) u.ready ready b) in
          let b : rank (s (last c p)) ≢ rank w = λ q. u.off (record { real = λ i. held (O.once (s (last c p)) w ready u.ready q ∙ i); core = last c p; below = l; sits = O.once (s (last c p)) w ready u.ready q }) in
          omega arith

  pub ranked_strong : Legal n e may R s → RankStrong n e may rank R s → Strong n e may Before R s
  ranked_strong L S = record { no_idle = held; none_after = after }
    where
      held : (w c : ℕ) → Waiting n e R s w → Reached n e may s w c → s c ≢ e
      held w c u r = subst (λ (z : ℕ). s z ≢ e) r.ends (S.full w r.c r.p u r.chain)

      after : (w c : ℕ) → Waiting n e R s w → Reached n e may s w c → Before w (s c) → ⊥
      after w c u r b =
          let a : rank (s c) < rank w = subst (λ (z : ℕ). rank (s z) < rank w) r.ends (S.before w r.c r.p u r.chain) in
          let l = O.lower w (s c) u.ready (L.ready c (reached_below r) (held w c u r)) b in
          omega arith

  pub keeps_settled : Keeps n e may Before R s → Settled n e may rank R s
  keeps_settled K = strong_settled K.legal (strong_ranked K.legal K.strong)

-- Two seatings that keep the strong rule for the same ready tasks run the same tasks.
pub keeps_same : {n e : ℕ} {may : ℕ → ℕ → Bool} {Before : ℕ → ℕ → Type 0} {rank : ℕ → ℕ} {R : ℕ → Type 0} {s s' : ℕ → ℕ} → Ranked R Before rank
    → Keeps n e may Before R s → Keeps n e may Before R s' → (t : ℕ) → Running n e s' t → Running n e s t
keeps_same O K K' = same K.legal (strong_ranked O K.legal K.strong) K'.legal (strong_ranked O K'.legal K'.strong)
