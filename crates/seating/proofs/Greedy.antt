-- The tasks that run in a seating which keeps demand 2 are those that the greedy rule keeps; and the rule keeps one set only.
use Prim.Native.Nat.{ℕ, zero, suc, ◌<◌}
use mathlib.Core.Path.{◌≡◌, refl, sym, ap, ◌∙◌, subst}
use mathlib.Core.Logic.{◌⊎◌, inl, inr, ◌≢◌, ◌↔◌}
use mathlib.Core.Bool.{Bool, true, false, cond}
use mathlib.Core.List.{List}
use native.Mathlib.Nat.{not-suc-le-zero}
use native.Mathlib.Decide.{ℕ_discrete}
use native.Mathlib.Omega.{arith}
use lib.Dec.{ltb}
use Rattle.laws.specs.Decides.{Decides}
use Rattle.laws.specs.Lists.{last}
use Rattle.laws.proofs.Deciding.{cases, decides_false, decides_lt, decides_true, decides_yes}
use Rattle.seating.specs.Running.{Running, Waiting}
use Rattle.seating.specs.Chain.{Chain}
use Rattle.seating.specs.Reached.{Reached}
use Rattle.seating.specs.Strong.{Legal, Keeps}
use Rattle.seating.specs.Greedy.{Together, WithKept, Greedy}
use Rattle.seating.proofs.Shut.{Shut}
use Rattle.seating.proofs.Same.{runs_dec, runs_ready, same, shut_strong}
use Rattle.seating.proofs.Take.{Took, shift, shift_took, took_keeps, took_legal, took_old, took_runs}
use Rattle.seating.proofs.Keep.{Settled, legal_more}
use Rattle.seating.proofs.Ranks.{Ranked, keeps_settled}

-- ---- a seating with some of its tasks alone

only : (ℕ → Bool) → ℕ → (ℕ → ℕ) → ℕ → ℕ
only f e s c = cond (f (s c)) (s c) e

module _ (f : ℕ → Bool) (e : ℕ) (s : ℕ → ℕ) where
  only_same : (c : ℕ) → f (s c) ≡ true → only f e s c ≡ s c
  unfolding only
  only_same c h = rw h

  only_held : (c : ℕ) → only f e s c ≢ e → f (s c) ≡ true
  unfolding only
  only_held c h = go (cases (f (s c)))
    where
      go : (f (s c) ≡ true) ⊎ (f (s c) ≡ false) → f (s c) ≡ true
      go (inl k) = k
      go (inr k) = absurd (h (rw k))

  only_runs : {n t : ℕ} → Running n e s t → f t ≡ true → Running n e (only f e s) t
  only_runs r h = record { real = r.real; core = r.core; below = r.below; sits = only_same r.core (rw r.sits h) ∙ r.sits }

  runs_only : {n t : ℕ} → Running n e (only f e s) t → Running n e s t × (f t ≡ true)
  runs_only {n} {t} r =
      let h : f (s r.core) ≡ true = only_held r.core (λ q. r.real (sym r.sits ∙ q)) in
      let q : s r.core ≡ t = sym (only_same r.core h) ∙ r.sits in
      (record { real = r.real; core = r.core; below = r.below; sits = q }, rw q at h)

  only_legal : {n : ℕ} {may : ℕ → ℕ → Bool} {R T : ℕ → Type 0} → Legal n e may R s → ((t : ℕ) → Running n e s t → f t ≡ true → T t) → Legal n e may T (only f e s)
  only_legal L new = record {
    ready = λ c l q. rw (same_at c q) (new (s c) (record { real = held c q; core = c; below = l; sits = refl }) (only_held c q));
    allowed = λ c l q. rw (same_at c q) (L.allowed c l (held c q));
    once = λ c d l m q j. L.once c d l m (held c q) (sym (same_at c q) ∙ j ∙ same_at d (λ z. q (j ∙ z)));
  }
    where
      same_at : (c : ℕ) → only f e s c ≢ e → only f e s c ≡ s c
      same_at c q = only_same c (only_held c q)

      held : (c : ℕ) → only f e s c ≢ e → s c ≢ e
      held c q z = q (same_at c q ∙ z)

-- the tasks of rank below k
upto : (ℕ → ℕ) → ℕ → ℕ → Bool
upto rank k t = ltb (rank t) k

upto_lt : (rank : ℕ → ℕ) (k t : ℕ) → upto rank k t ≡ true → rank t < k
unfolding upto
upto_lt rank k t = (decides_lt (rank t) k).yes

lt_upto : (rank : ℕ → ℕ) (k t : ℕ) → rank t < k → upto rank k t ≡ true
unfolding upto
lt_upto rank k t = decides_yes (decides_lt (rank t) k)

-- ---- t sits together with those already kept where it runs, they all run, and whoever runs and comes before it is kept

sit_together : {n e : ℕ} {may : ℕ → ℕ → Bool} {Before : ℕ → ℕ → Type 0} {rank : ℕ → ℕ} {R : ℕ → Type 0} {s : ℕ → ℕ} {kept : ℕ → Bool} {t : ℕ} → Ranked R Before rank
    → Legal n e may R s → R t → Running n e s t → ((u : ℕ) → kept u ≡ true → Before u t → Running n e s u) → ((u : ℕ) → Running n e s u → rank u < rank t → kept u ≡ true)
    → Together n e may (WithKept Before kept t)
sit_together {n} {e} {may} {Before} {rank} {R} {s} {kept} {t} O L ready r old keeps = record { s = only low e s; legal = only_legal low e s L new; runs = all }
  where
    low : ℕ → Bool
    low = upto rank (suc (rank t))

    new : (u : ℕ) → Running n e s u → low u ≡ true → WithKept Before kept t u
    new u q h = go (ℕ_discrete (rank u) (rank t))
      where
        go : Dec (rank u ≡ rank t) → WithKept Before kept t u
        go (yes i) = inl (O.once u t (runs_ready L q) ready i)
        go (no i) = let l : rank u < rank t = let m = upto_lt rank (suc (rank t)) u h in omega arith in inr (keeps u q l, O.before u t (runs_ready L q) ready l)

    all : (u : ℕ) → WithKept Before kept t u → Running n e (only low e s) u
    all u (inl q) = rw q (only_runs low e s r (lt_upto rank (suc (rank t)) t (omega arith)))
    all u (inr (k, b)) =
        let q = old u k b in
        let l = O.lower u t (runs_ready L q) ready b in
        only_runs low e s q (lt_upto rank (suc (rank t)) u (omega arith))

-- ---- who runs is who is kept

module _ {n e : ℕ} {may : ℕ → ℕ → Bool} {Before : ℕ → ℕ → Type 0} {rank : ℕ → ℕ} {R : ℕ → Type 0} {s : ℕ → ℕ} {kept : ℕ → Bool} (O : Ranked R Before rank)
    (H : Settled n e may rank R s) (runs : (t : ℕ) → Decides (Running n e s t) (kept t)) {t : ℕ} (ready : R t) where
  -- those already kept and t sit together where t runs, since they all run
  runs_together : Running n e s t → Together n e may (WithKept Before kept t)
  runs_together r = sit_together O H.legal ready r (λ u k _. (runs u).yes k) (λ u q _. decides_yes (runs u) q)

  -- where t waits they do not: t is shut in by tasks that come before it and run, so that in no seating all of them run, and t too
  waits_apart : (Running n e s t → ⊥) → Together n e may (WithKept Before kept t) → ⊥
  waits_apart off G = let q = runs_only (upto rank (rank t)) e s (same legal' (shut_strong shut') G.legal (shut_strong (λ w u. absurd (u.off (G.runs w u.ready)))) t (G.runs t (inl refl))) in off q.0
    where
      s' : ℕ → ℕ
      s' = only (upto rank (rank t)) e s

      legal' : Legal n e may (WithKept Before kept t) s'
      legal' = only_legal (upto rank (rank t)) e s H.legal (λ u r h. inr (decides_yes (runs u) r, O.before u t (runs_ready H.legal r) ready (upto_lt rank (rank t) u h)))

      S : Shut n e may rank s t
      S = H.shut t (record { ready = ready; off = off })

      at : (c : ℕ) → S.K c ≡ true → s' c ≡ s c
      at c k = only_same (upto rank (rank t)) e s c (lt_upto rank (rank t) (s c) (S.before c k))

      shut' : (w : ℕ) → Waiting n e (WithKept Before kept t) s' w → Shut n e may rank s' w
      shut' w u = go u.ready
        where
          go : WithKept Before kept t w → Shut n e may rank s' w
          go (inl q) = rw q (record { K = S.K; starts = S.starts; full = λ c k. rw (at c k) (S.full c k); before = λ c k. rw (at c k) (S.before c k); closed = λ c k. rw (at c k) (S.closed c k) })
          go (inr (k, b)) = let r = (runs w).yes k in absurd (u.off (only_runs (upto rank (rank t)) e s r (lt_upto rank (rank t) w (O.lower w t (runs_ready H.legal r) ready b))))

pub settled_greedy : {n e : ℕ} {may : ℕ → ℕ → Bool} {Before : ℕ → ℕ → Type 0} {rank : ℕ → ℕ} {R : ℕ → Type 0} {s : ℕ → ℕ} {kept : ℕ → Bool} → Ranked R Before rank
    → Settled n e may rank R s → ((t : ℕ) → Decides (Running n e s t) (kept t)) → Greedy n e may Before R kept
settled_greedy O H runs = record {
  ready = λ t k. runs_ready H.legal ((runs t).yes k);
  each = λ t r. record { yes = λ k. runs_together O H runs r ((runs t).yes k); no = λ k. waits_apart O H runs r ((runs t).no k) };
}

-- The tasks that a seating runs which keeps demand 2 are those that the rule keeps.
pub keeps_greedy : {n e : ℕ} {may : ℕ → ℕ → Bool} {Before : ℕ → ℕ → Type 0} {rank : ℕ → ℕ} {R : ℕ → Type 0} {s : ℕ → ℕ} {kept : ℕ → Bool} → Ranked R Before rank
    → Keeps n e may Before R s → ((t : ℕ) → Decides (Running n e s t) (kept t)) → Greedy n e may Before R kept
keeps_greedy O K = settled_greedy O (keeps_settled O K)

-- ---- the rule keeps one set only

together_iff : {n e : ℕ} {may : ℕ → ℕ → Bool} {T T' : ℕ → Type 0} → ((t : ℕ) → T t → T' t) → ((t : ℕ) → T' t → T t) → Together n e may T → Together n e may T'
together_iff f g G = record { s = G.s; legal = legal_more f G.legal; runs = λ t h. G.runs t (g t h) }

module _ {n e : ℕ} {may : ℕ → ℕ → Bool} {Before : ℕ → ℕ → Type 0} {rank : ℕ → ℕ} {R : ℕ → Type 0} (O : Ranked R Before rank) where
  -- if the rule keeps t beside the one set of earlier tasks, it does so beside the other, where both have the same earlier tasks
  not_apart : {kept kept' : ℕ → Bool} → Greedy n e may Before R kept → Greedy n e may Before R kept' → (t : ℕ) → ((u : ℕ) → rank u < rank t → kept u ≡ kept' u)
      → kept t ≡ true → kept' t ≡ false → ⊥
  not_apart {kept} {kept'} G G' t h a b = (G'.each t r).no b (together_iff there back ((G.each t r).yes a))
    where
      r : R t
      r = G.ready t a

      there : (u : ℕ) → WithKept Before kept t u → WithKept Before kept' t u
      there u (inl q) = inl q
      there u (inr (k, l)) = inr (sym (h u (O.lower u t (G.ready u k) r l)) ∙ k, l)

      back : (u : ℕ) → WithKept Before kept' t u → WithKept Before kept t u
      back u (inl q) = inl q
      back u (inr (k, l)) = inr (h u (O.lower u t (G'.ready u k) r l) ∙ k, l)

  module _ {kept kept' : ℕ → Bool} (G : Greedy n e may Before R kept) (G' : Greedy n e may Before R kept') where
    below : (k t : ℕ) → rank t < k → kept t ≡ kept' t
    below zero t l = absurd (not-suc-le-zero l)
    below (suc k) t l = go (cases (kept t)) (cases (kept' t)) (λ u m. below k u m)
      where
        go : (kept t ≡ true) ⊎ (kept t ≡ false) → (kept' t ≡ true) ⊎ (kept' t ≡ false) → ((u : ℕ) → rank u < k → kept u ≡ kept' u) → kept t ≡ kept' t
        go (inl a) (inl b) h = a ∙ sym b
        go (inr a) (inr b) h = a ∙ sym b
        go (inl a) (inr b) h = absurd (not_apart G G' t (λ u m. h u (omega arith)) a b)
        go (inr a) (inl b) h = absurd (not_apart G' G t (λ u m. sym (h u (omega arith))) b a)

    pub greedy_same : (t : ℕ) → kept t ≡ kept' t
    greedy_same t = below (suc (rank t)) t (omega arith)

-- ---- in any seating that keeps demand 2

runs_test : (n e : ℕ) (s : ℕ → ℕ) (t : ℕ) → (b : Bool) × Decides (Running n e s t) b
runs_test n e s t = elim (runs_dec n e s t) [ inl r ↦ (true, decides_true r) | inr o ↦ (false, decides_false o) ]

-- The rule keeps exactly the tasks that run in any seating that keeps demand 2.
pub greedy_runs : {n e : ℕ} {may : ℕ → ℕ → Bool} {Before : ℕ → ℕ → Type 0} {rank : ℕ → ℕ} {R : ℕ → Type 0} {s : ℕ → ℕ} {kept : ℕ → Bool} → Ranked R Before rank
    → Keeps n e may Before R s → Greedy n e may Before R kept → (t : ℕ) → (kept t ≡ true) ↔ Running n e s t
greedy_runs {n} {e} {may} {Before} {rank} {R} {s} {kept} O K G t = (λ k. (runs t).yes (sym (same_at t) ∙ k), λ r. same_at t ∙ decides_yes (runs t) r)
  where
    runs : (u : ℕ) → Decides (Running n e s u) (runs_test n e s u).0
    runs u = (runs_test n e s u).1

    same_at : (u : ℕ) → kept u ≡ (runs_test n e s u).0
    same_at = greedy_same O G (keeps_greedy O K runs)

-- ---- and the other way round

module _ {n e : ℕ} {may : ℕ → ℕ → Bool} {Before : ℕ → ℕ → Type 0} {rank : ℕ → ℕ} {R : ℕ → Type 0} {s : ℕ → ℕ} {kept : ℕ → Bool} (O : Ranked R Before rank)
    (real : (t : ℕ) → R t → t ≢ e) (G : Greedy n e may Before R kept) (L : Legal n e may R s) (runs : (t : ℕ) → Running n e s t ↔ (kept t ≡ true)) where
  -- if a waiting task took a chain, and those who were kept before it still ran, the rule would have kept it
  no_room : {w c : ℕ} {p : List ℕ} → Waiting n e R s w → Chain n e may s w c p → ((u : ℕ) → Running n e s u → rank u < rank w → u ≢ s (last c p)) → ⊥
  no_room {w} {c} {p} u k spared = (G.each w u.ready).no dropped (sit_together O legal' u.ready (took_runs L (real w u.ready) took) old keeps)
    where
      dropped : kept w ≡ false
      dropped = elim (cases (kept w)) [ inl q ↦ absurd (u.off ((runs w).1 q)) | inr q ↦ q ]

      took : Took n e may s (shift s w c p) w c p
      took = shift_took k

      legal' : Legal n e may R (shift s w c p)
      legal' = took_legal L (real w u.ready) u.ready u.off took

      old : (t : ℕ) → kept t ≡ true → Before t w → Running n e (shift s w c p) t
      old t q b = let r = (runs t).1 q in took_keeps L (real w u.ready) took t r (spared t r (O.lower t w (runs_ready L r) u.ready b))

      keeps : (t : ℕ) → Running n e (shift s w c p) t → rank t < rank w → kept t ≡ true
      keeps t r l = elim (took_old L (real w u.ready) took t r) [ inl q ↦ absurd (let z = ap rank q in omega arith) | inr q ↦ (runs t).0 q.0 ]

  -- Any legal seating of just the tasks that the rule keeps keeps demand 2.
  pub greedy_keeps : Keeps n e may Before R s
  greedy_keeps = record {
    legal = L;
    strong = record {
      no_idle = λ w c u r q. no_room u r.chain (λ t i l z. i.real (z ∙ ap s r.ends ∙ q));
      none_after = after;
    };
  }
    where
      after : (w c : ℕ) → Waiting n e R s w → Reached n e may s w c → Before w (s c) → ⊥
      after w c u r b = no_room u r.chain spared
        where
          spared : (t : ℕ) → Running n e s t → rank t < rank w → t ≢ s (last r.c r.p)
          spared t i l z =
              let q : t ≡ s c = z ∙ ap s r.ends in
              let m = O.lower w (s c) u.ready (subst R q (runs_ready L i)) b in
              let k = ap rank q in
              omega arith
