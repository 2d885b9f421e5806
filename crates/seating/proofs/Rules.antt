-- What document 01 tells the calls to do keeps demands 2 and 3: when a task arrives, when a task leaves, when nobody who is ready changes.
use Prim.Native.Nat.{ℕ, ◌≤◌, ◌<◌}
use mathlib.Core.Path.{◌≡◌, refl, sym, ap, ◌∙◌, subst, fun_ext}
use mathlib.Core.Logic.{◌⊎◌, inl, inr, ◌≢◌}
use mathlib.Core.Bool.{Bool, true}
use mathlib.Core.List.{List, [], ◌∷◌}
use native.Mathlib.Decide.{ℕ_discrete}
use native.Mathlib.Omega.{arith}
use lib.ListN.{length}
use lib.Dec.{eqb, leb}
use borrow.Author.Tests.{leb-true}
use Rattle.laws.specs.Lists.{last}
use Rattle.laws.specs.Pick.{Picks}
use Rattle.laws.proofs.Deciding.{clash}
use Rattle.laws.proofs.Testing.{eqb_eq, eqb_true}
use Rattle.laws.proofs.Picking.{by_key, pick, pick_picks}
use Rattle.laws.proofs.Counting.{pigeonhole}
use Rattle.seating.specs.Running.{May, Running, Waiting}
use Rattle.seating.specs.Chain.{Links, Chain}
use Rattle.seating.specs.Reached.{Reached}
use Rattle.seating.specs.Moved.{moved}
use Rattle.seating.specs.Taking.{Passes, Takes, Goes, Stays}
use Rattle.seating.specs.Arrival.{ToIdle, Last, Pushes, MustWait, Arrives}
use Rattle.seating.specs.Filling.{First, Filled, StaysIdle, Fills}
use Rattle.seating.specs.Strong.{Legal, Keeps}
use Rattle.seating.specs.Least.{Least}
use Rattle.seating.proofs.Same.{Shifts}
use Rattle.seating.proofs.Take.{Took, chain_below}
use Rattle.seating.proofs.Choice.{chosen_shortest}
use Rattle.seating.proofs.Keep.{Settled, Joins, Cage, Pen, cage_shut, leave_waits}
use Rattle.seating.proofs.Moving.{took_moved, moved_none, moved_left}
use Rattle.seating.proofs.Reach.{reached, reach_inside}
use Rattle.seating.proofs.Best.{Best, best_stays, best_idle, best_full, best_waits, Leaky, leave_leaky, fill_none, best_fill}
use Rattle.seating.proofs.Ranks.{Ranked, reached_below, strong_ranked, ranked_strong, keeps_settled}

-- ---- taking a chain

passes_shifts : (n e : ℕ) (may : ℕ → ℕ → Bool) (s s' : ℕ → ℕ) (c : ℕ) (p : List ℕ) → Links n e may s c p → Passes s s' c p → Shifts n e s s' c p
passes_shifts n e may s s' c [] l h = tt
passes_shifts n e may s s' c (d ∷ p) l h = (l.0, l.1.0, h.0, passes_shifts n e may s s' d p l.2 h.1)

pub takes_took : {n e : ℕ} {may : ℕ → ℕ → Bool} {s s' : ℕ → ℕ} {x c : ℕ} {p : List ℕ} → Chain n e may s x c p → Takes s s' x c p → Took n e may s s' x c p
takes_took {n} {e} {may} {s} {s'} {x} {c} {p} k t = record { chain = k; first = t.first; shifts = passes_shifts n e may s s' c p k.links t.next; off = t.others }

shifts_passes : (n e : ℕ) (s s' : ℕ → ℕ) (c : ℕ) (p : List ℕ) → Shifts n e s s' c p → Passes s s' c p
shifts_passes n e s s' c [] h = tt
shifts_passes n e s s' c (d ∷ p) h = (h.2, shifts_passes n e s s' d p h.3)

pub took_takes : {n e : ℕ} {may : ℕ → ℕ → Bool} {s s' : ℕ → ℕ} {x c : ℕ} {p : List ℕ} → Took n e may s s' x c p → Takes s s' x c p
took_takes {n} {e} {may} {s} {s'} {x} {c} {p} k = record { first = k.first; next = shifts_passes n e s s' c p k.shifts; others = k.off }

short : {n e : ℕ} {may : ℕ → ℕ → Bool} {s : ℕ → ℕ} {x c : ℕ} {p : List ℕ} → Chain n e may s x c p → length p < n
short {n} {c = c} {p} k = pigeonhole (c ∷ p) n k.distinct (chain_below k)

-- x reaches no idle core: a cage of cores that it reaches
held_cage : {n e : ℕ} {may : ℕ → ℕ → Bool} {s : ℕ → ℕ} {x : ℕ} → ((c : ℕ) → Reached n e may s x c → s c ≢ e) → (G : Cage n e may s x) × ((c : ℕ) → G.K c ≡ true → Reached n e may s x c)
held_cage {n} {e} {may} {s} {x} h = go (reached n e may s x)
  where
    go : ((c : ℕ) × Reached n e may s x c × (s c ≡ e)) ⊎ ((G : Cage n e may s x) × ((c : ℕ) → G.K c ≡ true → Reached n e may s x c))
        → (G : Cage n e may s x) × ((c : ℕ) → G.K c ≡ true → Reached n e may s x c)
    go (inl (c, r, q)) = absurd (h c r q)
    go (inr G) = G

-- ---- from ranks to the order

-- s₀ is the seating that a chain is taken in, s the one from which moves are counted
ranked_keeps : {n e : ℕ} {may : ℕ → ℕ → Bool} {Before : ℕ → ℕ → Type 0} {rank : ℕ → ℕ} {R : ℕ → Type 0} {s s' : ℕ → ℕ} → Ranked R Before rank → Best n e may rank R s s' → Keeps n e may Before R s'
ranked_keeps O B = record { legal = B.legal; strong = ranked_strong O B.legal B.strong }

ranked_least : {n e : ℕ} {may : ℕ → ℕ → Bool} {Before : ℕ → ℕ → Type 0} {rank : ℕ → ℕ} {R : ℕ → Type 0} {s s' : ℕ → ℕ} {moves : ℕ} → Ranked R Before rank → Best n e may rank R s s'
    → moves ≡ moved n e s s' → moves < n → Least n e may Before R s s' moves
ranked_least O B told below = record { fewest = λ s'' K. B.fewest s'' K.legal (strong_ranked O K.legal K.strong); told = told; below = below }

-- nobody moves
pub stays_least : {n e : ℕ} {may : ℕ → ℕ → Bool} {Before : ℕ → ℕ → Type 0} {R : ℕ → Type 0} {s : ℕ → ℕ} → 0 < n → Keeps n e may Before R s → Least n e may Before R s s 0
stays_least l K = let z = moved_none K.legal in record { fewest = λ s'' H. omega arith; told = sym z; below = l }

stays_both : {n e : ℕ} {may : ℕ → ℕ → Bool} {Before : ℕ → ℕ → Type 0} {R : ℕ → Type 0} {s s' : ℕ → ℕ} {moves : ℕ} → 0 < n → Keeps n e may Before R s → Stays s s' moves
    → Keeps n e may Before R s' × Least n e may Before R s s' moves
stays_both l K h = rw (fun_ext h.seats, h.count) (K, stays_least l K)

-- ---- a task arrives

-- R: those who were ready before x came
module _ {n e : ℕ} {may : ℕ → ℕ → Bool} {Before : ℕ → ℕ → Type 0} {rank : ℕ → ℕ} {R R' : ℕ → Type 0} {s : ℕ → ℕ} {x : ℕ} (some : 0 < n) (O : Ranked R' Before rank) (K : Keeps n e may Before R s)
    (J : Joins R R' x) (real : x ≢ e) (out : Running n e s x → ⊥) where
  old : Ranked R Before rank
  old = record {
    lower = λ t u r q. O.lower t u (J.old t r) (J.old u q);
    before = λ t u r q. O.before t u (J.old t r) (J.old u q);
    once = λ t u r q. O.once t u (J.old t r) (J.old u q);
  }

  settled : Settled n e may rank R s
  settled = keeps_settled old K

  all : Legal n e may R' s
  all = record { ready = λ c l q. J.old (s c) (K.legal.ready c l q); allowed = K.legal.allowed; once = K.legal.once }

  goes_told : {T : ℕ → Bool} {s' : ℕ → ℕ} {moves : ℕ} (g : Goes n e may s x T s' moves) → Best n e may rank R' s s' → moves ≡ moved n e s s'
  goes_told g B = g.count ∙ sym (took_moved K.legal B.legal real out (takes_took g.chosen.chain g.takes))

  goes_below : {T : ℕ → Bool} {s' : ℕ → ℕ} {moves : ℕ} → Goes n e may s x T s' moves → moves < n
  goes_below g = let a = short g.chosen.chain in let b = g.count in omega arith

  idle_best : {s' : ℕ → ℕ} {moves started stopped : ℕ} → ToIdle n e may s x s' moves started stopped → Best n e may rank R' s s'
  idle_best h = let g = h.goes in
      best_idle settled J real out (takes_took g.chosen.chain g.takes) (eqb_eq g.chosen.hits) (λ d q k i. chosen_shortest g.chosen d q k (eqb_true i))

  pushes_best : {s' : ℕ → ℕ} {moves started stopped : ℕ} → Pushes n e may Before s x s' moves started stopped → Best n e may rank R' s s'
  pushes_best {s'} {moves} h =
      best_full settled J real out (takes_took g.chosen.chain g.takes) G.0 latest (rw there (O.lower x (s z) J.new (ready z h.last.reached) h.before))
      (λ d q k i. chosen_shortest g.chosen d q k (eqb_true (i ∙ there)))
    where
      g : Goes n e may s x (λ c. eqb c h.core) s' moves
      g = h.goes

      z : ℕ
      z = h.core

      there : last g.c g.p ≡ z
      there = eqb_eq g.chosen.hits

      G : (G : Cage n e may s x) × ((c : ℕ) → G.K c ≡ true → Reached n e may s x c)
      G = held_cage h.full.held

      ready : (c : ℕ) → Reached n e may s x c → R' (s c)
      ready c r = all.ready c (reached_below r) (h.full.held c r)

      latest : (a : ℕ) → G.0.K a ≡ true → a ≢ last g.c g.p → rank (s a) < rank (s (last g.c g.p))
      latest a i d = rw there (O.lower (s a) (s z) (ready a (G.1 a i)) (ready z h.last.reached) (h.last.others a (G.1 a i) (λ q. d (q ∙ sym there))))

  -- the tasks on all reached cores come before x, since the last of them does
  waits_best : {s' : ℕ → ℕ} {moves started stopped : ℕ} → MustWait n e may Before s x s' moves started stopped → Best n e may rank R' s s
  waits_best h = best_waits settled J (cage_shut G.0 (λ c i. earlier c i (pick_picks n le G.0.K n (by_key (λ c. rank (s c))) (omega arith))))
    where
      le : ℕ → ℕ → Bool
      le a b = leb (rank (s a)) (rank (s b))

      G : (G : Cage n e may s x) × ((c : ℕ) → G.K c ≡ true → Reached n e may s x c)
      G = held_cage h.full.held

      ready : (c : ℕ) → G.0.K c ≡ true → R' (s c)
      ready c i = all.ready c (reached_below (G.1 c i)) (h.full.held c (G.1 c i))

      apart : (c : ℕ) → G.0.K c ≡ true → rank (s c) ≢ rank x
      apart c i q = out (record { real = real; core = c; below = reached_below (G.1 c i); sits = O.once (s c) x (ready c i) J.new q })

      earlier : (c : ℕ) → G.0.K c ≡ true → Picks n le G.0.K n (pick n le G.0.K n) → rank (s c) < rank x
      earlier c i (inr P) = clash i (P.none c (reached_below (G.1 c i)))
      earlier c i (inl P) =
          let a = leb-true (rank (s c)) (rank (s z)) (P.last c (reached_below (G.1 c i)) i) in
          let b = apart z P.passes in
          omega (arith, not_x)
        where
          z : ℕ
          z = pick n le G.0.K n

          last_z : Last n e may Before s x z
          last_z = record { reached = G.1 z P.passes; others = λ a r d. O.before (s a) (s z) (all.ready a (reached_below r) (h.full.held a r)) (ready z P.passes) (strict a r d) }
            where
              strict : (a : ℕ) → Reached n e may s x a → a ≢ z → rank (s a) < rank (s z)
              strict a r d =
                  let i = reach_inside G.0 r in
                  let l = leb-true (rank (s a)) (rank (s z)) (P.last a (reached_below r) i) in
                  let o : rank (s a) ≢ rank (s z) = λ q. d (K.legal.once a z (reached_below r) P.below (h.full.held a r) (O.once (s a) (s z) (ready a i) (ready z P.passes) q)) in
                  omega arith

          not_x : rank (s z) ≤ rank x
          not_x = let n : rank x < rank (s z) → ⊥ = λ l. h.not_before z last_z (O.before x (s z) J.new (ready z P.passes) l) in omega arith

  pub arrives_keeps : {s' : ℕ → ℕ} {moves started stopped : ℕ} → Arrives n e may Before s x s' moves started stopped → Keeps n e may Before R' s' × Least n e may Before R' s s' moves
  arrives_keeps (inl h) = let B = idle_best h in (ranked_keeps O B, ranked_least O B (goes_told h.goes B) (goes_below h.goes))
  arrives_keeps (inr (inl h)) = let B = pushes_best h in (ranked_keeps O B, ranked_least O B (goes_told h.goes B) (goes_below h.goes))
  arrives_keeps (inr (inr h)) = let k = ranked_keeps O (waits_best h) in stays_both some k h.stays

-- ---- core z is idle

module _ {n e : ℕ} {may : ℕ → ℕ → Bool} {Before : ℕ → ℕ → Type 0} {rank : ℕ → ℕ} {R : ℕ → Type 0} {s : ℕ → ℕ} {z : ℕ} (O : Ranked R Before rank) (H : Leaky n e may rank R s z) (real : (t : ℕ) → R t → t ≢ e) where
  pen_links : {w : ℕ} (P : Pen n e may rank s z w (rank w)) (c : ℕ) (p : List ℕ) → P.K c ≡ true → Links n e may s c p → P.K (last c p) ≡ true
  pen_links P c [] i l = i
  pen_links P c (d ∷ p) i l = pen_links P d p (P.closed c i (λ q. l.0 (ap s q ∙ H.idle)) d l.1) l.2

  -- z is the only idle core that a waiting task can reach
  only_z : {w c : ℕ} → Waiting n e R s w → Reached n e may s w c → s c ≡ e → c ≡ z
  only_z {w} {c} u r q = go (ℕ_discrete c z)
    where
      P : Pen n e may rank s z w (rank w)
      P = H.pen w u

      go : Dec (c ≡ z) → c ≡ z
      go (yes i) = i
      go (no i) = absurd (P.full c (subst (λ (y : ℕ). P.K y ≡ true) r.ends (pen_links P r.c r.p (P.starts r.c r.chain.start) r.chain.links)) i q)

  filled_best : {s' : ℕ → ℕ} {moves started : ℕ} → Filled n e may Before R s z s' moves started → Best n e may rank R s s'
  filled_best {s'} {moves} {started} h =
      best_fill H (real started F.waits.ready) F.waits (takes_took g.chosen.chain g.takes) (eqb_eq g.chosen.hits) others
      (λ d q k i. chosen_shortest g.chosen d q k (eqb_true (only_z F.waits (record { c = d; p = q; chain = k; ends = refl }) i)))
    where
      F : First n e may Before R s z started
      F = h.first

      g : Goes n e may s started (λ c. eqb c z) s' moves
      g = h.goes

      others : (y : ℕ) → Waiting n e R s y → y ≢ started → Cage n e may s y ⊎ (rank started < rank y)
      others y u d = go (reached n e may s y)
        where
          go : ((c : ℕ) × Reached n e may s y c × (s c ≡ e)) ⊎ ((G : Cage n e may s y) × ((c : ℕ) → G.K c ≡ true → Reached n e may s y c))
              → Cage n e may s y ⊎ (rank started < rank y)
          go (inr G) = inl G.0
          go (inl (c, r, q)) = inr (O.lower started y F.waits.ready u.ready (F.rest y u (subst (λ (a : ℕ). Reached n e may s y a) (only_z u r q) r) d))

  idle_stays : {s' : ℕ → ℕ} {moves started : ℕ} → StaysIdle n e may R s z s' moves started → Best n e may rank R s s
  idle_stays h = best_stays (fill_none H (λ w u. (held_cage (λ c r q. h.none w u (subst (λ (y : ℕ). Reached n e may s w y) (only_z u r q) r))).0))

-- ---- a task leaves

-- s is the seating before, R the tasks that were ready; after, these are R' and the order is Before'
module _ {n e : ℕ} {may : ℕ → ℕ → Bool} {Before Before' : ℕ → ℕ → Type 0} {rank : ℕ → ℕ} {R R' : ℕ → Type 0} {s : ℕ → ℕ} {x : ℕ} (some : 0 < n) (O : Ranked R Before rank) (O' : Ranked R' Before' rank)
    (K : Keeps n e may Before R s) (less : (t : ℕ) → R' t → R t × (t ≢ x)) (rest : (t : ℕ) → R t → t ≢ x → R' t) where
  -- it waited
  pub leaves_keeps : (Running n e s x → ⊥) → Keeps n e may Before' R' s × Least n e may Before' R' s s 0
  leaves_keeps out = let k = ranked_keeps O' (best_stays (leave_waits (keeps_settled O K) (λ t r. (less t r).0) rest out)) in (k, stays_least some k)

  -- it ran on core z, which is idle in s₀
  module _ {s₀ : ℕ → ℕ} {z : ℕ} (l : z < n) (there : s z ≡ x) (ready : R x) (real : (t : ℕ) → R t → t ≢ e) (idle : s₀ z ≡ e) (off : (a : ℕ) → a ≢ z → s₀ a ≡ s a) where
    leaky : Leaky n e may rank R' s₀ z
    leaky = leave_leaky (keeps_settled O K) l (rw there (real x ready)) (rw there less) (rw there rest) idle off

    from : {s' : ℕ → ℕ} → Legal n e may R' s' → moved n e s s' ≡ moved n e s₀ s'
    from L = moved_left idle off (λ r. (less x (subst R' (r.sits ∙ there) (L.ready r.core r.below (rw r.sits r.real)))).1 refl)

    counted : {s' : ℕ → ℕ} {moves : ℕ} → Best n e may rank R' s₀ s' → moves ≡ moved n e s₀ s' → moves < n → Keeps n e may Before' R' s' × Least n e may Before' R' s s' moves
    counted {s'} B told below = (ranked_keeps O' B, record { fewest = fewest; told = told ∙ sym (from B.legal); below = below })
      where
        fewest : (s'' : ℕ → ℕ) → Keeps n e may Before' R' s'' → moved n e s s' ≤ moved n e s s''
        fewest s'' H =
            let a = from B.legal in
            let b = from H.legal in
            let c = B.fewest s'' H.legal (strong_ranked O' H.legal H.strong) in
            omega arith

    pub fills_keeps : {s' : ℕ → ℕ} {moves started : ℕ} → Fills n e may Before' R' s₀ z s' moves started → Keeps n e may Before' R' s' × Least n e may Before' R' s s' moves
    fills_keeps (inl h) =
        let B = filled_best O' leaky (λ t r. real t (less t r).0) h in
        let g = h.goes in
        let m = took_moved leaky.legal B.legal (real _ (less _ h.first.waits.ready).0) h.first.waits.off (takes_took g.chosen.chain g.takes) in
        let a = short g.chosen.chain in
        counted B (g.count ∙ sym m) (rw g.count a)
    fills_keeps {s'} (inr h) =
        let B = idle_stays O' leaky (λ t r. real t (less t r).0) h in
        rw (fun_ext h.stays.seats, h.stays.count) (counted B (sym (moved_none B.legal)) some)

-- ---- nobody who is ready changes

-- where masks and order agree on the ready tasks, so do chains from them
module _ {n e : ℕ} {may may' : ℕ → ℕ → Bool} {R : ℕ → Type 0} {s : ℕ → ℕ} (L : Legal n e may R s) (masks : (t c : ℕ) → R t → c < n → may' t c ≡ may t c) where
  links_agree : (c : ℕ) (p : List ℕ) → c < n → Links n e may' s c p → Links n e may s c p
  links_agree c [] l h = tt
  links_agree c (d ∷ p) l h = (h.0, (h.1.0, sym (masks (s c) d (L.ready c l h.0) h.1.0) ∙ h.1.1), links_agree d p h.1.0 h.2)

  reached_agree : {w c : ℕ} → R w → Reached n e may' s w c → Reached n e may s w c
  reached_agree {w} r h =
      let k = h.chain in
      let start : May n may w h.c = (k.start.0, sym (masks w h.c r k.start.0) ∙ k.start.1) in
      record { c = h.c; p = h.p; chain = record { start = start; links = links_agree h.c h.p k.start.0 k.links; distinct = k.distinct }; ends = h.ends }

pub keeps_agree : {n e : ℕ} {may may' : ℕ → ℕ → Bool} {Before Before' : ℕ → ℕ → Type 0} {R R' : ℕ → Type 0} {s : ℕ → ℕ} → ((t c : ℕ) → R t → c < n → may' t c ≡ may t c)
    → ((t u : ℕ) → R t → R u → Before' t u → Before t u) → ((t : ℕ) → R t → R' t) → ((t : ℕ) → R' t → R t)
    → Keeps n e may Before R s → Keeps n e may' Before' R' s
keeps_agree {n} {e} {may} {may'} {Before} {Before'} {R} {R'} {s} masks order to fro K = record {
  legal = record {
    ready = λ c l q. to (s c) (L.ready c l q);
    allowed = λ c l q. masks (s c) c (L.ready c l q) l ∙ L.allowed c l q;
    once = L.once;
  };
  strong = record {
    no_idle = λ w c u r. K.strong.no_idle w c (waited w u) (reached_agree L masks (fro w u.ready) r);
    none_after = λ w c u r b.
        let r' = reached_agree L masks (fro w u.ready) r in
        K.strong.none_after w c (waited w u) r' (order w (s c) (fro w u.ready) (L.ready c (reached_below r') (K.strong.no_idle w c (waited w u) r')) b);
  };
}
  where
    L : Legal n e may R s
    L = K.legal

    waited : (w : ℕ) → Waiting n e R' s w → Waiting n e R s w
    waited w u = record { ready = fro w u.ready; off = u.off }
