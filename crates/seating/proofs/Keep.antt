-- A seating in which each waiting task is shut in, and what keeps it so: a task arrives, a task leaves, a core falls idle, goes and comes back.
use Prim.Native.Nat.{ℕ, ◌≤◌, ◌<◌}
use mathlib.Core.Path.{◌≡◌, refl, sym, ap, ◌∙◌, subst}
use mathlib.Core.Logic.{◌⊎◌, inl, inr, ◌≢◌}
use mathlib.Core.Bool.{Bool, true, false, ◌&&◌, ◌||◌}
use mathlib.Core.List.{List, [], ◌∷◌}
use native.Mathlib.Decide.{ℕ_discrete}
use native.Mathlib.Omega.{arith}
use Rattle.laws.proofs.Counting.{front, front_in, in_dec, last_in, last_not_front}
use Rattle.laws.proofs.Deciding.{cases, clash}
use Rattle.laws.proofs.Testing.{and_both, both_and, or_left, or_right}
use Rattle.laws.specs.Lists.{Distinct, In, last}
use Rattle.seating.proofs.Same.{from, links_inside, runs_dec, shut_strong}
use Rattle.seating.proofs.Shut.{RankStrong, Shut}
use Rattle.seating.proofs.Take.{Took, took_keeps, took_legal, took_runs}
use Rattle.seating.specs.Chain.{Links}
use Rattle.seating.specs.Running.{May, Running, Waiting}
use Rattle.seating.specs.Strong.{Legal}

-- the invariant
pub record Settled (n e : ℕ) (may : ℕ → ℕ → Bool) (rank : ℕ → ℕ) (R : ℕ → Type 0) (s : ℕ → ℕ) : Type 0 where
  pub legal : Legal n e may R s
  pub shut : (w : ℕ) → Waiting n e R s w → Shut n e may rank s w

pub settled_strong : {n e : ℕ} {may : ℕ → ℕ → Bool} {rank : ℕ → ℕ} {R : ℕ → Type 0} {s : ℕ → ℕ} → Settled n e may rank R s → RankStrong n e may rank R s
settled_strong h = shut_strong h.shut

-- R' is R and x
pub record Joins (R R' : ℕ → Type 0) (x : ℕ) : Type 0 where
  pub old : (t : ℕ) → R t → R' t
  pub new : R' x
  pub only : (t : ℕ) → R' t → R t ⊎ (t ≡ x)

-- The cores that w reaches, all held: what a search from w that meets no idle core finds.
pub record Cage (n e : ℕ) (may : ℕ → ℕ → Bool) (s : ℕ → ℕ) (w : ℕ) : Type 0 where
  pub K : ℕ → Bool
  pub starts : (c : ℕ) → May n may w c → K c ≡ true
  pub full : (c : ℕ) → K c ≡ true → s c ≢ e
  pub closed : (c : ℕ) → K c ≡ true → (d : ℕ) → May n may (s c) d → K d ≡ true

-- The cores that w reaches without a step from core z, all but z held, by tasks of rank below r.
pub record Pen (n e : ℕ) (may : ℕ → ℕ → Bool) (rank : ℕ → ℕ) (s : ℕ → ℕ) (z w r : ℕ) : Type 0 where
  pub K : ℕ → Bool
  pub starts : (c : ℕ) → May n may w c → K c ≡ true
  pub full : (c : ℕ) → K c ≡ true → c ≢ z → s c ≢ e
  pub before : (c : ℕ) → K c ≡ true → c ≢ z → rank (s c) < r
  pub closed : (c : ℕ) → K c ≡ true → c ≢ z → (d : ℕ) → May n may (s c) d → K d ≡ true

pub cage_shut : {n e : ℕ} {may : ℕ → ℕ → Bool} {rank : ℕ → ℕ} {s : ℕ → ℕ} {w : ℕ} (G : Cage n e may s w)
    → ((c : ℕ) → G.K c ≡ true → rank (s c) < rank w) → Shut n e may rank s w
cage_shut G h = record { K = G.K; starts = G.starts; full = G.full; before = h; closed = G.closed }

pub cage_pen : {n e : ℕ} {may : ℕ → ℕ → Bool} {rank : ℕ → ℕ} {s : ℕ → ℕ} {w : ℕ} (G : Cage n e may s w) (z r : ℕ)
    → ((c : ℕ) → G.K c ≡ true → c ≢ z → rank (s c) < r) → Pen n e may rank s z w r
cage_pen G z r h = record { K = G.K; starts = G.starts; full = λ c k q. G.full c k; before = h; closed = λ c k q. G.closed c k }

pub shut_pen : {n e : ℕ} {may : ℕ → ℕ → Bool} {rank : ℕ → ℕ} {s : ℕ → ℕ} {w : ℕ} → Shut n e may rank s w → (z : ℕ) → Pen n e may rank s z w (rank w)
shut_pen G z = record { K = G.K; starts = G.starts; full = λ c k q. G.full c k; before = λ c k q. G.before c k; closed = λ c k q. G.closed c k }

-- a search that does not meet the idle core z shuts w in
pub narrow : {n e : ℕ} {may : ℕ → ℕ → Bool} {rank : ℕ → ℕ} {s : ℕ → ℕ} {w z : ℕ} → s z ≡ e → Cage n e may s w → Pen n e may rank s z w (rank w) → Shut n e may rank s w
narrow {n} {e} {may} {rank} {s} {w} {z} idle G P = record {
  K = λ c. G.K c && P.K c;
  starts = λ c m. both_and (G.starts c m) (P.starts c m);
  full = λ c k. G.full c (and_both (G.K c) (P.K c) k).0;
  before = λ c k. P.before c (and_both (G.K c) (P.K c) k).1 (held c (and_both (G.K c) (P.K c) k).0);
  closed = λ c k d m. both_and (G.closed c (and_both (G.K c) (P.K c) k).0 d m) (P.closed c (and_both (G.K c) (P.K c) k).1 (held c (and_both (G.K c) (P.K c) k).0) d m);
}
  where
    held : (c : ℕ) → G.K c ≡ true → c ≢ z
    held c k q = G.full c k (ap s q ∙ idle)

-- ---- a chain and a set of cores

module _ (n e : ℕ) (may : ℕ → ℕ → Bool) (s : ℕ → ℕ) (K : ℕ → Bool) where
  -- a chain that ends outside a closed set has never been in it
  never_in : ((c : ℕ) → K c ≡ true → (d : ℕ) → May n may (s c) d → K d ≡ true) → (c : ℕ) (p : List ℕ) → Links n e may s c p
      → K (last c p) ≡ false → (a : ℕ) → In a (c ∷ p) → K a ≡ false
  never_in h c [] l o a (inl i) = rw i o
  never_in h c [] l o a (inr i) = absurd i
  never_in h c (d ∷ p) l o a (inr i) = never_in h d p l.2 o a i
  never_in h c (d ∷ p) l o a (inl i) = rw i (go (cases (K c)))
    where
      go : (K c ≡ true) ⊎ (K c ≡ false) → K c ≡ false
      go (inr k) = k
      go (inl k) = clash (links_inside n e may s K h d p (h c k d l.1) l.2 (last d p) (last_in d p)) o

  -- a chain from inside a set that is closed but for the chain's last core stays inside
  stays_in : (z : ℕ) → ((c : ℕ) → K c ≡ true → c ≢ z → (d : ℕ) → May n may (s c) d → K d ≡ true) → (c : ℕ) (p : List ℕ) → Links n e may s c p
      → Distinct (c ∷ p) → last c p ≡ z → K c ≡ true → (a : ℕ) → In a (c ∷ p) → K a ≡ true
  stays_in z h c [] l u q k a (inl i) = rw i k
  stays_in z h c [] l u q k a (inr i) = absurd i
  stays_in z h c (d ∷ p) l u q k a (inl i) = rw i k
  stays_in z h c (d ∷ p) l u q k a (inr i) =
      let other : c ≢ z = λ j. u.0 (subst (λ (y : ℕ). In y (d ∷ p)) (q ∙ sym j) (last_in d p)) in
      stays_in z h d p l.2 u.1 q (h c k other d l.1) a i

module _ {n e : ℕ} {may : ℕ → ℕ → Bool} {rank : ℕ → ℕ} {s s' : ℕ → ℕ} {x c : ℕ} {p : List ℕ} (k : Took n e may s s' x c p) where
  -- who is shut in by cores that the chain does not touch stays so
  shut_off : {w : ℕ} (S : Shut n e may rank s w) → S.K (last c p) ≡ false → Shut n e may rank s' w
  shut_off {w} S o = record {
    K = S.K;
    starts = S.starts;
    full = λ a i. rw (same a i) (S.full a i);
    before = λ a i. rw (same a i) (S.before a i);
    closed = λ a i. rw (same a i) (S.closed a i);
  }
    where
      same : (a : ℕ) → S.K a ≡ true → s' a ≡ s a
      same a i = k.off a (λ j. clash i (never_in n e may s S.K S.closed c p k.chain.links o a j))

  -- and so does everybody if the chain ends at an idle core
  shut_idle : {w : ℕ} → s (last c p) ≡ e → Shut n e may rank s w → Shut n e may rank s' w
  shut_idle idle S = shut_off S (go (cases (S.K (last c p))))
    where
      go : (S.K (last c p) ≡ true) ⊎ (S.K (last c p) ≡ false) → S.K (last c p) ≡ false
      go (inl i) = absurd (S.full (last c p) i idle)
      go (inr i) = i

  -- Within x's pen the chain leaves the tasks that were there, x, and not the last core's.
  module _ {r : ℕ} (G : Pen n e may rank s (last c p) x r) where
    in_pen : (a : ℕ) → In a (c ∷ p) → G.K a ≡ true
    in_pen = stays_in n e may s G.K (last c p) G.closed c p k.chain.links k.chain.distinct refl (G.starts c k.chain.start)

    pen_off : (a : ℕ) → G.K a ≡ false → s' a ≡ s a
    pen_off a i = k.off a (λ j. clash (in_pen a j) i)

    pen_task : (a : ℕ) → G.K a ≡ true → (s' a ≡ x) ⊎ ((b : ℕ) × (G.K b ≡ true) × (b ≢ last c p) × (s' a ≡ s b))
    pen_task a i = go (in_dec a (c ∷ p))
      where
        on : (a ≡ c) ⊎ ((b : ℕ) × In b (front c p) × (s b ≡ s' a)) → (s' a ≡ x) ⊎ ((b : ℕ) × (G.K b ≡ true) × (b ≢ last c p) × (s' a ≡ s b))
        on (inl j) = inl (ap s' j ∙ k.first)
        on (inr j) = inr (
          j.0,
          in_pen j.0 (front_in c p j.1),
          λ q. last_not_front c p k.chain.distinct (subst (λ (y : ℕ). In y (front c p)) q j.1),
          sym j.2,
        )

        go : In a (c ∷ p) ⊎ (In a (c ∷ p) → ⊥) → (s' a ≡ x) ⊎ ((b : ℕ) × (G.K b ≡ true) × (b ≢ last c p) × (s' a ≡ s b))
        go (inl j) = on (from n e s s' c p k.shifts a j)
        go (inr j) = inr (a, i, λ q. j (subst (λ (y : ℕ). In y (c ∷ p)) (sym q) (last_in c p)), k.off a j)

    module _ (real : x ≢ e) where
      pen_full : (a : ℕ) → G.K a ≡ true → s' a ≢ e
      pen_full a i = go (pen_task a i)
        where
          go : (s' a ≡ x) ⊎ ((b : ℕ) × (G.K b ≡ true) × (b ≢ last c p) × (s' a ≡ s b)) → s' a ≢ e
          go (inl q) = rw q real
          go (inr (b, g, o, q)) = rw q (G.full b g o)

      pen_closed : (a : ℕ) → G.K a ≡ true → (d : ℕ) → May n may (s' a) d → G.K d ≡ true
      pen_closed a i d = go (pen_task a i)
        where
          go : (s' a ≡ x) ⊎ ((b : ℕ) × (G.K b ≡ true) × (b ≢ last c p) × (s' a ≡ s b)) → May n may (s' a) d → G.K d ≡ true
          go (inl q) = rw q (G.starts d)
          go (inr (b, g, o, q)) = rw q (G.closed b g o d)

      pen_before : (m : ℕ) → rank x < m → r ≤ m → (a : ℕ) → G.K a ≡ true → rank (s' a) < m
      pen_before m l h a i = go (pen_task a i)
        where
          go : (s' a ≡ x) ⊎ ((b : ℕ) × (G.K b ≡ true) × (b ≢ last c p) × (s' a ≡ s b)) → rank (s' a) < m
          go (inl q) = rw q l
          go (inr (b, g, o, q)) = rw q (let u = G.before b g o in omega arith)

      -- the last core's task is shut in where the whole pen comes before it
      shut_last : ((d : ℕ) → May n may (s (last c p)) d → G.K d ≡ true) → rank x < rank (s (last c p)) → r ≤ rank (s (last c p))
          → Shut n e may rank s' (s (last c p))
      shut_last h l m = record { K = G.K; starts = h; full = pen_full; before = pen_before (rank (s (last c p))) l m; closed = pen_closed }

      -- a task whose own pen leaks at the last core is shut in by the two pens
      shut_union : {w : ℕ} → Pen n e may rank s (last c p) w (rank w) → rank x < rank w → r ≤ rank w → Shut n e may rank s' w
      shut_union {w} P l m = record {
        K = λ a. G.K a || P.K a;
        starts = λ a i. or_right (G.K a) (P.starts a i);
        full = λ a i. full' a i (cases (G.K a));
        before = λ a i. before' a i (cases (G.K a));
        closed = λ a i. closed' a i (cases (G.K a));
      }
        where
          other : (a : ℕ) → G.K a ≡ false → a ≢ last c p
          other a i q = clash (in_pen (last c p) (last_in c p)) (rw q at i)

          rest : (a : ℕ) → G.K a || P.K a ≡ true → G.K a ≡ false → P.K a ≡ true
          rest a i j = rw j at i

          full' : (a : ℕ) → G.K a || P.K a ≡ true → (G.K a ≡ true) ⊎ (G.K a ≡ false) → s' a ≢ e
          full' a i (inl j) = pen_full a j
          full' a i (inr j) = rw (pen_off a j) (P.full a (rest a i j) (other a j))

          before' : (a : ℕ) → G.K a || P.K a ≡ true → (G.K a ≡ true) ⊎ (G.K a ≡ false) → rank (s' a) < rank w
          before' a i (inl j) = pen_before (rank w) l m a j
          before' a i (inr j) = rw (pen_off a j) (P.before a (rest a i j) (other a j))

          closed' : (a : ℕ) → G.K a || P.K a ≡ true → (G.K a ≡ true) ⊎ (G.K a ≡ false) → (d : ℕ) → May n may (s' a) d → G.K d || P.K d ≡ true
          closed' a i (inl j) d u = or_left (P.K d) (pen_closed a j d u)
          closed' a i (inr j) d u = or_right (G.K d) (P.closed a (rest a i j) (other a j) d (rw (pen_off a j) at u))

-- ---- a task arrives

pub legal_more : {n e : ℕ} {may : ℕ → ℕ → Bool} {R R' : ℕ → Type 0} {s : ℕ → ℕ} → ((t : ℕ) → R t → R' t) → Legal n e may R s → Legal n e may R' s
legal_more {s = s} h L = record { ready = λ c l q. h (s c) (L.ready c l q); allowed = L.allowed; once = L.once }

pub settled_iff : {n e : ℕ} {may : ℕ → ℕ → Bool} {rank : ℕ → ℕ} {R R' : ℕ → Type 0} {s : ℕ → ℕ} → ((t : ℕ) → R t → R' t) → ((t : ℕ) → R' t → R t)
    → Settled n e may rank R s → Settled n e may rank R' s
settled_iff f g H = record { legal = legal_more f H.legal; shut = λ w u. H.shut w (record { ready = g w u.ready; off = u.off }) }

module _ {n e : ℕ} {may : ℕ → ℕ → Bool} {rank : ℕ → ℕ} {R R' : ℕ → Type 0} {s : ℕ → ℕ} {x : ℕ} (H : Settled n e may rank R s) (J : Joins R R' x) where
  -- It waits, if the tasks on all the cores that it reaches come before it.
  pub arrive_waits : Shut n e may rank s x → Settled n e may rank R' s
  arrive_waits S = record { legal = legal_more J.old H.legal; shut = λ w k. go w k (J.only w k.ready) }
    where
      go : (w : ℕ) → Waiting n e R' s w → R w ⊎ (w ≡ x) → Shut n e may rank s w
      go w k (inl r) = H.shut w (record { ready = r; off = k.off })
      go w k (inr q) = rw q S

  module _ {s' : ℕ → ℕ} {c : ℕ} {p : List ℕ} (real : x ≢ e) (out : Running n e s x → ⊥) (k : Took n e may s s' x c p) where
    legal' : Legal n e may R' s'
    legal' = took_legal (legal_more J.old H.legal) real J.new out k

    -- who waits now waited before, or had the last core
    waited : (w : ℕ) → Waiting n e R' s' w → Waiting n e R s w ⊎ ((w ≡ s (last c p)) × (w ≢ e))
    waited w u = go (J.only w u.ready) (runs_dec n e s w) (ℕ_discrete w (s (last c p)))
      where
        go : R w ⊎ (w ≡ x) → Running n e s w ⊎ (Running n e s w → ⊥) → Dec (w ≡ s (last c p)) → Waiting n e R s w ⊎ ((w ≡ s (last c p)) × (w ≢ e))
        go (inl r) (inr o) d = inl (record { ready = r; off = o })
        go (inl r) (inl o) (yes q) = inr (q, o.real)
        go (inl r) (inl o) (no q) = absurd (u.off (took_keeps H.legal real k w o q))
        go (inr q) f d = absurd (u.off (rw q (took_runs H.legal real k)))

    -- It takes a chain to an idle core.
    pub arrive_idle : s (last c p) ≡ e → Settled n e may rank R' s'
    arrive_idle idle = record { legal = legal'; shut = λ w u. go w (waited w u) }
      where
        go : (w : ℕ) → Waiting n e R s w ⊎ ((w ≡ s (last c p)) × (w ≢ e)) → Shut n e may rank s' w
        go w (inl u) = shut_idle k idle (H.shut w u)
        go w (inr q) = absurd (q.1 (q.0 ∙ idle))

    -- It reaches no idle core, and takes a chain to the latest of the tasks that it reaches, which it comes before.
    pub arrive_full : (G : Cage n e may s x) → ((a : ℕ) → G.K a ≡ true → a ≢ last c p → rank (s a) < rank (s (last c p)))
        → rank x < rank (s (last c p)) → Settled n e may rank R' s'
    unfolding cage_pen
    arrive_full G latest l = record { legal = legal'; shut = λ w u. go w (waited w u) }
      where
        P : Pen n e may rank s (last c p) x (rank (s (last c p)))
        P = cage_pen G (last c p) (rank (s (last c p))) latest

        at_last : G.K (last c p) ≡ true
        at_last = in_pen k P (last c p) (last_in c p)

        old : (w : ℕ) (S : Shut n e may rank s w) → (S.K (last c p) ≡ true) ⊎ (S.K (last c p) ≡ false) → Shut n e may rank s' w
        old w S (inr o) = shut_off k S o
        old w S (inl o) = let b = S.before (last c p) o in shut_union k P real (shut_pen S (last c p)) (omega arith) (omega arith)

        go : (w : ℕ) → Waiting n e R s w ⊎ ((w ≡ s (last c p)) × (w ≢ e)) → Shut n e may rank s' w
        go w (inl u) = let S = H.shut w u in old w S (cases (S.K (last c p)))
        go w (inr q) = rw q.0 (shut_last k P real (G.closed (last c p) at_last) l (omega arith))

-- ---- a core z is idle, and tasks that wait may reach it

-- h is the first of the waiting tasks that reach z: it takes a chain there. Each other waiting task is shut in (it does not reach z), or comes after h.
pub fill : {n e : ℕ} {may : ℕ → ℕ → Bool} {rank : ℕ → ℕ} {R : ℕ → Type 0} {s s' : ℕ → ℕ} {h c : ℕ} {p : List ℕ} → Legal n e may R s
    → h ≢ e → Waiting n e R s h → Took n e may s s' h c p → s (last c p) ≡ e → Pen n e may rank s (last c p) h (rank h)
    → ((w : ℕ) → Waiting n e R s w → w ≢ h → Shut n e may rank s w ⊎ ((rank h < rank w) × Pen n e may rank s (last c p) w (rank w)))
    → Settled n e may rank R s'
fill {n} {e} {may} {rank} {R} {s} {s'} {h} {c} {p} L real u k idle G f =
    record { legal = took_legal L real u.ready u.off k; shut = λ w v. go w (f w (waited w v) (other w v)) }
  where
    waited : (w : ℕ) → Waiting n e R s' w → Waiting n e R s w
    waited w v = record { ready = v.ready; off = λ o. v.off (took_keeps L real k w o (λ q. o.real (q ∙ idle))) }

    other : (w : ℕ) → Waiting n e R s' w → w ≢ h
    other w v q = v.off (rw q (took_runs L real k))

    go : (w : ℕ) → Shut n e may rank s w ⊎ ((rank h < rank w) × Pen n e may rank s (last c p) w (rank w)) → Shut n e may rank s' w
    go w (inl S) = shut_idle k idle S
    go w (inr (l, P)) = shut_union k G real P l (omega arith)

-- ---- what leads there, and what else happens

-- A waiting task leaves.
pub leave_waits : {n e : ℕ} {may : ℕ → ℕ → Bool} {rank : ℕ → ℕ} {R R' : ℕ → Type 0} {s : ℕ → ℕ} {x : ℕ} → Settled n e may rank R s
    → ((t : ℕ) → R' t → R t) → ((t : ℕ) → R t → t ≢ x → R' t) → (Running n e s x → ⊥) → Settled n e may rank R' s
leave_waits {n} {e} {may} {rank} {R} {R'} {s} {x} H less rest off = record {
  legal = record { ready = λ c l q. rest (s c) (H.legal.ready c l q) (λ j. off (record { real = rw j at q; core = c; below = l; sits = j })); allowed = H.legal.allowed; once = H.legal.once };
  shut = λ w k. H.shut w (record { ready = less w k.ready; off = k.off });
}

-- Core z's task leaves: z is idle, and each waiting task is penned in but for z.
module _ {n e : ℕ} {may : ℕ → ℕ → Bool} {rank : ℕ → ℕ} {R R' : ℕ → Type 0} {s s' : ℕ → ℕ} {z : ℕ} (H : Settled n e may rank R s) (l : z < n)
    (held : s z ≢ e) (less : (t : ℕ) → R' t → R t × (t ≢ s z)) (rest : (t : ℕ) → R t → t ≢ s z → R' t)
    (idle : s' z ≡ e) (off : (a : ℕ) → a ≢ z → s' a ≡ s a) where
  not_z : (a : ℕ) → s' a ≢ e → a ≢ z
  not_z a q j = q (ap s' j ∙ idle)

  pub leave_legal : Legal n e may R' s'
  leave_legal = record {
    ready = λ a m q. let d = not_z a q in let o = off a d in rw o (rest (s a) (H.legal.ready a m (rw o at q)) (λ j. d (sym (H.legal.once z a l m held (sym j)))));
    allowed = λ a m q. let o = off a (not_z a q) in rw o (H.legal.allowed a m (rw o at q));
    once = λ a b m m' q j. let o = off a (not_z a q) in let o' = off b (not_z b (λ y. q (j ∙ y))) in H.legal.once a b m m' (rw o at q) (cc);
  }

  pub leave_pen : (w : ℕ) → Waiting n e R' s' w → Pen n e may rank s' z w (rank w)
  leave_pen w u = record {
    K = S.K;
    starts = S.starts;
    full = λ a k d. rw (off a d) (S.full a k);
    before = λ a k d. rw (off a d) (S.before a k);
    closed = λ a k d. rw (off a d) (S.closed a k);
  }
    where
      S : Shut n e may rank s w
      S = H.shut w (record {
        ready = (less w u.ready).0;
        off = λ r. u.off (record { real = r.real; core = r.core; below = r.below; sits = off r.core (λ j. (less w u.ready).1 (sym r.sits ∙ ap s j)) ∙ r.sits });
      })
