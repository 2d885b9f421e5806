-- Two strong seatings of the same ready tasks run the same tasks.
use Prim.Native.Nat.{ℕ, zero, suc, ◌<◌}
use mathlib.Core.Path.{◌≡◌, refl, sym, ap, ◌∙◌, subst}
use mathlib.Core.Logic.{◌⊎◌, inl, inr, ◌≢◌}
use mathlib.Core.Bool.{Bool, true, false}
use mathlib.Core.List.{List, [], ◌∷◌}
use native.Mathlib.Nat.{not-suc-le-zero}
use native.Mathlib.Decide.{ℕ_discrete}
use native.Mathlib.Omega.{arith}
use lib.ListN.{length}
use lib.Dec.{eqb}
use Rattle.laws.proofs.Counting.{find, front, front_in, last_in, pigeonhole}
use Rattle.laws.proofs.Testing.{eqb_eq, eqb_ne}
use Rattle.laws.specs.Lists.{Distinct, In, last}
use Rattle.seating.proofs.Shut.{RankStrong, Shut}
use Rattle.seating.specs.Chain.{Chain, Links}
use Rattle.seating.specs.Running.{May, Running, Waiting}
use Rattle.seating.specs.Strong.{Legal}

-- ---- whether a task runs is decided by a search

pub runs_dec : (n e : ℕ) (s : ℕ → ℕ) (t : ℕ) → Running n e s t ⊎ (Running n e s t → ⊥)
runs_dec n e s t = go (ℕ_discrete t e) (find (λ c. eqb (s c) t) n)
  where
    go : Dec (t ≡ e) → ((c : ℕ) × (c < n) × (eqb (s c) t ≡ true)) ⊎ ((c : ℕ) → c < n → eqb (s c) t ≡ false) → Running n e s t ⊎ (Running n e s t → ⊥)
    go (yes k) f = inr λ r. r.real k
    go (no k) (inl f) = inl (record { real = k; core = f.0; below = f.1; sits = eqb_eq f.2 })
    go (no k) (inr f) = inr λ r. eqb_ne (f r.core r.below) r.sits

-- ---- a set of cores that no task on it can leave keeps a chain inside

module _ (n e : ℕ) (may : ℕ → ℕ → Bool) (s : ℕ → ℕ) where
  pub links_inside : (K : ℕ → Bool) → ((c : ℕ) → K c ≡ true → (d : ℕ) → May n may (s c) d → K d ≡ true)
      → (c : ℕ) (p : List ℕ) → K c ≡ true → Links n e may s c p → (a : ℕ) → In a (c ∷ p) → K a ≡ true
  links_inside K h c [] k w a (inl i) = rw i k
  links_inside K h c [] k w a (inr i) = absurd i
  links_inside K h c (d ∷ p) k w a (inl i) = rw i k
  links_inside K h c (d ∷ p) k w a (inr i) = links_inside K h d p (h c k d w.1) w.2 a i

-- if each waiting task is shut in, the seating is strong
pub shut_strong : {n e : ℕ} {may : ℕ → ℕ → Bool} {rank : ℕ → ℕ} {R : ℕ → Type 0} {s : ℕ → ℕ}
    → ((w : ℕ) → Waiting n e R s w → Shut n e may rank s w) → RankStrong n e may rank R s
shut_strong {n} {e} {may} {rank} {R} {s} h = record { full = λ w c p k q. (h w k).full (last c p) (inside w c p k q); before = λ w c p k q. (h w k).before (last c p) (inside w c p k q) }
  where
    inside : (w c : ℕ) (p : List ℕ) (k : Waiting n e R s w) → Chain n e may s w c p → (h w k).K (last c p) ≡ true
    inside w c p k q = links_inside n e may s (h w k).K (h w k).closed c p ((h w k).starts c q.start) q.links (last c p) (last_in c p)

-- ---- from a task that runs in s' and not in s, to the core that s' gives it, to the core that s' gives that core's task, and so on

-- each task on c ∷ p but the last sits in s' on the next core
abbrev pub Shifts : ℕ → ℕ → (ℕ → ℕ) → (ℕ → ℕ) → ℕ → List ℕ → Type 0
Shifts n e s s' c [] = Unit {0}
Shifts n e s s' c (d ∷ p) = (s c ≢ e) × (d < n) × (s' d ≡ s c) × Shifts n e s s' d p

module _ (n e : ℕ) (s s' : ℕ → ℕ) where
  pub shifts_below : (c : ℕ) (p : List ℕ) → c < n → Shifts n e s s' c p → (a : ℕ) → In a (c ∷ p) → a < n
  shifts_below c [] l h a (inl i) = rw i l
  shifts_below c [] l h a (inr i) = absurd i
  shifts_below c (d ∷ p) l h a (inl i) = rw i l
  shifts_below c (d ∷ p) l h a (inr i) = shifts_below d p h.1 h.3 a i

  -- a core of the chain is the first, or holds in s' the task that a core before it holds in s
  pub from : (c : ℕ) (p : List ℕ) → Shifts n e s s' c p → (a : ℕ) → In a (c ∷ p) → (a ≡ c) ⊎ ((b : ℕ) × In b (front c p) × (s b ≡ s' a))
  from c [] h a (inl i) = inl i
  from c [] h a (inr i) = absurd i
  from c (d ∷ p) h a (inl i) = inl i
  from c (d ∷ p) h a (inr i) = go (from d p h.3 a i)
    where
      go : (a ≡ d) ⊎ ((b : ℕ) × In b (front d p) × (s b ≡ s' a)) → (a ≡ c) ⊎ ((b : ℕ) × In b (front c (d ∷ p)) × (s b ≡ s' a))
      go (inl k) = inr (c, inl refl, rw k (sym h.2))
      go (inr k) = inr (k.0, inr k.1, k.2)

  -- the task of a core of the chain but the last sits in s' on a core of the chain
  pub to : (c : ℕ) (p : List ℕ) → Shifts n e s s' c p → (b : ℕ) → In b (front c p) → (s b ≢ e) × ((a : ℕ) × In a p × (a < n) × (s' a ≡ s b))
  to c [] h b i = absurd i
  to c (d ∷ p) h b (inl i) = rw i (h.0, (d, inl refl, h.1, h.2))
  to c (d ∷ p) h b (inr i) = let r = to d p h.3 b i in (r.0, (r.1.0, inr r.1.1, r.1.2, r.1.3))

  shifts_distinct : ((c d : ℕ) → c < n → d < n → s c ≢ e → s c ≡ s d → c ≡ d) → (c : ℕ) (p : List ℕ) → c < n → Shifts n e s s' c p
      → ((a : ℕ) → In a (c ∷ p) → s a ≢ s' c) → Distinct (c ∷ p)
  shifts_distinct once c [] l h k = (λ i. i, tt)
  shifts_distinct once c (d ∷ p) l h k = (fresh, shifts_distinct once d p h.1 h.3 next)
    where
      fresh : In c (d ∷ p) → ⊥
      fresh i = go (from d p h.3 c i)
        where
          go : (c ≡ d) ⊎ ((b : ℕ) × In b (front d p) × (s b ≡ s' c)) → ⊥
          go (inl q) = k c (inl refl) (sym h.2 ∙ ap s' (sym q))
          go (inr q) = k q.0 (inr (front_in d p q.1)) q.2

      next : (a : ℕ) → In a (d ∷ p) → s a ≢ s' d
      next a i q =
          let a_is_c : c ≡ a = once c a l (shifts_below d p h.1 h.3 a i) h.0 (sym h.2 ∙ sym q) in
          let P : ℕ → Type 0 = λ y. In y (d ∷ p) in
          fresh (subst P (sym a_is_c) i)

  -- k steps of the walk, or fewer where it ends
  follow : (k t : ℕ) → Running n e s' t
      → (c : ℕ) × (p : List ℕ) × (c < n) × (s' c ≡ t) × Shifts n e s s' c p × ((Running n e s' (s (last c p)) → ⊥) ⊎ (length p ≡ k))
  follow zero t r = (r.core, [], r.below, r.sits, tt, inr refl)
  follow (suc k) t r = go (runs_dec n e s' (s r.core)) (follow k)
    where
      go : Running n e s' (s r.core) ⊎ (Running n e s' (s r.core) → ⊥)
          → ((u : ℕ) → Running n e s' u → (c : ℕ) × (p : List ℕ) × (c < n) × (s' c ≡ u) × Shifts n e s s' c p × ((Running n e s' (s (last c p)) → ⊥) ⊎ (length p ≡ k)))
          → (c : ℕ) × (p : List ℕ) × (c < n) × (s' c ≡ t) × Shifts n e s s' c p × ((Running n e s' (s (last c p)) → ⊥) ⊎ (length p ≡ suc k))
      go (inr off) rest = (r.core, [], r.below, r.sits, tt, inl off)
      go (inl on) rest =
          let f = rest (s r.core) on in
          (r.core, f.0 ∷ f.1, r.below, r.sits, (on.real, f.2, f.3, f.4), longer f.0 f.1 f.5)
        where
          longer : (d : ℕ) (p : List ℕ) → (Running n e s' (s (last d p)) → ⊥) ⊎ (length p ≡ k) → (Running n e s' (s (last d p)) → ⊥) ⊎ (suc (length p) ≡ suc k)
          longer d p (inl q) = inl q
          longer d p (inr q) = inr (ap suc q)

shifts_links : {n e : ℕ} {may : ℕ → ℕ → Bool} {R : ℕ → Type 0} (s : ℕ → ℕ) {s' : ℕ → ℕ} → Legal n e may R s' → (c : ℕ) (p : List ℕ) → Shifts n e s s' c p → Links n e may s c p
shifts_links s L c [] h = tt
shifts_links {n} {e} {may} {R} s {s'} L c (d ∷ p) h =
    let a = L.allowed d h.1 (λ k. h.0 (sym h.2 ∙ k)) in
    (h.0, (h.1, rw h.2 at a), shifts_links s L d p h.3)

-- a chain in s from x that s' has taken: x sits in s' on c, each task on c ∷ p but the last on the next core, and the last core's task on none
pub record Walk (n e : ℕ) (may : ℕ → ℕ → Bool) (s s' : ℕ → ℕ) (x : ℕ) : Type 0 where
  pub c : ℕ
  pub p : List ℕ
  pub chain : Chain n e may s x c p
  pub first : s' c ≡ x
  pub shifts : Shifts n e s s' c p
  pub out : Running n e s' (s (last c p)) → ⊥

pub walk : {n e : ℕ} {may : ℕ → ℕ → Bool} {R R' : ℕ → Type 0} {s s' : ℕ → ℕ} → Legal n e may R s → Legal n e may R' s'
    → (x : ℕ) → Running n e s' x → (Running n e s x → ⊥) → Walk n e may s s' x
walk {n} {e} {may} {R} {R'} {s} {s'} L L' x r off = go (follow n e s s' n x r)
  where
    go : (c : ℕ) × (p : List ℕ) × (c < n) × (s' c ≡ x) × Shifts n e s s' c p × ((Running n e s' (s (last c p)) → ⊥) ⊎ (length p ≡ n)) → Walk n e may s s' x
    go f = record {
      c = f.0;
      p = f.1;
      chain = record { start = (f.2, rw f.3 at (L'.allowed f.0 f.2 (λ k. r.real (sym f.3 ∙ k)))); links = shifts_links s L' f.0 f.1 f.4; distinct = different };
      first = f.3;
      shifts = f.4;
      out = ends f.5;
    }
      where
        different : Distinct (f.0 ∷ f.1)
        different = shifts_distinct n e s s' L.once f.0 f.1 f.2 f.4 (λ a i q. off (record { real = r.real; core = a; below = shifts_below n e s s' f.0 f.1 f.2 f.4 a i; sits = q ∙ f.3 }))

        ends : (Running n e s' (s (last f.0 f.1)) → ⊥) ⊎ (length f.1 ≡ n) → Running n e s' (s (last f.0 f.1)) → ⊥
        ends (inl q) = q
        ends (inr q) = λ u. let z = pigeonhole (f.0 ∷ f.1) n different (shifts_below n e s s' f.0 f.1 f.2 f.4) in omega arith

-- ---- no task runs in one of two strong seatings and waits in the other

pub runs_ready : {n e : ℕ} {may : ℕ → ℕ → Bool} {R : ℕ → Type 0} {s : ℕ → ℕ} {x : ℕ} → Legal n e may R s → Running n e s x → R x
runs_ready {R = R} L r = subst R r.sits (L.ready r.core r.below (λ k. r.real (sym r.sits ∙ k)))

-- no task below rank k runs in one of two strong seatings and waits in the other
descent : {n e : ℕ} {may : ℕ → ℕ → Bool} {rank : ℕ → ℕ} {R : ℕ → Type 0} (k : ℕ) (s s' : ℕ → ℕ) → Legal n e may R s → RankStrong n e may rank R s
    → Legal n e may R s' → RankStrong n e may rank R s' → (x : ℕ) → rank x < k → Running n e s' x → (Running n e s x → ⊥) → ⊥
descent zero s s' L S L' S' x l r off = not-suc-le-zero l
descent {n} {e} {may} {rank} {R} (suc k) s s' L S L' S' x l r off =
    let t = walk L L' x r off in
    let rx : R x = runs_ready L' r in
    let w : Waiting n e R s x = record { ready = rx; off = off } in
    let z = last t.c t.p in
    let b = S.before x t.c t.p w t.chain in
    let y : Running n e s (s z) = record { real = S.full x t.c t.p w t.chain; core = z; below = shifts_below n e s s' t.c t.p t.chain.start.0 t.shifts z (last_in t.c t.p); sits = refl } in
    descent k s' s L' S' L S (s z) (omega arith) y t.out

pub same : {n e : ℕ} {may : ℕ → ℕ → Bool} {rank : ℕ → ℕ} {R : ℕ → Type 0} {s s' : ℕ → ℕ} → Legal n e may R s → RankStrong n e may rank R s
    → Legal n e may R s' → RankStrong n e may rank R s' → (x : ℕ) → Running n e s' x → Running n e s x
same {n} {e} {may} {rank} {R} {s} {s'} L S L' S' x r = go (runs_dec n e s x)
  where
    go : Running n e s x ⊎ (Running n e s x → ⊥) → Running n e s x
    go (inl q) = q
    go (inr q) = absurd (descent (suc (rank x)) s s' L S L' S' x (omega arith) r q)
