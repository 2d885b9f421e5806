-- The other way round: in a strong seating each waiting task is shut in, by the cores that it reaches.
use Prim.Native.Nat.{ℕ, zero, suc, ◌≤◌, ◌<◌}
use mathlib.Core.Path.{◌≡◌, refl, sym, subst}
use mathlib.Core.Logic.{◌⊎◌, inl, inr, ◌≢◌}
use mathlib.Core.Bool.{Bool, true, false, not, ◌&&◌, ◌||◌}
use mathlib.Core.List.{List, [], ◌∷◌, ◌++◌}
use native.Mathlib.Omega.{arith}
use lib.Dec.{eqb, ltb, ltb→lt, lt→ltb}
use Rattle.laws.proofs.Counting.{any_find, any_true, count_le, count_more, find, in_dec, last_in}
use Rattle.laws.proofs.Deciding.{cases, clash}
use Rattle.laws.proofs.Lists.{in_append}
use Rattle.laws.proofs.Testing.{T_true, and_both, both_and, eqb_eq, eqb_false, eqb_ne, eqb_true, not_false, not_true, or_cases, or_left, or_right, true_T}
use Rattle.laws.specs.Counting.{any_below, count}
use Rattle.laws.specs.Lists.{Distinct, In, last}
use Rattle.seating.proofs.Keep.{Cage, Settled}
use Rattle.seating.proofs.Same.{links_inside}
use Rattle.seating.proofs.Shut.{RankStrong, Shut}
use Rattle.seating.specs.Chain.{Links}
use Rattle.seating.specs.Reached.{Reached}
use Rattle.seating.specs.Running.{May, Waiting}
use Rattle.seating.specs.Strong.{Legal}

-- ---- a chain to a core, and one step more

module _ (n e : ℕ) (may : ℕ → ℕ → Bool) (s : ℕ → ℕ) where
  -- the part of a chain up to a core on it
  cut : (c : ℕ) (p : List ℕ) → Links n e may s c p → Distinct (c ∷ p) → (a : ℕ) → In a (c ∷ p)
      → (q : List ℕ) × Links n e may s c q × Distinct (c ∷ q) × (last c q ≡ a) × ((b : ℕ) → In b q → In b p)
  cut c [] l u a (inl i) = ([], tt, (λ j. j, tt), sym i, λ b j. absurd j)
  cut c [] l u a (inr i) = absurd i
  cut c (d ∷ p) l u a (inl i) = ([], tt, (λ j. j, tt), sym i, λ b j. absurd j)
  cut c (d ∷ p) l u a (inr i) = let r = cut d p l.2 u.1 a i in
      (d ∷ r.0, (l.0, l.1, r.1), (λ j. u.0 (under r j), r.2), r.3, λ b j. elim j [ inl q ↦ inl q | inr q ↦ inr (r.4 b q) ])
    where
      under : (r : (q : List ℕ) × Links n e may s d q × Distinct (d ∷ q) × (last d q ≡ a) × ((b : ℕ) → In b q → In b p)) → In c (d ∷ r.0) → In c (d ∷ p)
      under r (inl q) = inl q
      under r (inr q) = inr (r.4 c q)

  links_snoc : (c : ℕ) (p : List ℕ) (d : ℕ) → Links n e may s c p → s (last c p) ≢ e → May n may (s (last c p)) d → Links n e may s c (p ++ (d ∷ []))
  links_snoc c [] d l h m = (h, m, tt)
  links_snoc c (b ∷ p) d l h m = (l.0, l.1, links_snoc b p d l.2 h m)

pub in_snoc : (p : List ℕ) (d a : ℕ) → In a (p ++ (d ∷ [])) → In a p ⊎ (a ≡ d)
in_snoc p d a i = elim (in_append a p (d ∷ []) i) [ inl j ↦ inl j | inr j ↦ elim j [ inl e ↦ inr e | inr n ↦ absurd n ] ]

pub distinct_snoc : (p : List ℕ) (d : ℕ) → Distinct p → (In d p → ⊥) → Distinct (p ++ (d ∷ []))
distinct_snoc [] d u h = (λ i. i, tt)
distinct_snoc (b ∷ p) d u h = (λ i. go (in_snoc p d b i), distinct_snoc p d u.1 (λ i. h (inr i)))
  where
    go : In b p ⊎ (b ≡ d) → ⊥
    go (inl j) = u.0 j
    go (inr j) = h (inl (sym j))

last_snoc : (c : ℕ) (p : List ℕ) (d : ℕ) → last c (p ++ (d ∷ [])) ≡ d
last_snoc c [] d = refl
last_snoc c (b ∷ p) d = last_snoc b p d

module _ {n e : ℕ} {may : ℕ → ℕ → Bool} {s : ℕ → ℕ} {w : ℕ} where
  pub reach_start : {a : ℕ} → May n may w a → Reached n e may s w a
  reach_start {a} m = record { c = a; p = []; chain = record { start = m; links = tt; distinct = (λ i. i, tt) }; ends = refl }

  pub reach_step : {a d : ℕ} → Reached n e may s w a → s a ≢ e → May n may (s a) d → Reached n e may s w d
  reach_step {a} {d} r h m = go (in_dec d (r.c ∷ r.p))
    where
      go : In d (r.c ∷ r.p) ⊎ (In d (r.c ∷ r.p) → ⊥) → Reached n e may s w d
      go (inl i) = let k = cut n e may s r.c r.p r.chain.links r.chain.distinct d i in
          record { c = r.c; p = k.0; chain = record { start = r.chain.start; links = k.1; distinct = k.2 }; ends = k.3 }
      go (inr i) = record {
        c = r.c;
        p = r.p ++ (d ∷ []);
        chain = record {
          start = r.chain.start;
          links = links_snoc n e may s r.c r.p d r.chain.links (rw r.ends h) (rw r.ends m);
          distinct = distinct_snoc (r.c ∷ r.p) d r.chain.distinct i;
        };
        ends = last_snoc r.c r.p d;
      }

-- ---- the cores that w reaches, as a test

mayb : ℕ → (ℕ → ℕ → Bool) → ℕ → ℕ → Bool
mayb n may t c = ltb c n && may t c

mayb_may : (n : ℕ) (may : ℕ → ℕ → Bool) (t c : ℕ) → mayb n may t c ≡ true → May n may t c
unfolding mayb
mayb_may n may t c h = let k = and_both (ltb c n) (may t c) h in (ltb→lt c n (true_T (ltb c n) k.0), k.1)

may_mayb : (n : ℕ) (may : ℕ → ℕ → Bool) (t c : ℕ) → May n may t c → mayb n may t c ≡ true
unfolding mayb
may_mayb n may t c m = both_and (T_true (ltb c n) (lt→ltb c n m.0)) m.1

module _ (n e : ℕ) (may : ℕ → ℕ → Bool) (s : ℕ → ℕ) (w : ℕ) where
  step_to : (ℕ → Bool) → ℕ → ℕ → Bool
  step_to K c d = K d && (not (eqb (s d) e) && mayb n may (s d) c)

  -- by chains of at most k + 1 cores
  reach : ℕ → ℕ → Bool
  reach zero c = mayb n may w c
  reach (suc k) c = reach k c || any_below (step_to (reach k) c) n

  reach_below : (k c : ℕ) → reach k c ≡ true → c < n
  unfolding reach step_to
  reach_below zero c h = (mayb_may n may w c h).0
  reach_below (suc k) c h = go (or_cases h) (reach_below k c)
    where
      go : (reach k c ≡ true) ⊎ (any_below (step_to (reach k) c) n ≡ true) → (reach k c ≡ true → c < n) → c < n
      go (inl i) f = f i
      go (inr i) f = let r = any_find (step_to (reach k) c) n i in
          (mayb_may n may (s r.0) c (and_both (not (eqb (s r.0) e)) (mayb n may (s r.0) c) (and_both (reach k r.0) _ r.2).1).1).0

  reach_sound : (k c : ℕ) → reach k c ≡ true → Reached n e may s w c
  unfolding reach step_to
  reach_sound zero c h = reach_start (mayb_may n may w c h)
  reach_sound (suc k) c h = go (or_cases h) (reach_sound k)
    where
      go : (reach k c ≡ true) ⊎ (any_below (step_to (reach k) c) n ≡ true) → ((d : ℕ) → reach k d ≡ true → Reached n e may s w d) → Reached n e may s w c
      go (inl i) f = f c i
      go (inr i) f =
          let r = any_find (step_to (reach k) c) n i in
          let a = and_both (reach k r.0) (not (eqb (s r.0) e) && mayb n may (s r.0) c) r.2 in
          let b = and_both (not (eqb (s r.0) e)) (mayb n may (s r.0) c) a.1 in
          reach_step (f r.0 a.0) (eqb_ne (not_true b.0)) (mayb_may n may (s r.0) c b.1)

  reach_next : (k c d : ℕ) → reach k c ≡ true → s c ≢ e → May n may (s c) d → reach (suc k) d ≡ true
  unfolding reach step_to
  reach_next k c d h q m = or_right (reach k d) (any_true (step_to (reach k) d) n c (reach_below k c h)
      (both_and h (both_and (not_false (eqb_false q)) (may_mayb n may (s c) d m))))

  reach_zero : (k c : ℕ) → May n may w c → reach k c ≡ true
  unfolding reach
  reach_zero zero c m = may_mayb n may w c m
  reach_zero (suc k) c m = or_left (any_below (step_to (reach k) c) n) (reach_zero k c m)

  Stable : ℕ → Type 0
  Stable k = (c : ℕ) → reach (suc k) c ≡ true → reach k c ≡ true

  grows : (m : ℕ) → ((k : ℕ) × Stable k) ⊎ (m ≤ count (reach m) n)
  unfolding Stable
  grows zero = inr (omega arith)
  grows (suc m) = go (grows m) (find (λ c. reach (suc m) c && not (reach m c)) n)
    where
      calm : ((c : ℕ) → c < n → reach (suc m) c && not (reach m c) ≡ false) → Stable m
      calm f c h = at (cases (reach m c))
        where
          at : (reach m c ≡ true) ⊎ (reach m c ≡ false) → reach m c ≡ true
          at (inl i) = i
          at (inr i) = clash (both_and h (not_false i)) (f c (reach_below (suc m) c h))

      go : ((k : ℕ) × Stable k) ⊎ (m ≤ count (reach m) n)
          → ((c : ℕ) × (c < n) × (reach (suc m) c && not (reach m c) ≡ true)) ⊎ ((c : ℕ) → c < n → reach (suc m) c && not (reach m c) ≡ false)
          → ((k : ℕ) × Stable k) ⊎ (suc m ≤ count (reach (suc m)) n)
      go (inl r) f = inl r
      go (inr r) (inr f) = inl (m, calm f)
      go (inr r) (inl f) =
          let b = and_both (reach (suc m) f.0) (not (reach m f.0)) f.2 in
          let u = count_more (reach m) (reach (suc m)) n f.0 (unfold reach in λ a i. or_left (any_below (step_to (reach m) a) n) i) f.1 b.0 (not_true b.1) in
          inr (omega arith)

  stable : (k : ℕ) × Stable k
  stable = go (grows (suc n))
    where
      go : ((k : ℕ) × Stable k) ⊎ (suc n ≤ count (reach (suc n)) n) → (k : ℕ) × Stable k
      go (inl r) = r
      go (inr r) = let u = count_le (reach (suc n)) n in absurd (omega arith)

pub strong_shut : {n e : ℕ} {may : ℕ → ℕ → Bool} {rank : ℕ → ℕ} {R : ℕ → Type 0} {s : ℕ → ℕ} → RankStrong n e may rank R s
    → (w : ℕ) → Waiting n e R s w → Shut n e may rank s w
unfolding Stable
strong_shut {n} {e} {may} {rank} {R} {s} S w u = go (stable n e may s w)
  where
    go : (k : ℕ) × Stable n e may s w k → Shut n e may rank s w
    go (k, f) = record {
      K = reach n e may s w k;
      starts = reach_zero n e may s w k;
      full = full';
      before = λ c h. let r = reach_sound n e may s w k c h in subst (λ (z : ℕ). rank (s z) < rank w) r.ends (S.before w r.c r.p u r.chain);
      closed = λ c h d m. f d (reach_next n e may s w k c d h (full' c h) m);
    }
      where
        full' : (c : ℕ) → reach n e may s w k c ≡ true → s c ≢ e
        full' c h = let r = reach_sound n e may s w k c h in subst (λ (z : ℕ). s z ≢ e) r.ends (S.full w r.c r.p u r.chain)

pub strong_settled : {n e : ℕ} {may : ℕ → ℕ → Bool} {rank : ℕ → ℕ} {R : ℕ → Type 0} {s : ℕ → ℕ} → Legal n e may R s → RankStrong n e may rank R s → Settled n e may rank R s
strong_settled L S = record { legal = L; shut = strong_shut S }

-- In any seating w reaches an idle core, or the cores that it reaches are a cage.
pub reached : (n e : ℕ) (may : ℕ → ℕ → Bool) (s : ℕ → ℕ) (w : ℕ)
    → ((c : ℕ) × Reached n e may s w c × (s c ≡ e)) ⊎ ((G : Cage n e may s w) × ((c : ℕ) → G.K c ≡ true → Reached n e may s w c))
unfolding Stable
reached n e may s w = go (stable n e may s w)
  where
    go : (k : ℕ) × Stable n e may s w k
        → ((c : ℕ) × Reached n e may s w c × (s c ≡ e)) ⊎ ((G : Cage n e may s w) × ((c : ℕ) → G.K c ≡ true → Reached n e may s w c))
    go (k, f) = at (find (λ c. reach n e may s w k c && eqb (s c) e) n)
      where
        at : ((c : ℕ) × (c < n) × (reach n e may s w k c && eqb (s c) e ≡ true)) ⊎ ((c : ℕ) → c < n → reach n e may s w k c && eqb (s c) e ≡ false)
            → ((c : ℕ) × Reached n e may s w c × (s c ≡ e)) ⊎ ((G : Cage n e may s w) × ((c : ℕ) → G.K c ≡ true → Reached n e may s w c))
        at (inl (c, l, h)) = let b = and_both (reach n e may s w k c) (eqb (s c) e) h in inl (c, reach_sound n e may s w k c b.0, eqb_eq b.1)
        at (inr h) = inr (record { K = reach n e may s w k; starts = reach_zero n e may s w k; full = full'; closed = λ c i d m. f d (reach_next n e may s w k c d i (full' c i) m) }, reach_sound n e may s w k)
          where
            full' : (c : ℕ) → reach n e may s w k c ≡ true → s c ≢ e
            full' c i q = clash (both_and i (eqb_true q)) (h c (reach_below n e may s w k c i))

-- A chain never leaves a cage.
pub reach_inside : {n e : ℕ} {may : ℕ → ℕ → Bool} {s : ℕ → ℕ} {w c : ℕ} (G : Cage n e may s w) → Reached n e may s w c → G.K c ≡ true
reach_inside {n} {e} {may} {s} {w} {c} G r =
    subst (λ (z : ℕ). G.K z ≡ true) r.ends (links_inside n e may s G.K G.closed r.c r.p (G.starts r.c r.chain.start) r.chain.links (last r.c r.p) (last_in r.c r.p))
