-- How the chosen chain is found. N k c: the target is reached from core c in at most k further steps. With the least k for which x may use a core that is so near,
-- the chain goes to the smallest such core, from there to the smallest core that is near by one step less, and so on.
use Prim.Native.Nat.{ℕ, zero, suc, ◌+◌, ◌-◌, ◌≤◌, ◌<◌}
use mathlib.Core.Path.{◌≡◌, refl, sym, ap, ap₂, ◌∙◌, subst}
use mathlib.Core.Logic.{◌⊎◌, inl, inr, ◌≢◌}
use mathlib.Core.Bool.{Bool, true, false, ◌&&◌, ◌||◌, cond}
use mathlib.Core.List.{List, [], ◌∷◌}
use native.Mathlib.Omega.{arith}
use native.Mathlib.Decide.{ℕ_discrete}
use lib.ListN.{length}
use lib.Dec.{ltb, leb}
use borrow.Author.Tests.{ltb-true, ltb-false, lt-ltb, leb-true, leb-false, le-leb, lt-leb}
use Rattle.laws.proofs.Counting.{pigeonhole}
use Rattle.laws.proofs.Deciding.{cases, clash}
use Rattle.laws.proofs.Testing.{and_both, both_and, or_cases, or_left, or_right}
use Rattle.laws.specs.Lists.{Distinct, In, last}
use Rattle.seating.proofs.Rows.{first, first_ext, first_hit, first_holds, first_none}
use Rattle.seating.proofs.Take.{chain_below}
use Rattle.seating.specs.Chain.{Chain, Links}
use Rattle.seating.specs.Chosen.{Chosen, NotAfter, Unreached}

-- the smallest core below n in both sets, and n where there is none
abbrev pub lowest : ℕ → (ℕ → Bool) → (ℕ → Bool) → ℕ
lowest n A K = first (λ d. A d && K d) 0 n

-- G c d: one step leads from core c to core d
abbrev pub Steps : ℕ → (ℕ → ℕ → Bool) → ℕ → List ℕ → Type 0
Steps n G c [] = Unit {0}
Steps n G c (d ∷ p) = (d < n) × (G c d ≡ true) × Steps n G d p

-- N is right for at most j steps
pub record Levels (n : ℕ) (G : ℕ → ℕ → Bool) (T : ℕ → Bool) (N : ℕ → ℕ → Bool) (j : ℕ) : Type 0 where
  pub start : (c : ℕ) → c < n → N 0 c ≡ T c
  pub next : (k c : ℕ) → k < j → c < n → N (suc k) c ≡ (N k c || ltb (lowest n (G c) (N k)) n)

-- no core of S is near by fewer than j steps
abbrev pub Missed : ℕ → (ℕ → Bool) → (ℕ → ℕ → Bool) → ℕ → Type 0
Missed n S N j = (i c : ℕ) → i < j → c < n → S c ≡ true → N i c ≡ true → ⊥

abbrev pub walk : ℕ → (ℕ → ℕ → Bool) → (ℕ → ℕ → Bool) → ℕ → ℕ → List ℕ
walk n G N zero c = []
walk n G N (suc k) c = let d = lowest n (G c) (N k) in d ∷ walk n G N k d

-- not near by one step less
abbrev pub Exact : (ℕ → ℕ → Bool) → ℕ → ℕ → Type 0
Exact N zero c = Unit {0}
Exact N (suc k) c = N k c ≡ false

pub lowest_in : (n : ℕ) (A K : ℕ → Bool) → lowest n A K < n → (A (lowest n A K) ≡ true) × (K (lowest n A K) ≡ true)
lowest_in n A K l = and_both (A (lowest n A K)) (K (lowest n A K)) (first_holds (λ d. A d && K d) n l)

pub lowest_le : (n : ℕ) (A K : ℕ → Bool) (d : ℕ) → d < n → A d ≡ true → K d ≡ true → lowest n A K ≤ d
lowest_le n A K d l a k = first_hit (λ d. A d && K d) n d l (both_and a k)

pub missed_exact : (n : ℕ) (S : ℕ → Bool) (N : ℕ → ℕ → Bool) (j : ℕ) → Missed n S N j → (c : ℕ) → c < n → S c ≡ true → Exact N j c
missed_exact n S N zero M c l s = tt
missed_exact n S N (suc i) M c l s = go (cases (N i c))
  where
    go : (N i c ≡ true) ⊎ (N i c ≡ false) → N i c ≡ false
    go (inl t) = absurd (M i c (omega arith) l s t)
    go (inr f) = f

-- none is by j steps either
pub missed_next : (n : ℕ) (S : ℕ → Bool) (N : ℕ → ℕ → Bool) (j : ℕ) → Missed n S N j → n ≤ lowest n S (N j) → Missed n S N (j + 1)
missed_next n S N j M l i c m b s h = go (cases (ltb i j))
  where
    go : (ltb i j ≡ true) ⊎ (ltb i j ≡ false) → ⊥
    go (inl u) = M i c (ltb-true i j u) b s h
    go (inr u) =
        let w = ltb-false i j u in
        let q : i ≡ j = omega arith in
        clash (both_and s (rw q at h)) (first_none (λ d. S d && N j d) n c l b)

pub record Walked (n : ℕ) (G : ℕ → ℕ → Bool) (T : ℕ → Bool) (N : ℕ → ℕ → Bool) (k c : ℕ) (p : List ℕ) : Type 0 where
  pub steps : Steps n G c p
  pub hits : T (last c p) ≡ true
  pub long : length p ≡ k
  pub distinct : Distinct (c ∷ p)
  pub inside : (a : ℕ) → In a (c ∷ p) → (a < n) × (N k a ≡ true)

module _ {n : ℕ} {G : ℕ → ℕ → Bool} {T : ℕ → Bool} {N : ℕ → ℕ → Bool} {j : ℕ} (L : Levels n G T N j) where
  up : (k c : ℕ) → k < j → c < n → N k c ≡ true → N (suc k) c ≡ true
  up k c l m h = L.next k c l m ∙ or_left (ltb (lowest n (G c) (N k)) n) h

  pub from_next : (k c d : ℕ) → k < j → c < n → d < n → G c d ≡ true → N k d ≡ true → N (suc k) c ≡ true
  from_next k c d l m b g h = L.next k c l m ∙ or_right (N k c) (lt-ltb (lowest n (G c) (N k)) n (let u = lowest_le n (G c) (N k) d b g h in omega arith))

  -- where a path of k steps ends in the target, its start is near by k
  path_near : (c : ℕ) (q : List ℕ) → c < n → length q ≤ j → Steps n G c q → T (last c q) ≡ true → N (length q) c ≡ true
  path_near c [] m l w h = L.start c m ∙ h
  path_near c (d ∷ q) m l w h = from_next (length q) c d (omega arith) m w.0 w.1 (path_near d q w.0 (omega arith) w.2 h)

  pub next_facts : (k c : ℕ) → k < j → c < n → N (suc k) c ≡ true → N k c ≡ false
      → (lowest n (G c) (N k) < n) × (G c (lowest n (G c) (N k)) ≡ true) × (N k (lowest n (G c) (N k)) ≡ true) × Exact N k (lowest n (G c) (N k))
  next_facts k c l m h x = (below, (lowest_in n (G c) (N k) below).0, (lowest_in n (G c) (N k) below).1, exact k refl)
    where
      below : lowest n (G c) (N k) < n
      below = go (or_cases (sym (L.next k c l m) ∙ h))
        where
          go : (N k c ≡ true) ⊎ (ltb (lowest n (G c) (N k)) n ≡ true) → lowest n (G c) (N k) < n
          go (inl i) = clash i x
          go (inr i) = ltb-true (lowest n (G c) (N k)) n i

      exact : (i : ℕ) → i ≡ k → Exact N i (lowest n (G c) (N k))
      exact zero e = tt
      exact (suc i) e = go (cases (N i (lowest n (G c) (N k))))
        where
          go : (N i (lowest n (G c) (N k)) ≡ true) ⊎ (N i (lowest n (G c) (N k)) ≡ false) → N i (lowest n (G c) (N k)) ≡ false
          go (inl t) = clash (from_next i c (lowest n (G c) (N k)) (omega arith) m below (lowest_in n (G c) (N k) below).0 t) (rw e x)
          go (inr f) = f

  pub walk_good : (k c : ℕ) → k ≤ j → c < n → N k c ≡ true → Exact N k c → Walked n G T N k c (walk n G N k c)
  walk_good zero c l m h x = record {
    steps = tt;
    hits = sym (L.start c m) ∙ h;
    long = refl;
    distinct = (λ i. i, tt);
    inside = λ a i. elim i [ inl q ↦ rw q (m, h) | inr q ↦ absurd q ];
  }
  walk_good (suc k) c l m h x =
      let f = next_facts k c l m h x in
      let W = walk_good k (lowest n (G c) (N k)) (omega arith) f.0 f.2 f.3 in
      record {
        steps = (f.0, f.1, W.steps);
        hits = W.hits;
        long = ap suc W.long;
        distinct = (λ i. clash (W.inside c i).1 x, W.distinct);
        inside = λ a i. elim i [ inl q ↦ rw q (m, h) | inr q ↦ ((W.inside a q).0, up k a l (W.inside a q).0 (W.inside a q).1) ];
      }

  walk_least : (k c : ℕ) (q : List ℕ) → k ≤ j → c < n → N k c ≡ true → Exact N k c → Steps n G c q → T (last c q) ≡ true → length q ≡ k → NotAfter (walk n G N k c) q
  walk_least zero c q l m h x w t e = tt
  walk_least (suc k) c [] l m h x w t e = absurd (omega arith)
  walk_least (suc k) c (d ∷ q) l m h x w t e =
      let f = next_facts k c l m h x in
      let e' : length q ≡ k = omega arith in
      let near : N k d ≡ true = subst (λ (i : ℕ). N i d ≡ true) e' (path_near d q w.0 (omega arith) w.2 t) in
      go (lowest n (G c) (N k)) (lowest_le n (G c) (N k) d w.0 w.1 near) (λ r. walk_least k (lowest n (G c) (N k)) q (omega arith) f.0 f.2 f.3 (rw r w.2) (rw r t) e') (ℕ_discrete (lowest n (G c) (N k)) d)
    where
      go : (b : ℕ) → b ≤ d → (b ≡ d → NotAfter (walk n G N k b) q) → Dec (b ≡ d) → NotAfter (b ∷ walk n G N k b) (d ∷ q)
      go b u r (yes i) = inr (i, r i)
      go b u r (no i) = inl (omega arith)

-- N is determined
pub levels_same : {n : ℕ} {G : ℕ → ℕ → Bool} {T : ℕ → Bool} {N N' : ℕ → ℕ → Bool} {j : ℕ} → Levels n G T N j → Levels n G T N' j → (k c : ℕ) → k ≤ j → c < n → N k c ≡ N' k c
levels_same L L' zero c l m = L.start c m ∙ sym (L'.start c m)
levels_same {n} {G} {T} {N} {N'} L L' (suc k) c l m =
    L.next k c l m
    ∙ ap₂ (λ (a : Bool) (b : ℕ). a || ltb b n) (levels_same L L' k c (omega arith) m)
    (first_ext (λ d. G c d && N k d) (λ d. G c d && N' k d) 0 n (λ d b. ap (λ (t : Bool). G c d && t) (levels_same L L' k d (omega arith) (omega arith))))
    ∙ sym (L'.next k c l m)

-- ---- in the words of seatings

-- G is the step from a held core to a core that its task may use
pub record Graph (n e : ℕ) (may : ℕ → ℕ → Bool) (s : ℕ → ℕ) (G : ℕ → ℕ → Bool) : Type 0 where
  pub held : (c d : ℕ) → c < n → d < n → G c d ≡ true → s c ≢ e
  pub used : (c d : ℕ) → c < n → d < n → G c d ≡ true → may (s c) d ≡ true
  pub back : (c d : ℕ) → c < n → d < n → s c ≢ e → may (s c) d ≡ true → G c d ≡ true

module _ {n e : ℕ} {may : ℕ → ℕ → Bool} {s : ℕ → ℕ} {G : ℕ → ℕ → Bool} (H : Graph n e may s G) where
  pub steps_links : (c : ℕ) (p : List ℕ) → c < n → Steps n G c p → Links n e may s c p
  steps_links c [] l w = tt
  steps_links c (d ∷ p) l w = (H.held c d l w.0 w.1, (w.0, H.used c d l w.0 w.1), steps_links d p w.0 w.2)

  links_steps : (c : ℕ) (p : List ℕ) → c < n → Links n e may s c p → Steps n G c p
  links_steps c [] l w = tt
  links_steps c (d ∷ p) l w = (w.1.0, H.back c d l w.1.0 w.0 w.1.1, links_steps d p w.1.0 w.2)

  module _ {T : ℕ → Bool} {N : ℕ → ℕ → Bool} {j x : ℕ} (L : Levels n G T N j) where
    chain_near : {c : ℕ} {p : List ℕ} → Chain n e may s x c p → T (last c p) ≡ true → length p ≤ j → N (length p) c ≡ true
    chain_near {c} {p} h t l = path_near L c p h.start.0 l (links_steps c p h.start.0 h.links) t

    -- the first core of S that is near by j steps, where none is by fewer, begins the chosen chain
    pub levels_chosen : Missed n (may x) N j → lowest n (may x) (N j) < n → Chosen n e may s x T (lowest n (may x) (N j)) (walk n G N j (lowest n (may x) (N j)))
    levels_chosen M l = record {
      chain = record { start = (l, s₀.0); links = steps_links c (walk n G N j c) l W.steps; distinct = W.distinct };
      hits = W.hits;
      best = λ d q h t. by d q h t (cases (ltb (length q) j)) (cases (ltb j (length q)));
    }
      where
        c : ℕ
        c = lowest n (may x) (N j)

        s₀ : (may x c ≡ true) × (N j c ≡ true)
        s₀ = lowest_in n (may x) (N j) l

        exact : Exact N j c
        exact = missed_exact n (may x) N j M c l s₀.0

        W : Walked n G T N j c (walk n G N j c)
        W = walk_good L j c (omega arith) l s₀.1 exact

        by : (d : ℕ) (q : List ℕ) → Chain n e may s x d q → T (last d q) ≡ true → (ltb (length q) j ≡ true) ⊎ (ltb (length q) j ≡ false) → (ltb j (length q) ≡ true) ⊎ (ltb j (length q) ≡ false)
            → (length (walk n G N j c) < length q) ⊎ ((length (walk n G N j c) ≡ length q) × NotAfter (c ∷ walk n G N j c) (d ∷ q))
        by d q h t (inl i) k = let u = ltb-true (length q) j i in absurd (M (length q) d u h.start.0 h.start.1 (chain_near h t (omega arith)))
        by d q h t (inr i) (inl k) = let u = ltb-true j (length q) k in inl (omega (arith, W.long))
        by d q h t (inr i) (inr k) = inr (omega (arith, W.long, same), go c (lowest_le n (may x) (N j) d h.start.0 h.start.1 near) (λ r. least r) (ℕ_discrete c d))
          where
            same : length q ≡ j
            same = let u = ltb-false (length q) j i in let v = ltb-false j (length q) k in omega arith

            near : N j d ≡ true
            near = subst (λ (i : ℕ). N i d ≡ true) same (chain_near h t (omega (arith, same)))

            least : c ≡ d → NotAfter (walk n G N j c) q
            least r = walk_least L j c q (omega arith) l s₀.1 exact (rw r (links_steps d q h.start.0 h.links)) (rw r t) same

            go : (b : ℕ) → b ≤ d → (b ≡ d → NotAfter (walk n G N j b) q) → Dec (b ≡ d) → NotAfter (b ∷ walk n G N j b) (d ∷ q)
            go b u r (yes i) = inr (i, r i)
            go b u r (no i) = inl (omega arith)

    -- after n rounds in vain there is none
    pub levels_none : n ≤ j → Missed n (may x) N j → Unreached n e may s x T
    levels_none b M = record { none = none' }
      where
        none' : (d : ℕ) (q : List ℕ) → Chain n e may s x d q → T (last d q) ≡ true → ⊥
        none' d q h t =
            let u : suc (length q) ≤ n = pigeonhole (d ∷ q) n h.distinct (chain_below h) in
            M (length q) d (omega arith) h.start.0 h.start.1 (chain_near h t (omega arith))

-- ---- marks: a number for each core, its distance to the target so far as it is found, and far for any other

-- one more round: each core with no mark, from which one step leads to a mark of at most k, gets k + 1
unfoldable pub turn : ℕ → (ℕ → ℕ → Bool) → (ℕ → ℕ) → ℕ → ℕ → ℕ
turn n G D k c = cond (leb (D c) k) (D c) (cond (ltb (lowest n (G c) (λ d. leb (D d) k)) n) (k + 1) (D c))

pub record Marked (far n : ℕ) (G : ℕ → ℕ → Bool) (T : ℕ → Bool) (D : ℕ → ℕ) (k : ℕ) : Type 0 where
  pub levels : Levels n G T (λ i c. leb (D c) i) k
  pub rest : (c : ℕ) → c < n → k < D c → D c ≡ far

pub marked_start : {far n : ℕ} {G : ℕ → ℕ → Bool} {T : ℕ → Bool} {D : ℕ → ℕ} → 0 < far → ((c : ℕ) → c < n → D c ≡ cond (T c) 0 far) → Marked far n G T D 0
marked_start {far} {n} {G} {T} {D} p h = record {
  levels = record { start = λ c l. rw (h c l) (at (T c)); next = λ k c l m. absurd (omega arith) };
  rest = λ c l m. rest' (T c) (D c) (h c l) m;
}
  where
    at : (b : Bool) → leb (cond b 0 far) 0 ≡ b
    at true = refl
    at false = lt-leb far 0 p

    rest' : (b : Bool) (d : ℕ) → d ≡ cond b 0 far → 0 < d → d ≡ far
    rest' true d e l = absurd (omega arith)
    rest' false d e l = e

module _ {far n : ℕ} {G : ℕ → ℕ → Bool} {T : ℕ → Bool} {D D' : ℕ → ℕ} {k : ℕ} (room : k + 1 < far) (M : Marked far n G T D k) (h : (c : ℕ) → c < n → D' c ≡ turn n G D k c) where
  -- what a mark is after the round: what it was, or k + 1 where there was none
  turned : (c : ℕ) → c < n → (D' c ≡ D c) ⊎ ((D' c ≡ k + 1) × (D c ≡ far))
  unfolding turn
  turned c l = go (cases (leb (D c) k)) (cases (ltb (lowest n (G c) (λ d. leb (D d) k)) n))
    where
      go : (leb (D c) k ≡ true) ⊎ (leb (D c) k ≡ false) → (ltb (lowest n (G c) (λ d. leb (D d) k)) n ≡ true) ⊎ (ltb (lowest n (G c) (λ d. leb (D d) k)) n ≡ false)
          → (D' c ≡ D c) ⊎ ((D' c ≡ k + 1) × (D c ≡ far))
      go (inl a) b = inl (h c l ∙ rw a)
      go (inr a) (inl b) = inr (h c l ∙ rw (a, b), M.rest c l (leb-false (D c) k a))
      go (inr a) (inr b) = inl (h c l ∙ rw (a, b))

  -- up to k the marks say what they said
  pub turn_kept : (i c : ℕ) → i ≤ k → c < n → leb (D' c) i ≡ leb (D c) i
  turn_kept i c m l = go (turned c l)
    where
      go : (D' c ≡ D c) ⊎ ((D' c ≡ k + 1) × (D c ≡ far)) → leb (D' c) i ≡ leb (D c) i
      go (inl a) = rw a
      go (inr a) = let u = a.0 in let v = a.1 in lt-leb (D' c) i (omega arith) ∙ sym (lt-leb (D c) i (omega arith))

  pub turn_marked : Marked far n G T D' (k + 1)
  unfolding turn
  turn_marked = record {
    levels = record { start = λ c l. turn_kept 0 c (omega arith) l ∙ M.levels.start c l; next = λ i c m l. at i c l (cases (ltb i k)) m };
    rest = λ c l m. rest' c m (turned c l) (λ u. M.rest c l u);
  }
    where
      rest' : (c : ℕ) → k + 1 < D' c → (D' c ≡ D c) ⊎ ((D' c ≡ k + 1) × (D c ≡ far)) → (k < D c → D c ≡ far) → D' c ≡ far
      rest' c m (inl a) f = a ∙ f (omega arith)
      rest' c m (inr a) f = let u = a.0 in absurd (omega arith)

      low : (i c : ℕ) → i ≤ k → lowest n (G c) (λ d. leb (D' d) i) ≡ lowest n (G c) (λ d. leb (D d) i)
      low i c m = first_ext (λ d. G c d && leb (D' d) i) (λ d. G c d && leb (D d) i) 0 n (λ d l. ap (λ (b : Bool). G c d && b) (turn_kept i d m (omega arith)))

      top : (c : ℕ) → c < n → leb (D' c) (k + 1) ≡ (leb (D c) k || ltb (lowest n (G c) (λ d. leb (D d) k)) n)
      top c l = go (cases (leb (D c) k)) (cases (ltb (lowest n (G c) (λ d. leb (D d) k)) n))
        where
          go : (leb (D c) k ≡ true) ⊎ (leb (D c) k ≡ false) → (ltb (lowest n (G c) (λ d. leb (D d) k)) n ≡ true) ⊎ (ltb (lowest n (G c) (λ d. leb (D d) k)) n ≡ false)
              → leb (D' c) (k + 1) ≡ (leb (D c) k || ltb (lowest n (G c) (λ d. leb (D d) k)) n)
          go (inl a) b = let e : D' c ≡ D c = h c l ∙ rw a in let u = leb-true (D c) k a in rw (e, a) (le-leb (D c) (k + 1) (omega arith))
          go (inr a) (inl b) = let e : D' c ≡ k + 1 = h c l ∙ rw (a, b) in rw (e, a, b) (le-leb (k + 1) (k + 1) (omega arith))
          go (inr a) (inr b) = let e : D' c ≡ D c = h c l ∙ rw (a, b) in let u = M.rest c l (leb-false (D c) k a) in rw (e, a, b) (lt-leb (D c) (k + 1) (omega arith))

      at : (i c : ℕ) → c < n → (ltb i k ≡ true) ⊎ (ltb i k ≡ false) → i < k + 1 → leb (D' c) (suc i) ≡ (leb (D' c) i || ltb (lowest n (G c) (λ d. leb (D' d) i)) n)
      at i c l (inl t) m = let u = ltb-true i k t in
          turn_kept (suc i) c (omega arith) l ∙ M.levels.next i c u l ∙ rw (turn_kept i c (omega arith) l, low i c (omega arith))
      at i c l (inr t) m = let u = ltb-false i k t in let q : i ≡ k = omega arith in let q' : suc i ≡ k + 1 = omega arith in
          rw (q', turn_kept i c (omega arith) l, low i c (omega arith), q) (top c l)

-- ---- marks that no further round changes

-- a core that is near by k steps and no fewer begins a list of k + 1 different cores
pub exact_below : {n : ℕ} {G : ℕ → ℕ → Bool} {T : ℕ → Bool} {N : ℕ → ℕ → Bool} {j : ℕ} → Levels n G T N j → (k c : ℕ) → k ≤ j → c < n → N k c ≡ true → Exact N k c → k < n
exact_below {n} {G} {T} {N} L k c l m h x =
    let W = walk_good L k c l m h x in
    let u : suc (length (walk n G N k c)) ≤ n = pigeonhole (c ∷ walk n G N k c) n W.distinct (λ a i. (W.inside a i).0) in
    omega (arith, W.long)

module _ {far n : ℕ} {G : ℕ → ℕ → Bool} {T : ℕ → Bool} {D : ℕ → ℕ} {k : ℕ} (M : Marked far n G T D k) where
  -- no mark is n, so after n rounds none is k
  pub marked_full : n ≤ k → (c : ℕ) → c < n → leb (D c) k ≡ true → D c < k
  marked_full l c m h = go (cases (leb k (D c)))
    where
      go : (leb k (D c) ≡ true) ⊎ (leb k (D c) ≡ false) → D c < k
      go (inl t) =
          let a = leb-true k (D c) t in
          let b = leb-true (D c) k h in
          let f = exact_below M.levels k c (omega arith) m h (exact k refl) in
          absurd (omega arith)
        where
          exact : (i : ℕ) → i ≡ k → Exact (λ i c. leb (D c) i) i c
          exact zero e = tt
          exact (suc i) e = let a = leb-true k (D c) t in lt-leb (D c) i (omega arith)
      go (inr t) = leb-false k (D c) t

  -- where no mark is k, the marks are right for any number of steps
  module _ (calm : (c : ℕ) → c < n → leb (D c) k ≡ true → D c < k) where
    high : (i c : ℕ) → k ≤ i → i < far → c < n → leb (D c) i ≡ leb (D c) (k - 1)
    high i c l m b = go (cases (leb (D c) k))
      where
        go : (leb (D c) k ≡ true) ⊎ (leb (D c) k ≡ false) → leb (D c) i ≡ leb (D c) (k - 1)
        go (inl t) = let u = calm c b t in le-leb (D c) i (omega arith) ∙ sym (le-leb (D c) (k - 1) (omega arith))
        go (inr t) = let u = leb-false (D c) k t in let v = M.rest c b u in lt-leb (D c) i (omega arith) ∙ sym (lt-leb (D c) (k - 1) (omega arith))

    pub marked_all : 0 < k → (j : ℕ) → j < far → Levels n G T (λ i c. leb (D c) i) j
    marked_all p j l = record { start = M.levels.start; next = λ i c m b. at i c m b (cases (ltb i k)) }
      where
        low : (i c : ℕ) → k ≤ i → i < far → lowest n (G c) (λ d. leb (D d) i) ≡ lowest n (G c) (λ d. leb (D d) (k - 1))
        low i c m u = first_ext (λ d. G c d && leb (D d) i) (λ d. G c d && leb (D d) (k - 1)) 0 n (λ d v. ap (λ (b : Bool). G c d && b) (high i d m u (omega arith)))

        last_one : (c : ℕ) → c < n → k < far → (h : ℕ) → suc h ≡ k → leb (D c) h ≡ (leb (D c) h || ltb (lowest n (G c) (λ d. leb (D d) h)) n)
        last_one c b f h e = sym (high (suc h) c (omega arith) (omega arith) b ∙ ap (λ (i : ℕ). leb (D c) i) (omega arith)) ∙ M.levels.next h c (omega arith) b

        at : (i c : ℕ) → i < j → c < n → (ltb i k ≡ true) ⊎ (ltb i k ≡ false) → leb (D c) (suc i) ≡ (leb (D c) i || ltb (lowest n (G c) (λ d. leb (D d) i)) n)
        at i c m b (inl t) = M.levels.next i c (ltb-true i k t) b
        at i c m b (inr t) =
            let u = ltb-false i k t in
            rw (high (suc i) c (omega arith) (omega arith) b, high i c u (omega arith) b, low i c u (omega arith)) (last_one c b (omega arith) (k - 1) (omega arith))
