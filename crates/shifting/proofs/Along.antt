-- The wake order gone along: of what its places hold one is picked by priority alone, since the places tell who woke earlier.
use Rattle.std.proofs.Common.{ℕ, ◌+◌, ◌≤◌, ◌<◌, ◌≡◌, refl, sym, ap, ◌∙◌, ◌≢◌, ◌⊎◌, inl, inr, Bool, true, false, Option, Some, None, arith, get_or}
use native.Mathlib.Decide.{dec_lt}
use Rattle.laws.specs.Pick.{Picks}
use Rattle.laws.proofs.Deciding.{cases, clash}
use Rattle.laws.proofs.Picking.{Total, picks_start, picks_skip, picks_new, picks_keep, picked_real}
use Rattle.dispatcher.specs.Limits.{slot_limit, none}
use Rattle.dispatcher.specs.Slots.{task_at, order_at, Ready, Shaped}
use Rattle.dispatcher.specs.Sound.{Sound}
use Rattle.dispatcher.specs.declared.Dispatcher.{Dispatcher}
use Rattle.dispatcher.proofs.Reading.{order_read}
use Rattle.dispatcher.proofs.Ready.{ready_held}
use Rattle.order.specs.ComesBefore.{priority_of, woke_at, ComesBefore}
use Rattle.order.proofs.Standing.{place_is}
use Rattle.order.proofs.Ranking.{rank_before}
use Rattle.shifting.specs.Picking.{rank_at, PicksOf}

-- ---- one of the places below k

-- v i is what can be picked at place i, and w i its weight; r and q are those of what was picked, or what the loop starts with
pub record Along (v w : ℕ → ℕ) (le : ℕ → ℕ → Bool) (f : ℕ → Bool) (start k : ℕ) (r : Option ℕ) (q : ℕ) : Type 0 where
  pub place : ℕ
  pub picks : Picks none le f k place
  pub nobody : place ≡ none → (r ≡ None) × (q ≡ start)
  pub found : place ≢ none → (r ≡ Some (v place)) × (q ≡ w place)

pub along_start : {v w : ℕ → ℕ} {le : ℕ → ℕ → Bool} {f : ℕ → Bool} {start : ℕ} → Along v w le f start 0 None start
along_start = record { place = none; picks = picks_start; nobody = λ _. (refl, refl); found = λ n. absurd (n refl) }

module _ {v w : ℕ → ℕ} {le : ℕ → ℕ → Bool} {f : ℕ → Bool} {start k q : ℕ} {r : Option ℕ} (A : Along v w le f start k r q) where
  pub along_skip : f k ≡ false → Along v w le f start (k + 1) r q
  along_skip h = record { place = A.place; picks = picks_skip h A.picks; nobody = A.nobody; found = A.found }

  -- the next place passes and is not before what was picked
  pub along_new : k < none → Total le → f k ≡ true → ((p : ℕ) → p < k → f p ≡ true → q ≡ w p → le p k ≡ true) → Along v w le f start (k + 1) (Some (v k)) (w k)
  along_new l O h after = record {
    place = k;
    picks = picks_new O h (λ p. after A.place p.below p.passes (A.found (λ e. omega (arith, p.below, e))).1) A.picks;
    nobody = λ e. absurd (omega arith);
    found = λ _. (refl, refl);
  }

  -- it fails, or is not after what was picked
  pub along_keep : q ≢ start → (f k ≡ true → (p : ℕ) → p < k → f p ≡ true → q ≡ w p → le k p ≡ true) → Along v w le f start (k + 1) r q
  along_keep n before = go (cases (f k))
    where
      real : A.place ≢ none
      real e = n (A.nobody e).1

      go : (f k ≡ true) ⊎ (f k ≡ false) → Along v w le f start (k + 1) r q
      go (inr h) = along_skip h
      go (inl h) =
          let p = picked_real A.picks real in
          record { place = A.place; picks = picks_keep p (before h A.place p.below p.passes (A.found real).1); nobody = A.nobody; found = A.found }

-- where the places below k hold all numbers below m that pass, one of these is picked
pub along_all : {v w : ℕ → ℕ} (le : ℕ → ℕ → Bool) (f : ℕ → Bool) {start k q : ℕ} (r : Option ℕ) (m : ℕ) → k ≤ none → ((i : ℕ) → i < k → f (v i) ≡ true → v i < m)
    → ((c : ℕ) → c < m → f c ≡ true → (i : ℕ) × (i < k) × (v i ≡ c)) → Along v w (λ i j. le (v i) (v j)) (λ i. f (v i)) start k r q → PicksOf le f m r
along_all {v} le f {k = k} r m few only all A = go A.picks
  where
    go : Picks none (λ i j. le (v i) (v j)) (λ i. f (v i)) k A.place → PicksOf le f m r
    go (inl p) = rw (A.found (λ e. omega (arith, p.below, e))).0 (record {
      below = only A.place p.below p.passes;
      passes = p.passes;
      last = λ c l h. let (i, b, e) = all c l h in rw (← e) (p.last i b (rw e h));
    })
    go (inr p) = rw (A.nobody p.is).0 (λ c l. fails c l (cases (f c)))
      where
        fails : (c : ℕ) → c < m → (f c ≡ true) ⊎ (f c ≡ false) → f c ≡ false
        fails c l (inr h) = h
        fails c l (inl h) = let (i, b, e) = all c l h in clash (rw e h) (p.none i b)

-- ---- the places of the wake order

module _ {d : Dispatcher} (L : Shaped d) (S : Sound d) where
  pub stands_ready : {k : ℕ} → k < slot_limit → order_at d k ≢ none → Ready d (order_at d k)
  stands_ready {k} l h = record { slot = (S.order k l h).slot; place = k; within = l; stands = refl }

  stands_woke : {k : ℕ} → k < slot_limit → order_at d k ≢ none → woke_at d (order_at d k) ≡ k
  stands_woke {k} l h = place_is d.order (order_at d k) none (rw L.order l) refl (S.order k l h).not_twice

  -- of two places the earlier one has the task that comes before, unless the later one has a higher priority
  module _ {p k : ℕ} (b : p < k) (l : k < slot_limit) (h : order_at d k ≢ none) where
    within : p < slot_limit
    within = omega arith

    held : order_at d p ≢ none
    held = (S.order k l h).no_gap p b

    pub stays_ahead : priority_of d (order_at d k) ≤ priority_of d (order_at d p) → rank_at d (order_at d p) < rank_at d (order_at d k)
    stays_ahead m = rank_before S L (stands_ready within held) (stands_ready l h) (go (dec_lt (priority_of d (order_at d k)) (priority_of d (order_at d p))))
      where
        go : Dec (priority_of d (order_at d k) < priority_of d (order_at d p)) → ComesBefore d (order_at d p) (order_at d k)
        go (yes x) = inl x
        go (no x) = inr (omega arith, rw (stands_woke within held, stands_woke l h) b)

    pub falls_behind : priority_of d (order_at d p) < priority_of d (order_at d k) → rank_at d (order_at d k) < rank_at d (order_at d p)
    falls_behind m = rank_before S L (stands_ready l h) (stands_ready within held) (inl m)

  -- at the end of the order all ready tasks were passed
  pub ready_passed : {k t : ℕ} → (slot_limit ≤ k) ⊎ (order_at d k ≡ none) → Ready d t → (i : ℕ) × (i < k) × (order_at d i ≡ t)
  ready_passed {k} {t} end r = (r.place, go end (dec_lt r.place k), r.stands)
    where
      go : (slot_limit ≤ k) ⊎ (order_at d k ≡ none) → Dec (r.place < k) → r.place < k
      go e (yes b) = b
      go (inl e) (no b) = omega (arith, r.within)
      go (inr e) (no b) = absurd (gap (dec_lt k r.place))
        where
          gap : Dec (k < r.place) → ⊥
          gap (yes a) = (S.order r.place r.within (ready_held r)).no_gap k a e
          gap (no a) = let q : r.place ≡ k = omega arith in ready_held r (rw q e)

-- ---- the slot x that a loop reads at a place

module _ {d : Dispatcher} (L : Shaped d) (S : Sound d) {k x : ℕ} (low : k < slot_limit) (read : x ≡ get_or d.order k 0) (busy : get_or d.order k 0 ≢ none) where
  pub read_is : order_at d k ≡ x
  read_is = order_read d k L.order low ∙ sym read

  pub read_held : order_at d k ≢ none
  read_held q = busy (sym (order_read d k L.order low) ∙ q)

  pub read_ready : Ready d x
  read_ready = rw read_is at (stands_ready L S low read_held)

  pub read_weight : priority_of d (order_at d k) ≡ (task_at d x).priority
  read_weight = ap (priority_of d) read_is
