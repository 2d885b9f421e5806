-- The search for a place: what asking cores for room, one after the other, comes to. A task finds a place if some core of its mask is free or can be freed; a
-- core can be freed if its occupant finds another place, no core being asked twice.
use Prim.Native.Nat.{ℕ, suc, ◌≤◌, ◌<◌}
use mathlib.Core.Path.{◌≡◌, refl, sym, ap, ◌∙◌, subst}
use mathlib.Core.Logic.{◌⊎◌, inl, inr, ◌≢◌}
use mathlib.Core.Bool.{Bool, true, false, not, ◌||◌}
use mathlib.Core.List.{List, [], ◌∷◌}
use native.Mathlib.Decide.{ℕ_discrete}
use lib.Dec.{eqb}
use Rattle.laws.specs.Lists.{Distinct, In, last}
use Rattle.laws.specs.Counting.{count}
use Rattle.laws.proofs.Counting.{without, without_at, without_other, count_same, count_without, count_mono}
use Rattle.laws.proofs.Deciding.{cases, clash}
use Rattle.laws.proofs.Testing.{or_cases, or_left, or_right, not_true, not_false, eqb_true, eqb_eq, eqb_false}
use Rattle.seating.specs.Running.{May}
use Rattle.seating.specs.Chain.{Links}
use Rattle.seating.proofs.Update.{upd, upd_same, upd_other}
use Rattle.seating.proofs.Same.{Shifts}
use Rattle.seating.proofs.Shut.{Shut}
use Rattle.seating.proofs.Take.{Took}
use Rattle.seating.proofs.Keep.{Cage, cage_shut}

-- ---- the cores that have been asked

-- A, and c
unfoldable pub mark : (ℕ → Bool) → ℕ → ℕ → Bool
mark A c d = A d || eqb d c

pub mark_more : (A : ℕ → Bool) (c : ℕ) (d : ℕ) → A d ≡ true → mark A c d ≡ true
unfolding mark
mark_more A c d h = or_left (eqb d c) h

pub mark_at : (A : ℕ → Bool) (c : ℕ) → mark A c c ≡ true
unfolding mark
mark_at A c = or_right (A c) (eqb_true {a = c} refl)

pub mark_other : (A : ℕ → Bool) (c d : ℕ) → d ≢ c → mark A c d ≡ A d
unfolding mark
mark_other A c d h = rw (eqb_false h) (go (A d))
  where
    go : (b : Bool) → b || false ≡ b
    go true = refl
    go false = refl

pub mark_false : (A : ℕ → Bool) (c d : ℕ) → mark A c d ≡ false → (A d ≡ false) × (d ≢ c)
mark_false A c d h = (go (cases (A d)), λ q. clash (mark_at A c) (rw q at h))
  where
    go : (A d ≡ true) ⊎ (A d ≡ false) → A d ≡ false
    go (inl i) = clash (mark_more A c d i) h
    go (inr i) = i

pub mark_cases : (A : ℕ → Bool) (c d : ℕ) → mark A c d ≡ true → (A d ≡ true) ⊎ (d ≡ c)
unfolding mark
mark_cases A c d h = elim (or_cases {a = A d} {b = eqb d c} h) [ inl i ↦ inl i | inr i ↦ inr (eqb_eq i) ]

-- how many of the cores below n have not been asked
unfoldable pub left : ℕ → (ℕ → Bool) → ℕ
left n A = count (λ c. not (A c)) n

pub left_more : (n : ℕ) (A B : ℕ → Bool) → ((c : ℕ) → A c ≡ true → B c ≡ true) → left n B ≤ left n A
unfolding left
left_more n A B h = count_mono (λ c. not (B c)) (λ c. not (A c)) n λ c i. go c i (cases (A c))
  where
    go : (c : ℕ) → not (B c) ≡ true → (A c ≡ true) ⊎ (A c ≡ false) → not (A c) ≡ true
    go c i (inl k) = clash (h c k) (not_true i)
    go c i (inr k) = not_false k

pub left_mark : (n : ℕ) (A : ℕ → Bool) (c : ℕ) → c < n → A c ≡ false → left n A ≡ suc (left n (mark A c))
unfolding left
left_mark n A c l h = count_without (λ d. not (A d)) c n l (not_false h) ∙ ap suc (count_same (without (λ d. not (A d)) c) (λ d. not (mark A c d)) n λ d m. go d (ℕ_discrete d c))
  where
    go : (d : ℕ) → Dec (d ≡ c) → without (λ d. not (A d)) c d ≡ not (mark A c d)
    go d (yes q) = rw q (without_at (λ d. not (A d)) c ∙ ap not (sym (mark_at A c)))
    go d (no q) = without_other (λ d. not (A d)) c q ∙ ap not (sym (mark_other A c d q))

-- ---- what is found

-- s' is s with t in it: it took a chain to an idle core, over cores that are not in A
pub record Place (n e : ℕ) (may : ℕ → ℕ → Bool) (s : ℕ → ℕ) (A : ℕ → Bool) (t : ℕ) (s' : ℕ → ℕ) : Type 0 where
  pub c : ℕ
  pub p : List ℕ
  pub took : Took n e may s s' t c p
  pub idle : s (last c p) ≡ e
  pub fresh : (a : ℕ) → In a (c ∷ p) → A a ≡ false

-- core c is free for another task in s': s has it idle, or its task has another place in s', by a chain of cores that are not in A
pub record Freed (n e : ℕ) (may : ℕ → ℕ → Bool) (s : ℕ → ℕ) (A : ℕ → Bool) (c : ℕ) (s' : ℕ → ℕ) : Type 0 where
  pub p : List ℕ
  pub links : Links n e may s c p
  pub distinct : Distinct (c ∷ p)
  pub shifts : Shifts n e s s' c p
  pub off : (a : ℕ) → (In a p → ⊥) → s' a ≡ s a
  pub idle : s (last c p) ≡ e
  pub fresh : (a : ℕ) → In a (c ∷ p) → A a ≡ false

-- t found no place, the cores in A having been asked before: now those in B have been, each core that t may use among them. Each of B that is
-- not of A is held, and B has all the cores that its task may use.
pub record NoPlace (n e : ℕ) (may : ℕ → ℕ → Bool) (s : ℕ → ℕ) (A : ℕ → Bool) (t : ℕ) (B : ℕ → Bool) : Type 0 where
  pub more : (c : ℕ) → A c ≡ true → B c ≡ true
  pub starts : (c : ℕ) → May n may t c → B c ≡ true
  pub below : (c : ℕ) → B c ≡ true → A c ≡ false → c < n
  pub full : (c : ℕ) → B c ≡ true → A c ≡ false → s c ≢ e
  pub closed : (c : ℕ) → B c ≡ true → A c ≡ false → (d : ℕ) → May n may (s c) d → B d ≡ true

-- and core c could not be freed
pub record Kept (n e : ℕ) (may : ℕ → ℕ → Bool) (s : ℕ → ℕ) (A : ℕ → Bool) (c : ℕ) (B : ℕ → Bool) : Type 0 where
  pub below : c < n
  pub held : s c ≢ e
  pub none : NoPlace n e may s (mark A c) (s c) B

-- ---- the steps: a core is asked

shifts_same : (n e : ℕ) (s s₁ s₂ : ℕ → ℕ) (c : ℕ) (p : List ℕ) → ((a : ℕ) → In a p → s₂ a ≡ s₁ a) → Shifts n e s s₁ c p → Shifts n e s s₂ c p
shifts_same n e s s₁ s₂ c [] h w = tt
shifts_same n e s s₁ s₂ c (d ∷ p) h w = (w.0, w.1, h d (inl refl) ∙ w.2, shifts_same n e s s₁ s₂ d p (λ a i. h a (inr i)) w.3)

module _ {n e : ℕ} {may : ℕ → ℕ → Bool} {s : ℕ → ℕ} {A : ℕ → Bool} {c : ℕ} where
  -- it is idle
  pub free_idle : A c ≡ false → s c ≡ e → Freed n e may s A c s
  free_idle f i = record { p = []; links = tt; distinct = (λ j. j, tt); shifts = tt; off = λ a j. refl; idle = i; fresh = λ a j. elim j [ inl q ↦ rw q f | inr q ↦ absurd q ] }

  -- or its task finds another place
  pub free_held : {s' : ℕ → ℕ} → A c ≡ false → s c ≢ e → Place n e may s (mark A c) (s c) s' → Freed n e may s A c s'
  free_held f h P = record {
    p = P.c ∷ P.p;
    links = (h, P.took.chain.start, P.took.chain.links);
    distinct = (λ j. (mark_false A c c (P.fresh c j)).1 refl, P.took.chain.distinct);
    shifts = (h, P.took.chain.start.0, P.took.first, P.took.shifts);
    off = P.took.off;
    idle = P.idle;
    fresh = λ a j. elim j [ inl q ↦ rw q f | inr q ↦ (mark_false A c a (P.fresh a q)).0 ];
  }

  -- then t sits there
  pub sit : {s' : ℕ → ℕ} {t : ℕ} → May n may t c → Freed n e may s A c s' → Place n e may s A t (upd s' c t)
  sit {s'} {t} m F = record {
    c = c;
    p = F.p;
    took = record {
      chain = record { start = m; links = F.links; distinct = F.distinct };
      first = upd_same s' c t;
      shifts = shifts_same n e s s' (upd s' c t) c F.p (λ a i. upd_other s' c t (λ q. F.distinct.0 (subst (λ (z : ℕ). In z F.p) q i))) F.shifts;
      off = λ a i. upd_other s' c t (λ q. i (inl q)) ∙ F.off a (λ q. i (inr q));
    };
    idle = F.idle;
    fresh = F.fresh;
  }

  -- or, if it cannot be freed, t asks on: all that was asked stays asked
  pub ask_on : {t : ℕ} {B D : ℕ → Bool} → Kept n e may s A c B → NoPlace n e may s B t D → NoPlace n e may s A t D
  ask_on {t} {B} {D} N M = record {
    more = λ a i. M.more a (N.none.more a (mark_more A c a i));
    starts = M.starts;
    below = asked (λ a. a < n) M.below N.none.below N.below;
    full = asked (λ a. s a ≢ e) M.full N.none.full N.held;
    closed = asked (λ a. (d : ℕ) → May n may (s a) d → D d ≡ true) M.closed (λ a j k d m. M.more d (N.none.closed a j k d m)) (λ d m. M.more d (N.none.starts d m));
  }
    where
      -- a core that has been asked since was asked after c, or for c's task, or is c
      asked : (P : ℕ → Type 0) → ((a : ℕ) → D a ≡ true → B a ≡ false → P a) → ((a : ℕ) → B a ≡ true → mark A c a ≡ false → P a) → P c
          → (a : ℕ) → D a ≡ true → A a ≡ false → P a
      asked P after within at_c a i o = go (cases (B a)) (cases (mark A c a))
        where
          here : (A a ≡ true) ⊎ (a ≡ c) → P a
          here (inl k) = clash k o
          here (inr k) = rw k at_c

          go : (B a ≡ true) ⊎ (B a ≡ false) → (mark A c a ≡ true) ⊎ (mark A c a ≡ false) → P a
          go (inr j) k = after a i j
          go (inl j) (inr k) = within a j k
          go (inl j) (inl k) = here (mark_cases A c a k)

  pub kept_more : {B : ℕ → Bool} → Kept n e may s A c B → (a : ℕ) → A a ≡ true → B a ≡ true
  kept_more N a i = N.none.more a (mark_more A c a i)

-- ---- and none is left to ask

pub ask_none : {n e : ℕ} {may : ℕ → ℕ → Bool} {s : ℕ → ℕ} {A : ℕ → Bool} {t : ℕ} → ((c : ℕ) → May n may t c → A c ≡ true) → NoPlace n e may s A t A
ask_none h = record { more = λ c i. i; starts = h; below = λ c i o. clash i o; full = λ c i o. clash i o; closed = λ c i o. clash i o }

pub place_less : {n e : ℕ} {may : ℕ → ℕ → Bool} {s s' : ℕ → ℕ} {A B : ℕ → Bool} {t : ℕ} → ((c : ℕ) → A c ≡ true → B c ≡ true) → Place n e may s B t s' → Place n e may s A t s'
place_less {A = A} {B} h P = record { c = P.c; p = P.p; took = P.took; idle = P.idle; fresh = λ a i. go a (P.fresh a i) (cases (A a)) }
  where
    go : (a : ℕ) → B a ≡ false → (A a ≡ true) ⊎ (A a ≡ false) → A a ≡ false
    go a o (inl k) = clash (h a k) o
    go a o (inr k) = k

-- ---- the whole search, from no core asked: the cores asked in vain are a cage

module _ {n e : ℕ} {may : ℕ → ℕ → Bool} {s : ℕ → ℕ} {A B : ℕ → Bool} {t : ℕ} (z : (c : ℕ) → A c ≡ false) (N : NoPlace n e may s A t B) where
  pub none_cage : Cage n e may s t
  none_cage = record { K = B; starts = N.starts; full = λ c i. N.full c i (z c); closed = λ c i. N.closed c i (z c) }

  -- and t is shut in by them, if whoever sits comes before it
  pub none_shut : {rank : ℕ → ℕ} → ((c : ℕ) → c < n → s c ≢ e → rank (s c) < rank t) → Shut n e may rank s t
  unfolding none_cage
  none_shut h = cage_shut none_cage (λ c i. h c (N.below c i (z c)) (N.full c i (z c)))
