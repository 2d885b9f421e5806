-- How many tasks change their core, and that a shortest chain moves the fewest.
use Prim.Native.Nat.{ℕ, ◌≤◌, ◌<◌}
use mathlib.Core.Path.{◌≡◌, refl, sym, ap, ◌∙◌}
use mathlib.Core.Logic.{◌⊎◌, inl, inr, ◌≢◌}
use mathlib.Core.Bool.{Bool, true, false, not, ◌&&◌}
use mathlib.Core.List.{List, [], ◌∷◌}
use native.Mathlib.Decide.{ℕ_discrete}
use native.Mathlib.Omega.{arith}
use lib.ListN.{length}
use lib.Dec.{eqb}
use Rattle.laws.proofs.Counting.{any_find, any_true, count_none, count_same, front, front_distinct, front_in, in_dec, in_front_or_last, last_in, length_front, length_is_count, length_le_count}
use Rattle.laws.proofs.Deciding.{cases, clash}
use Rattle.laws.proofs.Testing.{and_both, both_and, eqb_eq, eqb_false, eqb_ne, eqb_true, not_false, not_true}
use Rattle.laws.specs.Counting.{any_below}
use Rattle.laws.specs.Lists.{Distinct, In, last}
use Rattle.seating.proofs.Same.{Shifts, Walk, same, walk}
use Rattle.seating.proofs.Shut.{RankStrong}
use Rattle.seating.proofs.Take.{Took, chain_below, took_keeps, took_old, took_runs}
use Rattle.seating.specs.Chain.{Chain}
use Rattle.seating.specs.Running.{Running}
use Rattle.seating.specs.Strong.{Legal}
use Rattle.laws.specs.Decides.{Decides}
use Rattle.seating.specs.Moved.{Moved, moved_at, moved}

module _ (n e : ℕ) (s s' : ℕ → ℕ) where
  pub moved_intro : (c d : ℕ) → s c ≢ e → d < n → d ≢ c → s' d ≡ s c → moved_at n e s s' c ≡ true
  unfolding moved_at
  moved_intro c d h l o q = both_and (not_false (eqb_false h)) (any_true (λ d. not (eqb d c) && eqb (s' d) (s c)) n d l (both_and (not_false (eqb_false o)) (eqb_true q)))

  pub moved_elim : (c : ℕ) → moved_at n e s s' c ≡ true → (s c ≢ e) × ((d : ℕ) × (d < n) × (d ≢ c) × (s' d ≡ s c))
  unfolding moved_at
  moved_elim c h =
      let f : ℕ → Bool = λ d. not (eqb d c) && eqb (s' d) (s c) in
      let a = and_both (not (eqb (s c) e)) (any_below f n) h in
      let b = any_find f n a.1 in
      let k = and_both (not (eqb b.0 c)) (eqb (s' b.0) (s c)) b.2 in
      (eqb_ne (not_true a.0), (b.0, b.1, eqb_ne (not_true k.0), eqb_eq k.1))

  -- the test says what document 01's word says
  pub moved_decides : (c : ℕ) → Decides (Moved n e s s' c) (moved_at n e s s' c)
  moved_decides c = record {
    yes = λ t. let h = moved_elim c t in record { real = h.0; core = h.1.0; below = h.1.1; other = h.1.2; sits = h.1.3 };
    no = λ f m. clash (moved_intro c m.core m.real m.below m.other m.sits) f;
  }

  -- where s' has shifted a chain of s, the tasks on it but the last are moved
  pub shifts_moved : (c : ℕ) (p : List ℕ) → Distinct (c ∷ p) → Shifts n e s s' c p → (b : ℕ) → In b (front c p) → moved_at n e s s' b ≡ true
  shifts_moved c [] u h b i = absurd i
  shifts_moved c (d ∷ p) u h b (inl i) = rw i (moved_intro c d h.0 h.1 (λ j. u.0 (inl (sym j))) h.2)
  shifts_moved c (d ∷ p) u h b (inr i) = shifts_moved d p u.1 h.3 b i

-- Whoever runs in s' and not in s got there by a chain no longer than the number of moved tasks and one;
pub taken_moved : {n e : ℕ} {may : ℕ → ℕ → Bool} {s s' : ℕ → ℕ} {x : ℕ} (t : Walk n e may s s' x) → length t.p ≤ moved n e s s'
unfolding moved
taken_moved {n} {e} {may} {s} {s'} t =
    let k = length_le_count (front t.c t.p) (moved_at n e s s') n (front_distinct t.c t.p t.chain.distinct)
    (λ b i. (chain_below t.chain b (front_in t.c t.p i), shifts_moved n e s s' t.c t.p t.chain.distinct t.shifts b i)) in
    let l = length_front t.c t.p in
    omega arith

-- to take a chain moves just the tasks on it but the last;
pub took_moved : {n e : ℕ} {may : ℕ → ℕ → Bool} {R R' : ℕ → Type 0} {s s' : ℕ → ℕ} {x c : ℕ} {p : List ℕ} → Legal n e may R s → Legal n e may R' s'
    → x ≢ e → (Running n e s x → ⊥) → Took n e may s s' x c p → moved n e s s' ≡ length p
unfolding moved
took_moved {n} {e} {may} {R} {R'} {s} {s'} {x} {c} {p} L L' real out k =
    length_is_count (front c p) (moved_at n e s s') n (front_distinct c p k.chain.distinct)
    (λ b i. (chain_below k.chain b (front_in c p i), shifts_moved n e s s' c p k.chain.distinct k.shifts b i)) (λ b l m. back b l (moved_elim n e s s' b m) (in_dec b (c ∷ p)))
    ∙ length_front c p
  where
    back : (b : ℕ) → b < n → (s b ≢ e) × ((d : ℕ) × (d < n) × (d ≢ b) × (s' d ≡ s b)) → In b (c ∷ p) ⊎ (In b (c ∷ p) → ⊥) → In b (front c p)
    back b l (h, (d, m, o, q)) (inr i) = let f = k.off b i in absurd (o (sym (L'.once b d l m (rw f h) (cc))))
    back b l (h, (d, m, o, q)) (inl i) = go (in_front_or_last c p i)
      where
        gone : b ≡ last c p → (s (last c p) ≡ x) ⊎ (Running n e s (s (last c p)) × (s (last c p) ≢ s (last c p))) → ⊥
        gone j (inl y) = out (record { real = real; core = b; below = l; sits = ap s j ∙ y })
        gone j (inr y) = y.1 refl

        go : In b (front c p) ⊎ (b ≡ last c p) → In b (front c p)
        go (inl j) = j
        go (inr j) = absurd (gone j (took_old L real k (s (last c p)) (record { real = rw j at h; core = d; below = m; sits = q ∙ ap s j })))

-- and so a strong seating got by a chain that is a shortest of those to an idle core or to the task that drops out moves the fewest tasks.
pub least : {n e : ℕ} {may : ℕ → ℕ → Bool} {rank : ℕ → ℕ} {R R' : ℕ → Type 0} {s s' s'' : ℕ → ℕ} {x c : ℕ} {p : List ℕ} → Legal n e may R s
    → x ≢ e → (Running n e s x → ⊥) → Took n e may s s' x c p
    → ((d : ℕ) (q : List ℕ) → Chain n e may s x d q → (s (last d q) ≡ e) ⊎ (s (last d q) ≡ s (last c p)) → length p ≤ length q)
    → Legal n e may R' s' → RankStrong n e may rank R' s' → Legal n e may R' s'' → RankStrong n e may rank R' s''
    → moved n e s s' ≤ moved n e s s''
least {n} {e} {may} {rank} {R} {R'} {s} {s'} {s''} {x} {c} {p} L real out k short L' S' L'' S'' =
    let a = took_moved L L' real out k in
    let b = taken_moved t in
    let m = short t.c t.p t.chain (ends (ℕ_discrete z e) (ℕ_discrete z (s (last c p)))) in
    omega arith
  where
    t : Walk n e may s s'' x
    t = walk L L'' x (same L'' S'' L' S' x (took_runs L real k)) out

    z : ℕ
    z = s (last t.c t.p)

    ends : Dec (z ≡ e) → Dec (z ≡ s (last c p)) → (z ≡ e) ⊎ (z ≡ s (last c p))
    ends (yes q) f = inl q
    ends (no q) (yes r) = inr r
    ends (no q) (no r) = absurd (t.out (same L'' S'' L' S' z (took_keeps L real k z
        (record { real = q; core = last t.c t.p; below = chain_below t.chain (last t.c t.p) (last_in t.c t.p); sits = refl }) r)))

-- nothing is moved where nothing changes
pub moved_none : {n e : ℕ} {may : ℕ → ℕ → Bool} {R : ℕ → Type 0} {s : ℕ → ℕ} → Legal n e may R s → moved n e s s ≡ 0
unfolding moved
moved_none {n} {e} {may} {R} {s} L = count_none (moved_at n e s s) n λ c l. go c l (cases (moved_at n e s s c))
  where
    go : (c : ℕ) → c < n → (moved_at n e s s c ≡ true) ⊎ (moved_at n e s s c ≡ false) → moved_at n e s s c ≡ false
    go c l (inr f) = f
    go c l (inl f) = let m = moved_elim n e s s c f in absurd (m.1.2 (sym (L.once c m.1.0 l m.1.1 m.0 (sym m.1.3))))

-- a task that no longer runs is not moved: to count from the seating before it left its core z is to count from the one after
pub moved_left : {n e z : ℕ} {s s₀ s' : ℕ → ℕ} → s₀ z ≡ e → ((a : ℕ) → a ≢ z → s₀ a ≡ s a) → (Running n e s' (s z) → ⊥) → moved n e s s' ≡ moved n e s₀ s'
unfolding moved moved_at
moved_left {n} {e} {z} {s} {s₀} {s'} idle off out = count_same (moved_at n e s s') (moved_at n e s₀ s') n λ c l. go c (ℕ_discrete c z)
  where
    none : (b : Bool) → (b ≡ true → ⊥) → b ≡ false
    none true h = absurd (h refl)
    none false h = refl

    go : (c : ℕ) → Dec (c ≡ z) → moved_at n e s s' c ≡ moved_at n e s₀ s' c
    go c (no d) = rw (off c d)
    go c (yes d) = rw d (none (moved_at n e s s' z) (λ h. let m = moved_elim n e s s' z h in out (record { real = m.0; core = m.1.0; below = m.1.1; sits = m.1.3 }))
        ∙ sym (none (moved_at n e s₀ s' z) (λ h. (moved_elim n e s₀ s' z h).0 idle)))
