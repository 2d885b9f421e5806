-- The rules leave no choice: from one seating an arrival has one end, one count of moves and one seating after, and so has a filling.
use Prim.Native.Nat.{ℕ}
use mathlib.Core.Path.{◌≡◌, sym, ap, ◌∙◌}
use mathlib.Core.Logic.{◌⊎◌, inl, inr}
use mathlib.Core.Bool.{Bool}
use mathlib.Core.List.{List, [], ◌∷◌}
use native.Mathlib.Decide.{ℕ_discrete}
use lib.ListN.{length}
use lib.Dec.{eqb}
use Rattle.laws.specs.Lists.{In, last}
use Rattle.laws.proofs.Counting.{in_dec}
use Rattle.laws.proofs.Testing.{eqb_eq}
use Rattle.seating.specs.Taking.{Passes, Takes, Goes, Stays}
use Rattle.seating.specs.Arrival.{ToIdle, NoIdle, Last, Arrives}
use Rattle.seating.specs.Filling.{First, Fills}
use Rattle.seating.proofs.Choice.{chosen_same}
use Rattle.seating.proofs.Ranks.{chain_reached}

-- ---- taking a chain

passes_same : (s s' t' : ℕ → ℕ) (c : ℕ) (p : List ℕ) → Passes s s' c p → Passes s t' c p → (a : ℕ) → In a p → s' a ≡ t' a
passes_same s s' t' c [] h k a i = absurd i
passes_same s s' t' c (d ∷ p) h k a (inl i) = rw i (h.0 ∙ sym k.0)
passes_same s s' t' c (d ∷ p) h k a (inr i) = passes_same s s' t' d p h.1 k.1 a i

takes_same : {s s' t' : ℕ → ℕ} {x c : ℕ} {p : List ℕ} → Takes s s' x c p → Takes s t' x c p → (a : ℕ) → s' a ≡ t' a
takes_same {s} {s'} {t'} {x} {c} {p} h k a = go (in_dec a (c ∷ p))
  where
    go : In a (c ∷ p) ⊎ (In a (c ∷ p) → ⊥) → s' a ≡ t' a
    go (inl (inl i)) = rw i (h.first ∙ sym k.first)
    go (inl (inr i)) = passes_same s s' t' c p h.next k.next a i
    go (inr i) = h.others a i ∙ sym (k.others a i)

abbrev Same : (ℕ → ℕ) → ℕ → (ℕ → ℕ) → ℕ → Type 0
Same s m t k = ((a : ℕ) → s a ≡ t a) × (m ≡ k)

goes_same : {n e : ℕ} {may : ℕ → ℕ → Bool} {s : ℕ → ℕ} {x : ℕ} {T : ℕ → Bool} {s' t' : ℕ → ℕ} {m k : ℕ} → Goes n e may s x T s' m → Goes n e may s x T t' k → Same s' m t' k
goes_same {s = s} {x = x} {t' = t'} g h =
    let same : (g.c ∷ g.p) ≡ (h.c ∷ h.p) = chosen_same g.chosen h.chosen in
    let i : h.c ≡ g.c = cc same in
    let j : h.p ≡ g.p = cc same in
    let k : Takes s t' x g.c g.p = rw (i, j) at h.takes in
    (takes_same g.takes k, g.count ∙ ap length (sym j) ∙ sym h.count)

stays_same : {s s' t' : ℕ → ℕ} {m k : ℕ} → Stays s s' m → Stays s t' k → Same s' m t' k
stays_same g h = ((λ a. g.seats a ∙ sym (h.seats a)), g.count ∙ sym h.count)

-- ---- an arrival and a filling, where no two tasks come each before the other

module _ {n e : ℕ} {may : ℕ → ℕ → Bool} {Before : ℕ → ℕ → Type 0} {s : ℕ → ℕ} (not_back : (t u : ℕ) → Before t u → Before u t → ⊥) where
  last_same : {x z y : ℕ} → Last n e may Before s x z → Last n e may Before s x y → z ≡ y
  last_same {x} {z} {y} a b = go (ℕ_discrete z y)
    where
      go : Dec (z ≡ y) → z ≡ y
      go (yes q) = q
      go (no q) = absurd (not_back (s z) (s y) (b.others z a.reached q) (a.others y b.reached (λ i. q (sym i))))

  idle_not_full : {x : ℕ} {s' : ℕ → ℕ} {m u v : ℕ} → ToIdle n e may s x s' m u v → NoIdle n e may s x → ⊥
  idle_not_full h f = let g = h.goes in f.held (last g.c g.p) (chain_reached g.chosen.chain) (eqb_eq g.chosen.hits)

  pub arrives_same : {x : ℕ} {s' t' : ℕ → ℕ} {m u v k p q : ℕ} → Arrives n e may Before s x s' m u v → Arrives n e may Before s x t' k p q
      → ((a : ℕ) → s' a ≡ t' a) × (m ≡ k) × (u ≡ p) × (v ≡ q)
  arrives_same (inl a) (inl b) = let g = goes_same a.goes b.goes in (g.0, g.1, a.starts ∙ sym b.starts, a.stops ∙ sym b.stops)
  arrives_same (inl a) (inr (inl b)) = absurd (idle_not_full a b.full)
  arrives_same (inl a) (inr (inr b)) = absurd (idle_not_full a b.full)
  arrives_same (inr (inl a)) (inl b) = absurd (idle_not_full b a.full)
  arrives_same (inr (inr a)) (inl b) = absurd (idle_not_full b a.full)
  arrives_same {x} {s'} {t'} {m} {u} {v} {k} {p} {q} (inr (inl a)) (inr (inl b)) =
      let i : b.core ≡ a.core = last_same b.last a.last in
      let h : Goes n e may s x (λ c. eqb c a.core) t' k = rw i at b.goes in
      let g = goes_same a.goes h in
      (g.0, g.1, a.starts ∙ sym b.starts, a.stops ∙ ap s (sym i) ∙ sym b.stops)
  arrives_same (inr (inl a)) (inr (inr b)) = absurd (b.not_before a.core a.last a.before)
  arrives_same (inr (inr a)) (inr (inl b)) = absurd (a.not_before b.core b.last b.before)
  arrives_same (inr (inr a)) (inr (inr b)) = let g = stays_same a.stays b.stays in (g.0, g.1, a.starts ∙ sym b.starts, a.stops ∙ sym b.stops)

  first_same : {R : ℕ → Type 0} {z h k : ℕ} → First n e may Before R s z h → First n e may Before R s z k → h ≡ k
  first_same {R} {z} {h} {k} a b = go (ℕ_discrete h k)
    where
      go : Dec (h ≡ k) → h ≡ k
      go (yes q) = q
      go (no q) = absurd (not_back h k (a.rest k b.waits b.reaches (λ i. q (sym i))) (b.rest h a.waits a.reaches q))

  pub fills_same : {R : ℕ → Type 0} {z : ℕ} {s' t' : ℕ → ℕ} {m u k p : ℕ} → Fills n e may Before R s z s' m u → Fills n e may Before R s z t' k p → ((a : ℕ) → s' a ≡ t' a) × (m ≡ k) × (u ≡ p)
  fills_same {R} {z} {s'} {t'} {m} {u} {k} {p} (inl a) (inl b) =
      let i : p ≡ u = first_same b.first a.first in
      let h : Goes n e may s u (λ c. eqb c z) t' k = rw i at b.goes in
      let g = goes_same a.goes h in
      (g.0, g.1, sym i)
  fills_same (inl a) (inr b) = absurd (b.none _ a.first.waits a.first.reaches)
  fills_same (inr a) (inl b) = absurd (a.none _ b.first.waits b.first.reaches)
  fills_same (inr a) (inr b) = let g = stays_same a.stays b.stays in (g.0, g.1, a.starts ∙ sym b.starts)
