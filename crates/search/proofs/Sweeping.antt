-- The sweeps of `reached`: each adds reached cores only, and one that adds none has them all.
use Rattle.std.proofs.Common.{ℕ, ◌+◌, ◌%◌, ◌^◌, ◌<◌, ◌≡◌, sym, ap, ◌∙◌, ◌⊎◌, inl, inr, ◌≢◌, true, false, ◌&&◌, List, arith, bit_or, ltb, get_or, ltb-true, lt-ltb}
use native.Mathlib.Decide.{ℕ_discrete}
use Rattle.laws.specs.Lists.{last}
use Rattle.laws.proofs.Counting.{last_in}
use Rattle.laws.proofs.Deciding.{clash}
use Rattle.laws.proofs.Testing.{and_both, both_and, or_cases, or_left, or_right}
use Rattle.masks.specs.Masks.{has}
use Rattle.masks.proofs.Bits.{has_zero}
use Rattle.masks.proofs.Operators.{has_or, has_cut, or_grows}
use Rattle.seating.specs.Running.{May}
use Rattle.seating.specs.Reached.{Reached}
use Rattle.seating.proofs.Same.{links_inside}
use Rattle.seating.proofs.Reach.{reach_start, reach_step}
use Rattle.seating.proofs.Ranks.{reached_below}
use Rattle.search.specs.Sitters.{mask_on, leads}
use Rattle.search.specs.ReachedCores.{ReachedCores}
use Rattle.search.specs.Spread.{Pushed, Spread}

-- ---- one sweep

wider : {n : ℕ} {masks : List ℕ} {seen i d : ℕ} → Pushed n masks seen i d → Pushed n masks seen (i + 1) d
wider p = record { from = p.from; passed = omega (arith, p.passed); inside = p.inside; below = p.below; may = p.may }

module _ {n : ℕ} {masks : List ℕ} {seen i r : ℕ} (S : Spread n masks seen i r) (l : i < n) where
  narrower : {d : ℕ} (p : Pushed n masks seen (i + 1) d) → p.from ≢ i → has r d ≡ true
  narrower {d} p q = S.adds d (record { from = p.from; passed = omega (arith, p.passed); inside = p.inside; below = p.below; may = p.may })

  old : (d : ℕ) → (has seen d ≡ true) ⊎ Pushed n masks seen i d → (has seen d ≡ true) ⊎ Pushed n masks seen (i + 1) d
  old d (inl h) = inl h
  old d (inr p) = inr (wider p)

  -- core i is not in the set
  pub spread_pass : has seen i ≡ false → Spread n masks seen (i + 1) r
  spread_pass f = record { in_range = omega arith; grows = S.grows; keeps = S.keeps; adds = λ d p. at d p (ℕ_discrete p.from i); only = λ d h. old d (S.only d h) }
    where
      at : (d : ℕ) (p : Pushed n masks seen (i + 1) d) → Dec (p.from ≡ i) → has r d ≡ true
      at d p (yes q) = clash p.inside (ap (has seen) q ∙ f)
      at d p (no q) = narrower p q

  -- core i is in the set
  pub spread_add : {m : ℕ} → has seen i ≡ true → m ≡ get_or masks i 0 % 2 ^ n → Spread n masks seen (i + 1) (bit_or r m)
  spread_add {m} f e = record {
    in_range = omega arith;
    grows = let g = or_grows r m in let h = S.grows in omega arith;
    keeps = λ d h. kept d (S.keeps d h);
    adds = λ d p. at d p (ℕ_discrete p.from i);
    only = λ d h. back d (or_cases (sym (has_or r m d) ∙ h));
  }
    where
      bits : (d : ℕ) → has m d ≡ (leads masks i d && ltb d n)
      bits d = ap (λ (k : ℕ). has k d) e ∙ has_cut (get_or masks i 0) n d

      kept : (d : ℕ) → has r d ≡ true → has (bit_or r m) d ≡ true
      kept d h = has_or r m d ∙ or_left (has m d) h

      at : (d : ℕ) (p : Pushed n masks seen (i + 1) d) → Dec (p.from ≡ i) → has (bit_or r m) d ≡ true
      at d p (yes q) = has_or r m d ∙ or_right (has r d) (bits d ∙ both_and (ap (λ (k : ℕ). leads masks k d) (sym q) ∙ p.may) (lt-ltb d n p.below))
      at d p (no q) = kept d (narrower p q)

      back : (d : ℕ) → (has r d ≡ true) ⊎ (has m d ≡ true) → (has seen d ≡ true) ⊎ Pushed n masks seen (i + 1) d
      back d (inl h) = old d (S.only d h)
      back d (inr h) =
          let k = and_both (leads masks i d) (ltb d n) (sym (bits d) ∙ h) in
          inr (record { from = i; passed = omega arith; inside = f; below = ltb-true d n k.1; may = k.0 })

-- ---- the sweeps

pub record Grown (n : ℕ) (masks : List ℕ) (start seen : ℕ) : Type 0 where
  pub starts : (d : ℕ) → d < n → has start d ≡ true → has seen d ≡ true
  pub sound : (d : ℕ) → has seen d ≡ true → Reached n 0 has (mask_on masks) start d

pub grown_start : {n : ℕ} (masks : List ℕ) {start seen : ℕ} → seen ≡ start % 2 ^ n → Grown n masks start seen
grown_start {n} masks {start} {seen} e = record {
  starts = λ d l h. bits d ∙ both_and h (lt-ltb d n l);
  sound = λ d h. let k = and_both (has start d) (ltb d n) (sym (bits d) ∙ h) in reach_start (ltb-true d n k.1, k.0);
}
  where
    bits : (d : ℕ) → has seen d ≡ (has start d && ltb d n)
    bits d = ap (λ (k : ℕ). has k d) e ∙ has_cut start n d

module _ {n : ℕ} {masks : List ℕ} {start seen next : ℕ} (A : Grown n masks start seen) (S : Spread n masks seen n next) where
  pub grown_next : Grown n masks start next
  unfolding mask_on
  grown_next = record { starts = λ d l h. S.keeps d (A.starts d l h); sound = λ d h. from d (S.only d h) }
    where
      from : (d : ℕ) → (has seen d ≡ true) ⊎ Pushed n masks seen n d → Reached n 0 has (mask_on masks) start d
      from d (inl h) = A.sound d h
      from d (inr p) = reach_step (A.sound p.from p.inside) (λ z. clash p.may (ap (λ (m : ℕ). has m d) z ∙ has_zero d)) (p.below, p.may)

  -- a sweep that adds nothing is the last
  pub grown_end : next ≡ seen → ReachedCores n masks start next
  unfolding mask_on
  grown_end e = rw e (record { only = A.sound; all = λ d R. ap (has seen) (sym R.ends) ∙ inside R })
    where
      closed : (c : ℕ) → has seen c ≡ true → (d : ℕ) → May n has (mask_on masks c) d → has seen d ≡ true
      closed c h d m =
          ap (λ (k : ℕ). has k d) (sym e) ∙ S.adds d (record { from = c; passed = reached_below (A.sound c h); inside = h; below = m.0; may = m.1 })

      inside : {d : ℕ} (R : Reached n 0 has (mask_on masks) start d) → has seen (last R.c R.p) ≡ true
      inside R = links_inside n 0 has (mask_on masks) (has seen) closed R.c R.p (A.starts R.c R.chain.start.0 R.chain.start.1) R.chain.links (last R.c R.p) (last_in R.c R.p)
