-- Which of two slots stands earlier in a list: the first of the two that is found there.
use Rattle.std.proofs.Common.{◌≡◌, ℕ, ◌<◌, Bool, true, false, not, ◌||◌, List, [], ◌∷◌, Option, Some, None, option_map, eqb, find, ◌⊎◌, inl, inr, arith}
use Rattle.laws.specs.Decides.{Decides}
use Rattle.laws.proofs.Deciding.{cases, decides_true, decides_false, decides_by}
use Rattle.order.specs.ComesBefore.{place_in}

-- a slot is found that is not u
abbrev pub other_found : ℕ → Option ℕ → Bool
other_found u None = false
other_found u (Some h) = not (eqb h u)

found_earlier : (l : List ℕ) (t u : ℕ) → Decides (place_in l t < place_in l u) (other_found u (find (λ h. eqb h t || eqb h u) l))
found_earlier [] t u = decides_false (λ l. absurd (omega arith))
found_earlier (h ∷ l) t u = go (cases (eqb h t)) (cases (eqb h u)) (found_earlier l t u)
  where
    go : (eqb h t ≡ true) ⊎ (eqb h t ≡ false) → (eqb h u ≡ true) ⊎ (eqb h u ≡ false) → Decides (place_in l t < place_in l u) (other_found u (find (λ k. eqb k t || eqb k u) l))
        → Decides (place_in (h ∷ l) t < place_in (h ∷ l) u) (other_found u (find (λ k. eqb k t || eqb k u) (h ∷ l)))
    go (inl a) (inl b) d = rw (a, b) (decides_false (λ l. absurd (omega arith)))
    go (inl a) (inr b) d = rw (a, b) (decides_true (omega arith))
    go (inr a) (inl b) d = rw (a, b) (rw b (decides_false (λ l. absurd (omega arith))))
    go (inr a) (inr b) d = rw (a, b) (decides_by (λ l. omega arith) (λ l. omega arith) d)

-- by what a `find` over the list gives
pub found_tells : (l : List ℕ) (t u : ℕ) {X : Type 0} (now : X → ℕ) (r : Option X) → option_map now r ≡ find (λ h. eqb h t || eqb h u) l → Decides (place_in l t < place_in l u) (other_found u (option_map now r))
found_tells l t u now r e = rw e (found_earlier l t u)
