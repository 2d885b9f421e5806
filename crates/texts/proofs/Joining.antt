-- Texts joined by a character that stands in none of them come apart in one way: at the first place of that character, again and again.
use Prim.Native.Nat.{ℕ}
use mathlib.Core.Path.{◌≡◌, refl, sym, ◌∙◌}
use mathlib.Core.Logic.{◌≢◌, inl, inr}
use mathlib.Core.List.{List, [], ◌∷◌, ◌++◌, append-nil}
use Rattle.laws.specs.Lists.{In, All}
use Rattle.laws.proofs.Lists.{in_append}
use Rattle.texts.specs.Joined.{each_after, joined}

abbrev pub Without : ℕ → List ℕ → Type 0
Without c t = In c t → ⊥

abbrev pub EachWithout : ℕ → List (List ℕ) → Type 0
EachWithout c ts = All (Without c) ts

-- a character that stands in neither text parts what comes before it from what comes after it
pub cut : (c : ℕ) (x y x' y' : List ℕ) → Without c x → Without c y → x ++ (c ∷ x') ≡ y ++ (c ∷ y') → (x ≡ y) × (x' ≡ y')
cut c [] [] x' y' v w e = (refl, cc)
cut c [] (d ∷ y) x' y' v w e = absurd (w (inl (cc)))
cut c (d ∷ x) [] x' y' v w e = absurd (v (inl (cc)))
cut c (d ∷ x) (b ∷ y) x' y' v w e = let r = cut c x y x' y' (λ i. v (inr i)) (λ i. w (inr i)) (cc) in (cc, r.1)

pub in_middle : (c : ℕ) (x y : List ℕ) → In c (x ++ (c ∷ y))
in_middle c [] y = inl refl
in_middle c (d ∷ x) y = inr (in_middle c x y)

no_cut : (c : ℕ) (t x y : List ℕ) → Without c t → t ++ [] ≡ x ++ (c ∷ y) → ⊥
no_cut c t x y v e = v (rw (sym (append-nil t) ∙ e) (in_middle c x y))

-- as many texts, and the same
pub joined_same : (c : ℕ) (t u : List ℕ) (ts us : List (List ℕ)) → EachWithout c (t ∷ ts) → EachWithout c (u ∷ us)
    → joined c (t ∷ ts) ≡ joined c (u ∷ us) → t ∷ ts ≡ u ∷ us
joined_same c t u [] [] v w e = λ i. (sym (append-nil t) ∙ e ∙ append-nil u) i ∷ []
joined_same c t u [] (y ∷ us) v w e = absurd (no_cut c t u (joined c (y ∷ us)) v.0 e)
joined_same c t u (x ∷ ts) [] v w e = absurd (no_cut c u t (joined c (x ∷ ts)) w.0 (sym e))
joined_same c t u (x ∷ ts) (y ∷ us) v w e =
    let r = cut c t u (joined c (x ∷ ts)) (joined c (y ∷ us)) v.0 w.0 e in
    λ i. r.0 i ∷ joined_same c x y ts us v.1 w.1 r.1 i

-- ---- no other character comes in by the joining

each_without : (c d : ℕ) (ts : List (List ℕ)) → c ≢ d → EachWithout c ts → Without c (each_after d ts)
each_without c d [] n w i = i
each_without c d (t ∷ ts) n w (inl e) = n e
each_without c d (t ∷ ts) n w (inr i) = elim (in_append c t (each_after d ts) i) [ inl j ↦ w.0 j | inr j ↦ each_without c d ts n w.1 j ]

pub joined_without : (c d : ℕ) (ts : List (List ℕ)) → c ≢ d → EachWithout c ts → Without c (joined d ts)
joined_without c d [] n w i = i
joined_without c d (t ∷ ts) n w i = each_without c d (t ∷ ts) n w (inr i)
