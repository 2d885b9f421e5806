-- A beginning in which each place is as it should be can be filled up to a whole text.
use Prim.Native.Nat.{ℕ, zero, suc, ◌+◌, ◌-◌, ◌%◌, ◌≤◌, ◌<◌}
use mathlib.Core.Path.{◌≡◌, refl, sym, ap, subst, ◌∙◌}
use mathlib.Core.Logic.{inl}
use mathlib.Core.Bool.{cond}
use mathlib.Core.List.{List, [], ◌∷◌, ◌++◌}
use native.Mathlib.Decide.{dec_lt}
use native.Mathlib.Omega.{arith}
use lib.Dec.{eqb}
use lib.ListN.{length, take, length-append, get_or-append}
use lib.Seq.{length-take-le, get_or-append-add, get_or-take}
use borrow.Author.Tests.{eq-eqb, ne_eqb}
use Rattle.texts.specs.Joined.{comma}
use Rattle.cpusets.specs.Characters.{character}
use Rattle.cpusets.specs.Faults.{Begins}
use Rattle.cpumasks.specs.Mask.{IsHex, mask_size, IsPlaced, IsMaskText}

-- ---- a text made place by place

-- the characters of so many places from o on
pub made : (ℕ → ℕ) → ℕ → ℕ → List ℕ
made f o zero = []
made f o (suc n) = f o ∷ made f (o + 1) n

pub made_length : (f : ℕ → ℕ) (o n : ℕ) → length (made f o n) ≡ n
unfolding made
made_length f o zero = refl
made_length f o (suc n) = ap suc (made_length f (o + 1) n)

pub made_at : (f : ℕ → ℕ) (o n i : ℕ) → i < n → character (made f o n) i ≡ f (o + i)
unfolding made
made_at f o zero i l = absurd (omega arith)
made_at f o (suc n) zero l = ap f (omega arith)
made_at f o (suc n) (suc i) l = made_at f (o + 1) n i (omega arith) ∙ ap f (omega arith)

-- ---- places

pub placed_same : {t u : List ℕ} (o : ℕ) → character t o ≡ character u o → IsPlaced t o → IsPlaced u o
placed_same o e p = record { comma_there = λ h. sym e ∙ p.comma_there h; digit_there = λ h. subst IsHex e (p.digit_there h) }

-- the text of the empty set
blank : ℕ → ℕ
blank o = cond (eqb (o % 9) 8) comma 48

blank_placed : {t : List ℕ} (o : ℕ) → character t o ≡ blank o → IsPlaced t o
unfolding blank
blank_placed {t} o e = record {
  comma_there = λ h. e ∙ rw (eq-eqb (o % 9) 8 h);
  digit_there = λ n. rw (e, ne_eqb (o % 9) 8 n) (inl (omega arith, omega arith));
}

module _ (words at : ℕ) (t : List ℕ) (within : at ≤ length t) (fits : at ≤ mask_size words) (each : (o : ℕ) → o < at → IsPlaced t o) where
  abbrev rest : List ℕ
  rest = made blank at (mask_size words - at)

  front : length (take at t) ≡ at
  front = length-take-le at t within

  filled : (o : ℕ) → o < mask_size words → Dec (o < at) → IsPlaced (take at t ++ rest) o
  filled o l (yes k) = placed_same o (sym (get_or-append (take at t) rest 0 o (omega (arith, front)) ∙ get_or-take at t o 0 k)) (each o k)
  filled o l (no k) = blank_placed o (at_rest (o - at) (omega (arith, front)) ∙ made_at blank at (mask_size words - at) (o - at) (omega arith) ∙ ap blank (omega arith))
    where
      at_rest : (i : ℕ) → o ≡ length (take at t) + i → character (take at t ++ rest) o ≡ character rest i
      at_rest i e = rw e (get_or-append-add (take at t) rest i 0)

  pub begins_placed : Begins (IsMaskText words) (take at t)
  begins_placed = record {
    rest = rest;
    whole = record {
      whole = length-append (take at t) rest ∙ omega (arith, front, made_length blank at (mask_size words - at));
      each = λ o l. filled o l (dec_lt o at);
    };
  }

-- and only such a beginning can
pub begun_placed : {words at : ℕ} {t : List ℕ} → at < length t → Begins (IsMaskText words) (take (at + 1) t) → (at < mask_size words) × IsPlaced t at
begun_placed {words} {at} {t} l b = (inside, placed_same at same (b.whole.each at inside))
  where
    front : length (take (at + 1) t) ≡ at + 1
    front = length-take-le (at + 1) t (omega arith)

    inside : at < mask_size words
    inside = omega (arith, front, length-append (take (at + 1) t) b.rest, b.whole.whole)

    same : character (take (at + 1) t ++ b.rest) at ≡ character t at
    same = get_or-append (take (at + 1) t) b.rest 0 at (omega (arith, front)) ∙ get_or-take (at + 1) t at 0 (omega arith)
