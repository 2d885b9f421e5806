-- What is said: its pieces one after the other, and how long it is.
use Prim.Native.Nat.{ℕ, ◌+◌, ◌^◌, ◌≤◌, ◌<◌}
use mathlib.Core.Path.{◌≡◌, refl, sym, ◌∙◌}
use mathlib.Core.List.{List, [], ◌∷◌, ◌++◌, append_assoc, append-nil}
use native.Mathlib.Omega.{arith}
use lib.ListN.{length, length-append}
use Rattle.std.specs.Prelude.{Option, Some, None, IfSome}
use Rattle.texts.specs.Joined.{newline, space, comma}
use Rattle.decimals.specs.Decimal.{decimal}
use Rattle.decimals.proofs.Spelling.{decimal_length}
use Rattle.bench.specs.declared.Difference.{Difference}
use Rattle.bench.specs.declared.Tally.{Tally}
use Rattle.bench.specs.Text.{agree_word, differ_word, of_word, first_word, difference_word, line_word, slot_word, place_text, verdict_text, last_with, last_text}

-- ---- after a line, and at the end: the pieces, put one after the other

place_pieces : (d : Difference) → place_text d ≡ ((line_word ++ (space ∷ [])) ++ decimal d.line) ++ ((space ∷ slot_word ++ (space ∷ [])) ++ decimal d.slot)
place_pieces d = simp (append_assoc, append-nil)

difference_pieces : (agree lines : ℕ) (d : Difference)
    → last_with agree lines (Some d)
    ≡ ((agree_word ++ (space ∷ [])) ++ decimal agree)
    ++ (((space ∷ of_word ++ (space ∷ [])) ++ decimal lines)
    ++ ((comma ∷ space ∷ first_word ++ (space ∷ difference_word ++ (space ∷ []))) ++ (place_text d ++ (newline ∷ []))))
difference_pieces agree lines d = simp (append_assoc, append-nil)

pub differ_put : (slot : ℕ) {t0 t1 t2 all : List ℕ} → t0 ≡ [] → t1 ≡ t0 ++ (differ_word ++ (space ∷ [])) → t2 ≡ t1 ++ decimal slot → all ≡ t2 ++ (newline ∷ []) → all ≡ verdict_text (Some slot)
differ_put slot a b c d = simp (d, c, b, a, append_assoc, append-nil)

pub agree_put : (agree lines : ℕ) {t0 t1 t2 all : List ℕ} → t0 ≡ [] → t1 ≡ t0 ++ (agree_word ++ (space ∷ [])) → t2 ≡ t1 ++ decimal agree → all ≡ t2 ++ (newline ∷ []) → all ≡ last_with agree lines None
agree_put agree lines a b c d = simp (d, c, b, a, append_assoc, append-nil)

pub place_put : (d : Difference) {t0 t1 t2 t3 all : List ℕ} → t0 ≡ [] → t1 ≡ t0 ++ (line_word ++ (space ∷ [])) → t2 ≡ t1 ++ decimal d.line → t3 ≡ t2 ++ (space ∷ slot_word ++ (space ∷ [])) → all ≡ t3 ++ decimal d.slot → all ≡ place_text d
place_put d a b c e f = simp (f, e, c, b, a, place_pieces, append_assoc)

one_after_the_other : (p1 p2 p3 p4 p5 p6 p7 : List ℕ) {t0 t1 t2 t3 t4 t5 t6 all : List ℕ} → t0 ≡ [] → t1 ≡ t0 ++ p1 → t2 ≡ t1 ++ p2 → t3 ≡ t2 ++ p3 → t4 ≡ t3 ++ p4 → t5 ≡ t4 ++ p5 → t6 ≡ t5 ++ p6 → all ≡ t6 ++ p7
    → all ≡ (p1 ++ p2) ++ ((p3 ++ p4) ++ (p5 ++ (p6 ++ p7)))
one_after_the_other p1 p2 p3 p4 p5 p6 p7 a b c e f g h i = simp (i, h, g, f, e, c, b, a, append_assoc)

pub difference_put : (agree lines : ℕ) (d : Difference) {t0 t1 t2 t3 t4 t5 t6 all : List ℕ} → t0 ≡ [] → t1 ≡ t0 ++ (agree_word ++ (space ∷ [])) → t2 ≡ t1 ++ decimal agree
    → t3 ≡ t2 ++ (space ∷ of_word ++ (space ∷ [])) → t4 ≡ t3 ++ decimal lines → t5 ≡ t4 ++ (comma ∷ space ∷ first_word ++ (space ∷ difference_word ++ (space ∷ [])))
    → t6 ≡ t5 ++ place_text d → all ≡ t6 ++ (newline ∷ []) → all ≡ last_with agree lines (Some d)
difference_put agree lines d a b c e f g h i =
    one_after_the_other (agree_word ++ (space ∷ [])) (decimal agree) (space ∷ of_word ++ (space ∷ [])) (decimal lines) (comma ∷ space ∷ first_word ++ (space ∷ difference_word ++ (space ∷ []))) (place_text d) (newline ∷ []) a b c e f g h i ∙ sym (difference_pieces agree lines d)

-- ---- how long the texts are

-- a number of a day, and a slot
pub number_longest : (n : ℕ) → n < 2 ^ 64 → length (decimal n) ≤ 20
number_longest n l = decimal_length 20 n (omega arith) (omega arith)

pub slot_longest : (n : ℕ) → n < 2 ^ 16 → length (decimal n) ≤ 5
slot_longest n l = decimal_length 5 n (omega arith) (omega arith)

pub differ_length : (slot : ℕ) → length (verdict_text (Some slot)) ≡ 8 + length (decimal slot)
differ_length slot = simp append-nil (omega (arith, length-append (decimal slot) (newline ∷ [])))

pub verdict_longest : (differs : Option ℕ) → IfSome differs (λ slot. slot < 2 ^ 16) → length (verdict_text differs) ≤ 13
verdict_longest None l = omega arith
verdict_longest (Some slot) l = simp append-nil (omega (arith, length-append (decimal slot) (newline ∷ []), slot_longest slot (omega arith)))

last_with_longest : (agree lines : ℕ) (first : Option Difference) → agree < 2 ^ 64 → lines < 2 ^ 64 → IfSome first (λ d. (d.line < 2 ^ 64) × (d.slot < 2 ^ 16))
    → length (last_with agree lines first) ≤ 106
last_with_longest agree lines None a b l = simp append-nil (omega (arith, length-append (decimal agree) (newline ∷ []), number_longest agree a))
last_with_longest agree lines (Some d) a b l =
    simp (append_assoc, append-nil)
    (simp length-append
    (omega (arith, number_longest agree a, number_longest lines b, number_longest d.line l.0, slot_longest d.slot l.1)))

pub last_longest : (t : Tally) (lines : ℕ) → t.agree < 2 ^ 64 → lines < 2 ^ 64 → IfSome t.first (λ d. (d.line < 2 ^ 64) × (d.slot < 2 ^ 16)) → length (last_text t lines) ≤ 106
last_longest t lines = last_with_longest t.agree lines t.first

module _ (t : Tally) (lines : ℕ) where
  pub last_agree_length : t.first ≡ None → length (last_text t lines) ≡ 7 + length (decimal t.agree)
  last_agree_length e = rw e (simp append-nil (omega (arith, length-append (decimal t.agree) (newline ∷ []))))

  pub last_differ_length : (d : Difference) → t.first ≡ Some d
      → length (last_text t lines) ≡ 41 + (length (decimal t.agree) + length (decimal lines) + length (decimal d.line) + length (decimal d.slot))
  last_differ_length d e = rw e (simp (append_assoc, append-nil) (simp length-append (omega arith)))

  pub last_begins : 6 + length (decimal t.agree) ≤ length (last_text t lines)
  last_begins = go t.first refl
    where
      go : (f : Option Difference) → t.first ≡ f → 6 + length (decimal t.agree) ≤ length (last_text t lines)
      go None e = omega (arith, last_agree_length e)
      go (Some d) e = omega (arith, last_differ_length d e)
