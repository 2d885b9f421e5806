-- A List text comes apart in one way: at its commas into items, and a range at its dash.
use Prim.Native.Nat.{ℕ, ◌<◌}
use mathlib.Core.Path.{◌≡◌, refl, sym, ap}
use mathlib.Core.Logic.{inl, inr, ◌≢◌}
use mathlib.Core.List.{List, [], ◌∷◌, map}
use native.Mathlib.Omega.{arith}
use lib.ListN.{length, length-append}
use Rattle.laws.specs.Lists.{In, All}
use Rattle.laws.proofs.Lists.{in_append}
use Rattle.texts.specs.Joined.{comma, dash, each_after}
use Rattle.texts.proofs.Joining.{Without, EachWithout, cut, in_middle, joined_same}
use Rattle.cpusets.specs.Characters.{IsDigit}
use Rattle.cpulists.specs.List.{IsNumber, Item, one, range, item_text, IsItem, list_text}

digits_without : (c : ℕ) → (IsDigit c → ⊥) → (d : List ℕ) → All IsDigit d → Without c d
digits_without c n [] h i = i
digits_without c n (x ∷ d) h (inl e) = n (rw e h.0)
digits_without c n (x ∷ d) h (inr i) = digits_without c n d h.1 i

no_dash : (d : List ℕ) → IsNumber d → Without dash d
no_dash d h = digits_without dash (λ x. omega (arith, x.0)) d h.digits

no_comma : (d : List ℕ) → IsNumber d → Without comma d
no_comma d h = digits_without comma (λ x. omega (arith, x.0)) d h.digits

item_without : (i : Item) → IsItem i → Without comma (item_text i)
item_without (one d) h = no_comma d h
item_without (range d e) h = λ j. elim (in_append comma d (dash ∷ e) j) [ inl k ↦ no_comma d h.0 k | inr k ↦ after k ]
  where
    after : In comma (dash ∷ e) → ⊥
    after (inl q) = omega (arith, q)
    after (inr k) = no_comma e h.1 k

each_without : (items : List Item) → All IsItem items → EachWithout comma (map item_text items)
each_without [] h = tt
each_without (i ∷ items) h = (item_without i h.0, each_without items h.1)

-- ---- an item's text is that of one item

item_same : (i j : Item) → IsItem i → IsItem j → item_text i ≡ item_text j → i ≡ j
item_same (one d) (one e) h k q = ap one q
item_same (one d) (range e f) h k q = absurd (no_dash d h (rw q (in_middle dash e f)))
item_same (range d e) (one f) h k q = absurd (no_dash f k (rw (← q) (in_middle dash d e)))
item_same (range d e) (range f g) h k q = let r = cut dash d f e g (no_dash d h.0) (no_dash f k.0) q in λ i. range (r.0 i) (r.1 i)

each_same : (xs ys : List Item) → All IsItem xs → All IsItem ys → map item_text xs ≡ map item_text ys → xs ≡ ys
each_same [] [] h k e = refl
each_same [] (y ∷ ys) h k e = absurd (omega (arith, ap length e))
each_same (x ∷ xs) [] h k e = absurd (omega (arith, ap length e))
each_same (x ∷ xs) (y ∷ ys) h k e =
    let first : item_text x ≡ item_text y = cc in
    let rest : map item_text xs ≡ map item_text ys = cc in
    λ i. item_same x y h.0 k.0 first i ∷ each_same xs ys h.1 k.1 rest i

pub some_text : (i : Item) → IsItem i → 0 < length (item_text i)
some_text (one d) h = h.some
some_text (range d e) h = omega (arith, length-append d (dash ∷ e))

not_empty : (i : Item) (items : List Item) → IsItem i → [] ≢ list_text (i ∷ items)
not_empty i items h e = omega (arith, ap length e, length-append (item_text i) (each_after comma (map item_text items)), some_text i h)

pub items_same : (xs ys : List Item) → All IsItem xs → All IsItem ys → list_text xs ≡ list_text ys → xs ≡ ys
items_same [] [] h k e = refl
items_same [] (y ∷ ys) h k e = absurd (not_empty y ys k.0 e)
items_same (x ∷ xs) [] h k e = absurd (not_empty x xs h.0 (sym e))
items_same (x ∷ xs) (y ∷ ys) h k e =
    each_same (x ∷ xs) (y ∷ ys) h k (joined_same comma (item_text x) (item_text y) (map item_text xs) (map item_text ys) (each_without (x ∷ xs) h) (each_without (y ∷ ys) k) e)
