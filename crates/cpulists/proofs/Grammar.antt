-- What a List text can go on with, character by character: a walk through five states tells which beginnings no List text has.
use Prim.Native.Nat.{ℕ, ◌<◌}
use mathlib.Core.Path.{◌≡◌, refl, sym, ap, subst, ◌∙◌}
use mathlib.Core.Logic.{◌⊎◌, inl, inr, ◌≢◌}
use mathlib.Core.Bool.{Bool, true, false, cond, ◌&&◌}
use mathlib.Core.List.{List, [], ◌∷◌, ◌++◌, append-nil}
use native.Mathlib.Omega.{arith}
use lib.Dec.{eqb, leb}
use lib.ListN.{length}
use Rattle.laws.specs.Lists.{All}
use Rattle.laws.proofs.Deciding.{decides_and, decides_le, clash, cases}
use Rattle.laws.proofs.Testing.{eqb_false}
use Rattle.texts.specs.Joined.{comma, dash}
use Rattle.cpusets.specs.Characters.{IsDigit}
use Rattle.cpusets.specs.Faults.{Begins}
use Rattle.cpulists.specs.List.{IsNumber, Item, one, range, item_text, IsItem, list_text, IsListText}
use Rattle.cpulists.specs.Progress.{followed}

-- a number has to begin; in a number; a range's second number has to begin; in it; no List text begins so
pub data State : Type 0 where
  wants : State
  first : State
  joins : State
  second : State
  dead : State

unfoldable pub is_digit : ℕ → Bool
is_digit c = leb 48 c && leb c 57

unfoldable pub next : State → ℕ → State
next wants c = cond (is_digit c) first dead
next first c = cond (is_digit c) first (cond (eqb c dash) joins (cond (eqb c comma) wants dead))
next joins c = cond (is_digit c) second dead
next second c = cond (is_digit c) second (cond (eqb c comma) wants dead)
next dead c = dead

abbrev pub walk : State → List ℕ → State
walk q [] = q
walk q (c ∷ t) = walk (next q c) t

pub walk_append : (q : State) (s t : List ℕ) → walk q (s ++ t) ≡ walk (walk q s) t
walk_append q [] t = refl
walk_append q (c ∷ s) t = walk_append (next q c) s t

pub walk_dead : (t : List ℕ) → walk dead t ≡ dead
unfolding next
walk_dead [] = refl
walk_dead (c ∷ t) = walk_dead t

is_digit_lem : {c : ℕ} → IsDigit c → is_digit c ≡ true
unfolding is_digit
is_digit_lem {c} d = go (cases (leb 48 c && leb c 57))
  where
    go : (leb 48 c && leb c 57 ≡ true) ⊎ (leb 48 c && leb c 57 ≡ false) → leb 48 c && leb c 57 ≡ true
    go (inl y) = y
    go (inr y) = absurd ((decides_and (decides_le 48 c) (decides_le c 57)).no y d)

no_digit : {c : ℕ} → (IsDigit c → ⊥) → is_digit c ≡ false
unfolding is_digit
no_digit {c} n = go (cases (leb 48 c && leb c 57))
  where
    go : (leb 48 c && leb c 57 ≡ true) ⊎ (leb 48 c && leb c 57 ≡ false) → leb 48 c && leb c 57 ≡ false
    go (inl y) = absurd (n ((decides_and (decides_le 48 c) (decides_le c 57)).yes y))
    go (inr y) = y

-- ---- one character

pub digit_begins : {c : ℕ} → IsDigit c → next wants c ≡ first
unfolding next
digit_begins d = rw (is_digit_lem d)

digit_goes_on : {c : ℕ} → IsDigit c → (next first c ≡ first) × (next second c ≡ second)
unfolding next
digit_goes_on d = (rw (is_digit_lem d), rw (is_digit_lem d))

digit_joins : {c : ℕ} → IsDigit c → next joins c ≡ second
unfolding next
digit_joins d = rw (is_digit_lem d)

pub wants_digit : {c : ℕ} → (IsDigit c → ⊥) → (next wants c ≡ dead) × (next joins c ≡ dead)
unfolding next
wants_digit n = (rw (no_digit n), rw (no_digit n))

pub first_ends : {c : ℕ} → (IsDigit c → ⊥) → c ≢ dash → c ≢ comma → next first c ≡ dead
unfolding next
first_ends {c} n d m = rw (no_digit n, eqb_false d, eqb_false m)

pub second_ends : {c : ℕ} → (IsDigit c → ⊥) → c ≢ comma → next second c ≡ dead
unfolding next
second_ends {c} n m = rw (no_digit n, eqb_false m)

-- ---- a number, an item, items

first_digits : (d : List ℕ) → All IsDigit d → walk first d ≡ first
first_digits [] h = refl
first_digits (c ∷ d) h = rw (digit_goes_on h.0).0 (first_digits d h.1)

second_digits : (d : List ℕ) → All IsDigit d → walk second d ≡ second
second_digits [] h = refl
second_digits (c ∷ d) h = rw (digit_goes_on h.0).1 (second_digits d h.1)

pub walk_number : (d : List ℕ) → IsNumber d → (walk wants d ≡ first) × (walk joins d ≡ second)
walk_number [] h = absurd (omega (arith, h.some))
walk_number (c ∷ d) h = (rw (digit_begins h.digits.0) (first_digits d h.digits.1), rw (digit_joins h.digits.0) (second_digits d h.digits.1))

-- in which state an item ends
abbrev pub after : Item → State
after (one d) = first
after (range d e) = second

dash_joins : next first dash ≡ joins
unfolding next is_digit
dash_joins = refl

pub walk_half : (d : List ℕ) → IsNumber d → walk wants (d ++ (dash ∷ [])) ≡ joins
walk_half d h = walk_append wants d (dash ∷ []) ∙ rw (walk_number d h).0 dash_joins

pub walk_item : (i : Item) → IsItem i → walk wants (item_text i) ≡ after i
walk_item (one d) h = (walk_number d h).0
walk_item (range d e) h = walk_append wants d (dash ∷ e) ∙ rw ((walk_number d h.0).0, dash_joins) (walk_number e h.1).1

comma_wants : (i : Item) → next (after i) comma ≡ wants
unfolding next is_digit
comma_wants (one d) = refl
comma_wants (range d e) = refl

walk_comma : (i : Item) (t : List ℕ) → IsItem i → walk wants (item_text i ++ (comma ∷ t)) ≡ walk wants t
walk_comma i t h = walk_append wants (item_text i) (comma ∷ t) ∙ ap (λ (q : State). walk (next q comma) t) (walk_item i h) ∙ ap (λ (q : State). walk q t) (comma_wants i)

pub walk_followed : (items : List Item) → All IsItem items → walk wants (followed items) ≡ wants
walk_followed [] h = refl
walk_followed (i ∷ items) h = walk_comma i (followed items) h.0 ∙ walk_followed items h.1

abbrev pub Ended : State → Type 0
Ended q = (q ≡ first) ⊎ (q ≡ second)

item_ends : (i : Item) → Ended (after i)
item_ends (one d) = inl refl
item_ends (range d e) = inr refl

walk_list : (i : Item) (items : List Item) → All IsItem (i ∷ items) → Ended (walk wants (list_text (i ∷ items)))
walk_list i [] h = rw (append-nil (item_text i), walk_item i h.0) (item_ends i)
walk_list i (j ∷ items) h = subst Ended (sym (walk_comma i (list_text (j ∷ items)) h.0)) (walk_list j items h.1)

-- ---- a List text that is not empty ends in a number

pub ends_in_number : (t : List ℕ) → IsListText t → 0 < length t → Ended (walk wants t)
ends_in_number t f l = go f.items f.each f.is
  where
    go : (items : List Item) → All IsItem items → t ≡ list_text items → Ended (walk wants t)
    go [] h e = absurd (omega (arith, ap length e))
    go (i ∷ items) h e = rw e (walk_list i items h)

is_dead : State → Bool
is_dead wants = false
is_dead first = false
is_dead joins = false
is_dead second = false
is_dead dead = true

not_ended : (q : State) → is_dead q ≡ true → Ended q → ⊥
unfolding is_dead
not_ended q y (inl e) = clash y (ap is_dead e)
not_ended q y (inr e) = clash y (ap is_dead e)

pub dead_begins : (p : List ℕ) → walk wants p ≡ dead → Begins IsListText p → ⊥
unfolding is_dead
dead_begins [] e b = clash {b = false} (ap is_dead e) refl
dead_begins (c ∷ p) e b = not_ended dead refl (rw (walk_append wants (c ∷ p) b.rest, e, walk_dead b.rest) at (ends_in_number ((c ∷ p) ++ b.rest) b.whole (omega arith)))

-- a text that ends where a number has to begin is none, unless it is empty
is_open : State → Bool
is_open wants = true
is_open first = false
is_open joins = true
is_open second = false
is_open dead = false

pub open_none : (t : List ℕ) → 0 < length t → (walk wants t ≡ wants) ⊎ (walk wants t ≡ joins) → IsListText t → ⊥
unfolding is_open
open_none t l h f = go h (ends_in_number t f l)
  where
    go : (walk wants t ≡ wants) ⊎ (walk wants t ≡ joins) → Ended (walk wants t) → ⊥
    go (inl a) (inl b) = clash {b = true} refl (ap is_open (sym a ∙ b))
    go (inl a) (inr b) = clash {b = true} refl (ap is_open (sym a ∙ b))
    go (inr a) (inl b) = clash {b = true} refl (ap is_open (sym a ∙ b))
    go (inr a) (inr b) = clash {b = true} refl (ap is_open (sym a ∙ b))
