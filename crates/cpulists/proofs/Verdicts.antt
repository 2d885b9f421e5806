-- The reader's verdicts: each fault where it is met, with all before it in order; and how a text is read one item further.
use Prim.Native.Nat.{ℕ, ◌+◌, ◌≤◌, ◌<◌}
use mathlib.Core.Path.{◌≡◌, refl, sym, ap, ◌∙◌}
use mathlib.Core.Logic.{◌⊎◌, inl, inr, ◌≢◌}
use mathlib.Core.List.{List, [], ◌∷◌, ◌++◌, append_assoc, append-nil}
use native.Mathlib.Decide.{dec_lt}
use native.Mathlib.Numerals.{add-one}
use native.Mathlib.Omega.{arith}
use lib.ListN.{length, take, drop}
use lib.Seq.{take-suc, take-add, take_all}
use Rattle.laws.specs.Answering.{Applies}
use Rattle.laws.specs.Lists.{All}
use Rattle.laws.proofs.Lists.{all_append}
use Rattle.decimals.specs.Decimal.{value}
use Rattle.texts.specs.Joined.{comma, dash}
use Rattle.cpusets.specs.Characters.{character, IsDigit}
use Rattle.cpusets.specs.Faults.{Begins, IsUnexpected, FirstFault}
use Rattle.cpusets.proofs.Beginning.{begins_front, begins_part, expected, first_fault}
use Rattle.cpulists.specs.List.{IsNumber, Item, one, range, item_text, IsItem, list_text, IsListText}
use Rattle.cpulists.specs.Faults.{NumberAt, RunsBackward, IsAbove, list_faults}
use Rattle.cpulists.specs.Progress.{followed, Opens, ItemAt, Wants}
use Rattle.cpulists.proofs.Numbers.{past_end}
use Rattle.cpulists.proofs.Places.{first_digit, Clear, not_above, backward_from}
use Rattle.cpulists.proofs.Passing.{comma_number, dash_number, comma_forward, pass_first, pass_item, opens_clear, legal_items, rest_split}
use Rattle.cpulists.proofs.Grammar.{State, wants, joins, dead, next, walk, walk_append, walk_followed, walk_half, walk_item, after, wants_digit, first_ends, second_ends, dead_begins, open_none}

-- ---- one item more

pub followed_then : (items : List Item) (i : Item) → list_text (items ++ (i ∷ [])) ≡ followed items ++ item_text i
followed_then [] i = append-nil (item_text i)
followed_then (j ∷ []) i = ap (λ (x : List ℕ). item_text j ++ (comma ∷ x)) (followed_then [] i) ∙ sym (append_assoc (item_text j) (comma ∷ []) (item_text i))
followed_then (j ∷ k ∷ items) i = ap (λ (x : List ℕ). item_text j ++ (comma ∷ x)) (followed_then (k ∷ items) i) ∙ sym (append_assoc (item_text j) (comma ∷ followed (k ∷ items)) (item_text i))

followed_more : (items : List Item) (i : Item) → followed (items ++ (i ∷ [])) ≡ followed items ++ (item_text i ++ (comma ∷ []))
followed_more [] i = refl
followed_more (j ∷ items) i = ap (λ (x : List ℕ). item_text j ++ (comma ∷ x)) (followed_more items i) ∙ sym (append_assoc (item_text j) (comma ∷ followed items) (item_text i ++ (comma ∷ [])))

begins_item : (items : List Item) (i : Item) → All IsItem items → IsItem i → Begins IsListText (followed items ++ item_text i)
begins_item items i h k = record {
  rest = [];
  whole = record { items = items ++ (i ∷ []); each = all_append IsItem items (i ∷ []) h (k, tt); is = append-nil (followed items ++ item_text i) ∙ sym (followed_then items i) };
}

-- one character more
take_more : (t : List ℕ) (o : ℕ) → o < length t → take (o + 1) t ≡ take o t ++ (character t o ∷ [])
take_more t o l = rw (add-one o) (take-suc t o 0 l)

-- what stands at a place follows what stands before it
take_on : (t x : List ℕ) (o : ℕ) → take (length x) (drop o t) ≡ x → take (o + length x) t ≡ take o t ++ x
take_on t x o e = take-add o (length x) t ∙ ap (λ (y : List ℕ). take o t ++ y) e

-- ---- the three faults

-- no List text goes on so
none_begins : (t : List ℕ) (o : ℕ) (q : State) → walk wants (take o t) ≡ q → next q (character t o) ≡ dead → o < length t → Begins IsListText (take (o + 1) t) → ⊥
none_begins t o q w d l b = dead_begins (take (o + 1) t) (ap (walk wants) (take_more t o l) ∙ walk_append wants (take o t) (character t o ∷ []) ∙ ap (λ (p : State). next p (character t o)) w ∙ d) b

-- the first digit of a number is as it should be
digit_expected : {t : List ℕ} {o : ℕ} → Begins IsListText (take (o + 1) t) → o < length t → IsUnexpected IsListText t o → ⊥
digit_expected {o = o} b l u = omega (arith, expected (o + 1) (omega arith) b u)

module _ {n : ℕ} {t : List ℕ} {o : ℕ} where
  -- no fault stands before a place up to which all is in order
  earliest : Clear n t o → o ≤ length t → Begins IsListText (take o t) → (m p : ℕ) → Applies (list_faults n t p) m → o ≤ p
  earliest c l b m p (inl (e, u)) = expected o l b u
  earliest c l b m p (inr (inl (e, r))) = c.backward p r
  earliest c l b m p (inr (inr (inl (e, r)))) = c.above p r
  earliest c l b m p (inr (inr (inr x))) = absurd x

  pub first_17 : Clear n t o → o ≤ length t → (IsDigit (character t o) → ⊥) → IsUnexpected IsListText t o → FirstFault (list_faults n t) 17 o
  first_17 c l d u = first_fault (inl (refl, u)) (earliest c l u.before) only
    where
      only : (m : ℕ) → Applies (list_faults n t o) m → 17 ≡ m
      only m (inl (e, v)) = sym e
      only m (inr (inl (e, r))) = absurd (d (first_digit r.to))
      only m (inr (inr (inl (e, r)))) = absurd (d (first_digit r.there))
      only m (inr (inr (inr x))) = absurd x

  pub first_18 : Clear n t o → o < length t → Begins IsListText (take (o + 1) t) → RunsBackward t o → (IsAbove n t o → ⊥) → FirstFault (list_faults n t) 18 o
  first_18 c l b r v = first_fault (inr (inl (refl, r))) (earliest c (omega arith) (begins_part o (o + 1) t (omega arith) b)) only
    where
      only : (m : ℕ) → Applies (list_faults n t o) m → 18 ≡ m
      only m (inl (e, u)) = absurd (digit_expected b l u)
      only m (inr (inl (e, s))) = sym e
      only m (inr (inr (inl (e, s)))) = absurd (v s)
      only m (inr (inr (inr x))) = absurd x

  pub first_19 : Clear n t o → o < length t → Begins IsListText (take (o + 1) t) → IsAbove n t o → (RunsBackward t o → ⊥) → FirstFault (list_faults n t) 19 o
  first_19 c l b v r = first_fault (inr (inr (inl (refl, v)))) (earliest c (omega arith) (begins_part o (o + 1) t (omega arith) b)) only
    where
      only : (m : ℕ) → Applies (list_faults n t o) m → 19 ≡ m
      only m (inl (e, u)) = absurd (digit_expected b l u)
      only m (inr (inl (e, s))) = absurd (r s)
      only m (inr (inr (inl (e, s)))) = sym e
      only m (inr (inr (inr x))) = absurd x

-- ---- where an item has to begin

abbrev zero : List ℕ
zero = 48 ∷ []

digit_number : {c : ℕ} → IsDigit c → IsNumber (c ∷ [])
digit_number d = record { some = omega arith; digits = (d, tt) }

module _ {n : ℕ} {t : List ℕ} {at : ℕ} (O : Opens n t at) where
  items_right : All IsItem O.items
  items_right = legal_items n O.items O.legal

  walk_opens : walk wants (take at t) ≡ wants
  walk_opens = ap (walk wants) O.is ∙ walk_followed O.items items_right

  begins_opens : Begins IsListText (take at t)
  begins_opens = begins_front (take at t) zero (rw O.is (begins_item O.items (one zero) items_right (digit_number (omega arith, omega arith))))

  begins_digit : at < length t → IsDigit (character t at) → Begins IsListText (take (at + 1) t)
  begins_digit l d = rw (take_more t at l, O.is) (begins_item O.items (one (character t at ∷ [])) items_right (digit_number d))

  -- no number there
  pub no_number : at < length t → (IsDigit (character t at) → ⊥) → FirstFault (list_faults n t) 17 at
  no_number l d = first_17 (opens_clear O).0 O.within d (record { before = begins_opens; here = inl (l, none_begins t at wants walk_opens (wants_digit d).0 l) })

  -- the text ends there
  pub no_item : at ≡ length t → 0 < at → FirstFault (list_faults n t) 17 at
  no_item e l =
      first_17 (opens_clear O).0 O.within (past_end t at (omega arith)) (record { before = begins_opens; here = inr (e, open_none t (omega arith) (inl (ap (walk wants) (sym (take_all at t (omega arith))) ∙ walk_opens))) })

  pub number_above : {d : List ℕ} → at < length t → NumberAt t at d → n ≤ value d → FirstFault (list_faults n t) 19 at
  number_above {d} l a v = first_19 (opens_clear O).0 l (begins_digit l (first_digit a)) (record { number = d; there = a; above = v }) (comma_forward (opens_clear O).1)

  -- so that a number has to begin there
  pub opens_wants : at < length t → Wants n t at
  opens_wants l = record { within = O.within; begins = comma_number (opens_clear O).1; missing = no_number l; high = λ d. number_above l }

-- ---- after a number and its dash

-- a range of which the first number and the dash are read
pub record HalfRead (n : ℕ) (t : List ℕ) (start first at : ℕ) : Type 0 where
  pub opens : Opens n t start
  pub digits : List ℕ
  pub there : NumberAt t start digits
  pub told : first ≡ value digits
  pub below : first < n
  pub joint : character t (start + length digits) ≡ dash
  pub next : at ≡ start + length digits + 1
  pub within : at ≤ length t

module _ {n : ℕ} {t : List ℕ} {start first at : ℕ} (H : HalfRead n t start first at) where
  half_take : take at t ≡ followed H.opens.items ++ (H.digits ++ (dash ∷ []))
  half_take =
      ap (λ (k : ℕ). take k t) H.next ∙ take_more t (start + length H.digits) (omega (arith, H.within, H.next))
      ∙ rw (take_on t H.digits start H.there.is, H.joint, H.opens.is) (append_assoc (followed H.opens.items) H.digits (dash ∷ []))

  half_items : All IsItem H.opens.items
  half_items = legal_items n H.opens.items H.opens.legal

  walk_joins : walk wants (take at t) ≡ joins
  walk_joins = ap (walk wants) half_take ∙ walk_append wants (followed H.opens.items) (H.digits ++ (dash ∷ [])) ∙ rw (walk_followed H.opens.items half_items) (walk_half H.digits H.there.number)

  -- a second number
  half_then : (e : List ℕ) → IsNumber e → Begins IsListText (take at t ++ e)
  half_then e h = rw (half_take, same) (begins_item H.opens.items (range H.digits e) half_items (H.there.number, h))
    where
      same : (followed H.opens.items ++ (H.digits ++ (dash ∷ []))) ++ e ≡ followed H.opens.items ++ (H.digits ++ (dash ∷ e))
      same = append_assoc (followed H.opens.items) (H.digits ++ (dash ∷ [])) e ∙ ap (λ (x : List ℕ). followed H.opens.items ++ x) (append_assoc H.digits (dash ∷ []) e)

  half_clear : Clear n t at
  half_clear = rw H.next (pass_first (opens_clear H.opens).1 (opens_clear H.opens).0 H.there (rw (← H.told) H.below))

  pub no_second : (IsDigit (character t at) → ⊥) → FirstFault (list_faults n t) 17 at
  no_second d = first_17 half_clear H.within d (record { before = begins_front (take at t) zero (half_then zero (digit_number (omega arith, omega arith))); here = go (dec_lt at (length t)) })
    where
      go : Dec (at < length t) → ((at < length t) × (Begins IsListText (take (at + 1) t) → ⊥)) ⊎ ((at ≡ length t) × (IsListText t → ⊥))
      go (yes l) = inl (l, none_begins t at joins walk_joins (wants_digit d).1 l)
      go (no l) = inr (omega (arith, H.within), open_none t (omega (arith, H.within, H.next)) (inr (ap (walk wants) (sym (take_all at t (omega arith))) ∙ walk_joins)))

  begins_second : {d : List ℕ} → NumberAt t at d → at < length t → Begins IsListText (take (at + 1) t)
  begins_second a l = rw (take_more t at l) (half_then (character t at ∷ []) (digit_number (first_digit a)))

  within_second : {d : List ℕ} → NumberAt t at d → at < length t
  within_second a = go (dec_lt at (length t))
    where
      go : Dec (at < length t) → at < length t
      go (yes l) = l
      go (no l) = absurd (past_end t at (omega arith) (first_digit a))

  pub second_above : {d : List ℕ} → NumberAt t at d → n ≤ value d → FirstFault (list_faults n t) 19 at
  second_above {d} a v =
      let l = within_second a in
      first_19 half_clear l (begins_second a l) (record { number = d; there = a; above = v }) (λ r. omega (arith, backward_from H.there H.next a r, H.told, H.below))

  -- so that a number has to begin there
  pub half_wants : Wants n t at
  half_wants = record { within = H.within; begins = dash_number t (start + length H.digits) at H.joint H.next; missing = no_second; high = λ d. second_above }

  pub second_backward : {d : List ℕ} → NumberAt t at d → value d < first → FirstFault (list_faults n t) 18 at
  second_backward {d} a v =
      let l = within_second a in
      let k : value d < value H.digits = rw (← H.told) v in
      first_18 half_clear l (begins_second a l)
      (record { start = start; first = H.digits; second = d; from = H.there; joint = H.joint; at = H.next; to = a; backward = k })
      (not_above a (omega (arith, H.below)))

-- ---- after an item

module _ {n : ℕ} {t : List ℕ} {at first last end : ℕ} (O : Opens n t at) (I : ItemAt n t at first last end) where
  item_take : take end t ≡ followed O.items ++ item_text I.item
  item_take = ap (λ (k : ℕ). take k t) I.end_told ∙ take_on t (item_text I.item) at I.is ∙ ap (λ (x : List ℕ). x ++ item_text I.item) O.is

  walk_after : walk wants (take end t) ≡ after I.item
  walk_after = ap (walk wants) item_take ∙ walk_append wants (followed O.items) (item_text I.item) ∙ rw (walk_followed O.items (items_right O)) (walk_item I.item I.legal.item)

  item_clear : Clear n t (end + 1)
  item_clear =
      let c = opens_clear O in
      rw I.end_told (pass_item I.item (drop (length (item_text I.item)) (drop at t)) I.legal c.1 c.0 (rest_split (item_text I.item) (drop at t) I.is) (rw I.end_told at I.no_digit))

  -- what follows an item is neither a comma nor the end
  pub no_comma : end < length t → character t end ≢ comma → FirstFault (list_faults n t) 17 end
  no_comma l m = first_17 before I.within I.no_digit (record { before = rw item_take (begins_item O.items I.item (items_right O) I.legal.item); here = inl (l, none_begins t end (after I.item) walk_after (ends I.item refl) l) })
    where
      before : Clear n t end
      before = record { backward = λ p r. omega (arith, item_clear.backward p r); above = λ p r. omega (arith, item_clear.above p r) }

      ends : (i : Item) → I.item ≡ i → next (after i) (character t end) ≡ dead
      ends (one d) e = first_ends I.no_digit (I.no_dash d e) m
      ends (range d e') e = second_ends I.no_digit m

  -- a comma follows
  pub comma_list : character t end ≡ comma → end < length t → take (end + 1) t ≡ followed (O.items ++ (I.item ∷ []))
  comma_list e l = take_more t end l ∙ rw (item_take, e) (append_assoc (followed O.items) (item_text I.item) (comma ∷ []) ∙ sym (followed_more O.items I.item))

  -- the text ends
  pub whole_list : end ≡ length t → t ≡ list_text (O.items ++ (I.item ∷ []))
  whole_list e = sym (take_all end t (omega arith)) ∙ item_take ∙ sym (followed_then O.items I.item)
