-- Items that are in order hold no fault: a text is clear as far as such items go.
use Prim.Native.Nat.{ℕ, ◌+◌, ◌≤◌, ◌<◌}
use mathlib.Core.Path.{◌≡◌, refl, sym, ap, ◌∙◌}
use mathlib.Core.Logic.{inl, inr}
use mathlib.Core.List.{List, [], ◌∷◌, ◌++◌, append_assoc}
use native.Mathlib.Nat.{zero-add}
use native.Mathlib.Omega.{arith}
use lib.ListN.{length, take, drop, get_or, length-append, length-drop, take-append-drop}
use lib.Seq.{take-append_seam, get_or-append_seam, drop-append-add, get_or-drop, drop-drop, length-take-le}
use Rattle.laws.specs.Lists.{All}
use Rattle.laws.specs.Answering.{Applies}
use Rattle.decimals.specs.Decimal.{value}
use Rattle.texts.specs.Joined.{comma, dash}
use Rattle.cpusets.specs.Characters.{character, IsDigit}
use Rattle.cpusets.specs.Faults.{Faultless}
use Rattle.cpusets.proofs.Beginning.{none_unexpected}
use Rattle.cpulists.specs.List.{IsNumber, Item, one, range, item_text, IsItem, list_text}
use Rattle.cpulists.specs.Faults.{NumberAt, RunsBackward, list_faults}
use Rattle.cpulists.specs.Progress.{IsLegal, followed, Opens}
use Rattle.cpulists.proofs.Numbers.{past_end}
use Rattle.cpulists.proofs.Places.{first_digit, Clear, clear_start, pass, not_above, backward_from}

-- ---- where a text goes on after a part of it

pub rest_split : (x l : List ℕ) → take (length x) l ≡ x → l ≡ x ++ drop (length x) l
rest_split x l e = sym (take-append-drop (length x) l) ∙ ap (λ (y : List ℕ). y ++ drop (length x) l) e

pub seam : (t x y : List ℕ) (a c : ℕ) → drop a t ≡ x ++ (c ∷ y) → (character t (a + length x) ≡ c) × (drop (a + length x + 1) t ≡ y)
seam t x y a c e = (
  sym (get_or-drop a t (length x) 0) ∙ ap (λ (l : List ℕ). get_or l (length x) 0) e ∙ get_or-append_seam x c y 0,
  ap (λ (k : ℕ). drop k t) same ∙ sym (drop-drop (length x + 1) a t) ∙ ap (drop (length x + 1)) e ∙ drop-append-add x (c ∷ y) 1,
)
  where
    same : a + length x + 1 ≡ a + (length x + 1)
    same = omega arith

pub number_here : {t d : List ℕ} {a : ℕ} (rest : List ℕ) → IsNumber d → ((k : ℕ) → a ≡ k + 1 → IsDigit (character t k) → ⊥) → drop a t ≡ d ++ rest → (IsDigit (character t (a + length d)) → ⊥) → NumberAt t a d
number_here {t} {d} {a} rest h b e f = record { is = ap (take (length d)) e ∙ take-append_seam d rest; number = h; begins = b; ends = f }

-- ---- after a comma, or at the start

pub record CommaBefore (t : List ℕ) (a : ℕ) : Type 0 where
  pub before : (k : ℕ) → a ≡ k + 1 → character t k ≡ comma

pub comma_start : {t : List ℕ} → CommaBefore t 0
comma_start = record { before = λ k e. absurd (omega arith) }

pub comma_number : {t : List ℕ} {a : ℕ} → CommaBefore t a → (k : ℕ) → a ≡ k + 1 → IsDigit (character t k) → ⊥
comma_number b k e d = omega (arith, b.before k e, d.0)

pub comma_forward : {t : List ℕ} {a : ℕ} → CommaBefore t a → RunsBackward t a → ⊥
comma_forward {t} b h = omega (arith, b.before (h.start + length h.first) h.at, h.joint)

pub dash_number : (t : List ℕ) (a b : ℕ) → character t a ≡ dash → b ≡ a + 1 → (k : ℕ) → b ≡ k + 1 → IsDigit (character t k) → ⊥
dash_number t a b j e k q d = let same : k ≡ a = omega arith in omega (arith, j, (rw same at d).0)

-- ---- an item and its numbers

pub one_number : {t d : List ℕ} {a : ℕ} (rest : List ℕ) → IsNumber d → CommaBefore t a → drop a t ≡ d ++ rest → (IsDigit (character t (a + length d)) → ⊥) → NumberAt t a d
one_number rest h b e f = number_here rest h (comma_number b) e f

pub range_numbers : {t : List ℕ} {a : ℕ} (d e rest : List ℕ) → IsItem (range d e) → CommaBefore t a → drop a t ≡ item_text (range d e) ++ rest
    → (IsDigit (character t (a + length (item_text (range d e)))) → ⊥) → NumberAt t a d × NumberAt t (a + length d + 1) e
range_numbers {t} {a} d e rest h b q f = (one_number (dash ∷ (e ++ rest)) h.0 b parts (λ g. omega (arith, joint.0, g.0)), number_here rest h.1 (dash_number t (a + length d) (a + length d + 1) joint.0 refl) joint.1 (rw end at f))
  where
    parts : drop a t ≡ d ++ (dash ∷ (e ++ rest))
    parts = q ∙ append_assoc d (dash ∷ e) rest

    joint : (character t (a + length d) ≡ dash) × (drop (a + length d + 1) t ≡ e ++ rest)
    joint = seam t d (e ++ rest) a dash parts

    end : a + length (d ++ (dash ∷ e)) ≡ a + length d + 1 + length e
    end = omega (arith, length-append d (dash ∷ e))

-- what follows a comma
pub comma_next : (t : List ℕ) (a : ℕ) (x rest : List ℕ) → drop a t ≡ x ++ (comma ∷ rest)
    → (IsDigit (character t (a + length x)) → ⊥) × CommaBefore t (a + length x + 1) × (drop (a + length x + 1) t ≡ rest)
comma_next t a x rest e =
    let s = seam t x rest a comma e in
    ((λ d. omega (arith, s.0, d.0)), record { before = λ k q. let same : a + length x ≡ k = omega arith in rw same at s.0 }, s.1)

-- what follows the last item
pub end_next : (t : List ℕ) (a : ℕ) (x : List ℕ) → drop a t ≡ x ++ [] → (length t ≤ a + length x) × (IsDigit (character t (a + length x)) → ⊥)
end_next t a x e = (ended, past_end t (a + length x) ended)
  where
    ended : length t ≤ a + length x
    ended = omega (arith, length-drop a t, ap length e, length-append x [])

-- ---- items that are in order are passed

-- the first number of a range, and its dash
pub pass_first : {n : ℕ} {t d : List ℕ} {a : ℕ} → CommaBefore t a → Clear n t a → NumberAt t a d → value d < n → Clear n t (a + length d + 1)
pass_first b c m l = pass c m (comma_forward b) (not_above m l)

pub pass_item : {n : ℕ} {t : List ℕ} {a : ℕ} (i : Item) (rest : List ℕ) → IsLegal n i → CommaBefore t a → Clear n t a → drop a t ≡ item_text i ++ rest
    → (IsDigit (character t (a + length (item_text i))) → ⊥) → Clear n t (a + length (item_text i) + 1)
pass_item (one d) rest h b c e f = pass_first b c (one_number rest h.item b e f) h.first_below
pass_item {n} {t} {a} (range d e) rest h b c q f = go (range_numbers d e rest h.item b q f)
  where
    whole : a + length d + 1 + length e + 1 ≡ a + length (d ++ (dash ∷ e)) + 1
    whole = omega (arith, length-append d (dash ∷ e))

    go : NumberAt t a d × NumberAt t (a + length d + 1) e → Clear n t (a + length (d ++ (dash ∷ e)) + 1)
    go m = rw whole at (pass (pass_first b c m.0 h.first_below) m.1 (λ r. omega (arith, backward_from m.0 refl m.1 r, h.forward)) (not_above m.1 h.last_below))

pub pass_followed : {n : ℕ} {t : List ℕ} (items : List Item) (a : ℕ) (rest : List ℕ) → All (IsLegal n) items → CommaBefore t a → Clear n t a → drop a t ≡ followed items ++ rest
    → Clear n t (a + length (followed items)) × CommaBefore t (a + length (followed items))
pass_followed {n} {t} [] a rest h b c e = let same : a ≡ a + 0 = omega arith in rw (← same) (c, b)
pass_followed {n} {t} (i ∷ items) a rest h b c e =
    let q = e ∙ append_assoc (item_text i) (comma ∷ followed items) rest in
    let p = comma_next t a (item_text i) (followed items ++ rest) q in
    rw whole at (pass_followed items (a + length (item_text i) + 1) rest h.1 p.1 (pass_item i (comma ∷ (followed items ++ rest)) h.0 b c q p.0) p.2)
  where
    whole : a + length (item_text i) + 1 + length (followed items) ≡ a + length (item_text i ++ (comma ∷ followed items))
    whole = omega (arith, length-append (item_text i) (comma ∷ followed items))

-- ---- up to where an item has to begin

pub opens_place : {n : ℕ} {t : List ℕ} {at : ℕ} (o : Opens n t at) → length (followed o.items) ≡ at
opens_place {t = t} {at} o = sym (ap length o.is) ∙ length-take-le at t o.within

pub opens_clear : {n : ℕ} {t : List ℕ} {at : ℕ} → Opens n t at → Clear n t at × CommaBefore t at
opens_clear {n} {t} {at} o =
    rw (opens_place o, zero-add at) at (pass_followed o.items 0 (drop at t) o.legal comma_start clear_start (sym (take-append-drop at t) ∙ ap (λ (x : List ℕ). x ++ drop at t) o.is))

-- ---- a text of items that are in order has no fault

clear_list : {n : ℕ} {t : List ℕ} (i : Item) (items : List Item) (a : ℕ) → All (IsLegal n) (i ∷ items) → CommaBefore t a → Clear n t a → drop a t ≡ list_text (i ∷ items) → Clear n t (length t)
clear_list {n} {t} i [] a h b c e =
    let p = end_next t a (item_text i) e in
    let d = pass_item i [] h.0 b c e p.1 in
    record { backward = λ o r. omega (arith, d.backward o r, p.0); above = λ o r. omega (arith, d.above o r, p.0) }
clear_list {n} {t} i (j ∷ items) a h b c e =
    let p = comma_next t a (item_text i) (list_text (j ∷ items)) e in
    clear_list j items (a + length (item_text i) + 1) h.1 p.1 (pass_item i (comma ∷ list_text (j ∷ items)) h.0 b c e p.0) p.2

all_clear : {n : ℕ} {t : List ℕ} (items : List Item) → All (IsLegal n) items → t ≡ list_text items → Clear n t (length t)
all_clear [] h e = rw e clear_start
all_clear (i ∷ items) h e = clear_list i items 0 h comma_start clear_start e

pub legal_items : (n : ℕ) (items : List Item) → All (IsLegal n) items → All IsItem items
legal_items n [] h = tt
legal_items n (i ∷ items) h = (h.0.item, legal_items n items h.1)

pub faultless : {n : ℕ} {t : List ℕ} (items : List Item) → All (IsLegal n) items → t ≡ list_text items → Faultless (list_faults n t)
faultless {n} {t} items h e m o a = go a
  where
    none : (d : List ℕ) → NumberAt t o d → length t ≤ o → ⊥
    none d k l = past_end t o l (first_digit k)

    go : Applies (list_faults n t o) m → ⊥
    go (inl (q, u)) = none_unexpected (record { items = items; each = legal_items n items h; is = e }) u
    go (inr (inl (q, r))) = none r.second r.to ((all_clear items h e).backward o r)
    go (inr (inr (inl (q, r)))) = none r.number r.there ((all_clear items h e).above o r)
    go (inr (inr (inr x))) = x
