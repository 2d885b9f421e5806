-- There and back: what was written reads as the set, and what was read is written as one text.
use Prim.Native.Nat.{ℕ, ◌+◌, ◌≤◌, ◌<◌}
use mathlib.Core.Path.{◌≡◌, refl}
use mathlib.Core.Logic.{inl, inr}
use mathlib.Core.List.{List, [], ◌∷◌, ◌++◌, map}
use native.Mathlib.Decide.{dec_lt}
use native.Mathlib.Omega.{arith}
use lib.ListN.{length, drop}
use Rattle.std.specs.Prelude.{Ok}
use Rattle.laws.specs.Lists.{All, Any}
use Rattle.masks.specs.Masks.{NamesMissing}
use Rattle.decimals.specs.Decimal.{value}
use Rattle.texts.specs.Joined.{comma}
use Rattle.cpusets.specs.Characters.{character, IsDigit}
use Rattle.cpusets.specs.Faults.{Faultless}
use Rattle.cpusets.specs.Writing.{Stands, WritesText}
use Rattle.cpusets.specs.Answers.{Reading, Written}
use Rattle.cpulists.specs.List.{Item, one, range, item_text, IsItem, list_text, last_of, Holds, MeansList, run_item, ListOf}
use Rattle.cpulists.specs.Faults.{NumberAt, list_faults}
use Rattle.cpulists.specs.Promise.{ReadsList, WritesList}
use Rattle.cpulists.proofs.Passing.{CommaBefore, comma_start, one_number, range_numbers, comma_next, end_next, faultless}
use Rattle.cpulists.proofs.Runs.{list_text_same}
use Rattle.cpulists.proofs.Written.{list_of_items, list_of_legal}
use Rattle.cpulists.proofs.Same.{list_reads_same}

pub list_read_back : {n s : ℕ} (t : List ℕ) (r : Reading) → (NamesMissing n s → ⊥) → ListOf s t → ReadsList n t r → r ≡ Ok s
list_read_back {n} {s} t r none w h = list_reads_same n t r (Ok s) h (faultless (map run_item w.runs) (list_of_legal w none) w.is, list_of_items w)

-- ---- the set that a text without a fault means has no core at or above the limit

module _ {n : ℕ} {t : List ℕ} (f : Faultless (list_faults n t)) where
  number_below : {a : ℕ} {d : List ℕ} → NumberAt t a d → value d < n
  number_below {a} {d} k = go (dec_lt (value d) n)
    where
      go : Dec (value d < n) → value d < n
      go (yes l) = l
      go (no l) = absurd (f 19 a (inr (inr (inl (refl, record { number = d; there = k; above = omega arith })))))

  item_below : {a : ℕ} (i : Item) (rest : List ℕ) → IsItem i → CommaBefore t a → drop a t ≡ item_text i ++ rest → (IsDigit (character t (a + length (item_text i))) → ⊥) → last_of i < n
  item_below (one d) rest h b e g = number_below (one_number rest h b e g)
  item_below (range d e) rest h b q g = number_below (range_numbers d e rest h b q g).1

  items_below : (i : Item) (items : List Item) (a : ℕ) → All IsItem (i ∷ items) → CommaBefore t a → drop a t ≡ list_text (i ∷ items) → (c : ℕ) → Any (Holds c) (i ∷ items) → c < n
  items_below i [] a h b e c (inl k) = omega (arith, k.1, item_below i [] h.0 b e (end_next t a (item_text i) e).1)
  items_below i [] a h b e c (inr k) = absurd k
  items_below i (j ∷ items) a h b e c (inl k) = omega (arith, k.1, item_below i (comma ∷ list_text (j ∷ items)) h.0 b e (comma_next t a (item_text i) (list_text (j ∷ items)) e).0)
  items_below i (j ∷ items) a h b e c (inr k) =
      let p = comma_next t a (item_text i) (list_text (j ∷ items)) e in
      items_below j items (a + length (item_text i) + 1) h.1 p.1 p.2 c k

  list_below : (items : List Item) → All IsItem items → t ≡ list_text items → (c : ℕ) → Any (Holds c) items → c < n
  list_below [] h e c k = absurd k
  list_below (i ∷ items) h e c k = items_below i items 0 h comma_start e c k

  pub faultless_below : {s : ℕ} → MeansList t s → NamesMissing n s → ⊥
  faultless_below m h = omega (arith, h.missing, list_below m.items m.each m.is h.core ((m.cores h.core).yes h.named))

-- writing what was read is never refused 19: it gives the one text of its set
pub list_write_read : {n s : ℕ} {t before after : List ℕ} {r : Written} → ReadsList n t (Ok s) → WritesList n s before after r → WritesText (ListOf s) before after r
list_write_read h w = w.below (faultless_below h.0 h.1)

-- and a text of our own comes back as it was
pub list_write_back : {n s : ℕ} {t before after : List ℕ} {r : Written} → ReadsList n t (Ok s) → ListOf s t → WritesList n s before after r → length t ≤ length before → Stands t before after r
list_write_back {s = s} {t} h l w room =
    let x = list_write_read h w in
    let e = list_text_same s x.text t x.is l in
    rw e at (x.room (rw e room))
