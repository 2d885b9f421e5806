-- The text that we write means the set, and a reader finds nothing in it to refuse.
use Prim.Native.Nat.{ℕ, ◌+◌, ◌<◌}
use mathlib.Core.Path.{◌≡◌, refl, ◌∙◌}
use mathlib.Core.Logic.{inl, inr}
use mathlib.Core.List.{List, [], ◌∷◌, map}
use native.Mathlib.Decide.{ℕ_discrete, dec_lt}
use native.Mathlib.Omega.{arith}
use borrow.Author.Tests.{eq-eqb, ne_eqb}
use Rattle.laws.specs.Lists.{In, All, Any}
use Rattle.laws.proofs.Deciding.{decides_yes, decides_by}
use Rattle.masks.specs.Masks.{NamesMissing}
use Rattle.decimals.specs.Decimal.{decimal}
use Rattle.decimals.proofs.Spelling.{decimal_some, decimal_digits, value_decimal}
use Rattle.cpusets.specs.Characters.{IsDigit}
use Rattle.cpulists.specs.List.{IsNumber, IsItem, first_of, last_of, Holds, MeansList, Run, Covers, Ascending, run_item, ListOf}
use Rattle.cpulists.specs.Progress.{IsLegal}

-- ---- the item of a run

all_in : (t : List ℕ) → ((c : ℕ) → In c t → IsDigit c) → All IsDigit t
all_in [] h = tt
all_in (c ∷ t) h = (h c (inl refl), all_in t (λ d i. h d (inr i)))

decimal_number : (n : ℕ) → IsNumber (decimal n)
decimal_number n = record { some = decimal_some n; digits = all_in (decimal n) (decimal_digits n) }

pub run_item_lem : (r : Run) → IsItem (run_item r) × (first_of (run_item r) ≡ r.first) × (last_of (run_item r) ≡ r.last)
run_item_lem r = go (ℕ_discrete r.first r.last)
  where
    go : Dec (r.first ≡ r.last) → IsItem (run_item r) × (first_of (run_item r) ≡ r.first) × (last_of (run_item r) ≡ r.last)
    go (yes e) = rw (eq-eqb r.first r.last e) (decimal_number r.first, value_decimal r.first, value_decimal r.first ∙ e)
    go (no n) = rw (ne_eqb r.first r.last n) ((decimal_number r.first, decimal_number r.last), value_decimal r.first, value_decimal r.last)

each_item : (rs : List Run) → All IsItem (map run_item rs)
each_item [] = tt
each_item (r ∷ rs) = ((run_item_lem r).0, each_item rs)

held : (c : ℕ) (rs : List Run) → Any (Covers c) rs → Any (Holds c) (map run_item rs)
held c [] i = i
held c (r ∷ rs) (inl h) = let e = run_item_lem r in inl (omega (arith, e.1, h.0), omega (arith, e.2, h.1))
held c (r ∷ rs) (inr i) = inr (held c rs i)

covered : (c : ℕ) (rs : List Run) → Any (Holds c) (map run_item rs) → Any (Covers c) rs
covered c [] i = i
covered c (r ∷ rs) (inl h) = let e = run_item_lem r in inl (omega (arith, e.1, h.0), omega (arith, e.2, h.1))
covered c (r ∷ rs) (inr i) = inr (covered c rs i)

-- ---- the text

pub list_of_items : {s : ℕ} {t : List ℕ} → ListOf s t → MeansList t s
list_of_items w = record {
  items = map run_item w.runs;
  each = each_item w.runs;
  is = w.is;
  cores = λ c. decides_by (held c w.runs) (covered c w.runs) (w.cores c);
}

legal_runs : (n c : ℕ) (rs : List Run) → Ascending c rs → ((k : ℕ) → Any (Covers k) rs → k < n) → All (IsLegal n) (map run_item rs)
legal_runs n c [] a h = tt
legal_runs n c (r ∷ rs) a h =
    let e = run_item_lem r in
    let l = h r.last (inl (a.1, omega arith)) in (
      record { item = e.0; first_below = omega (arith, e.1, a.1); last_below = omega (arith, e.2); forward = omega (arith, e.1, e.2, a.1) },
      legal_runs n (r.last + 2) rs a.2 (λ k i. h k (inr i)),
    )

-- ---- where the set names no core at or above the limit

pub covered_below : {n s : ℕ} {t : List ℕ} (w : ListOf s t) → (NamesMissing n s → ⊥) → (k : ℕ) → Any (Covers k) w.runs → k < n
covered_below {n} w none k i = go (dec_lt k n)
  where
    go : Dec (k < n) → k < n
    go (yes l) = l
    go (no l) = absurd (none (record { core = k; missing = omega arith; named = decides_yes (w.cores k) i }))

pub list_of_legal : {n s : ℕ} {t : List ℕ} (w : ListOf s t) → (NamesMissing n s → ⊥) → All (IsLegal n) (map run_item w.runs)
list_of_legal {n} w none = legal_runs n 0 w.runs w.ascending (covered_below w none)
