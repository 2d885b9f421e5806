-- The first refused record of a list: there is at most one, a load answers by it, and where a load is done there is none.
use Prim.Native.Nat.{ℕ, zero, suc, ◌+◌, ◌≤◌, ◌<◌}
use mathlib.Core.Path.{◌≡◌, refl, sym, subst}
use mathlib.Core.Logic.{◌⊎◌, inl, inr}
use mathlib.Core.List.{List}
use native.Mathlib.Decide.{ℕ_discrete}
use native.Mathlib.Numerals.{add-one}
use native.Mathlib.Omega.{arith}
use lib.ListN.{length}
use lib.Dec.{eqb}
use Rattle.laws.specs.Lowest.{Lowest}
use Rattle.laws.specs.Answering.{Refusal, Applies, turn_of, Answers}
use Rattle.laws.proofs.Testing.{eqb_eq, eqb_ne}
use Rattle.laws.proofs.Lowering.{lowest_same}
use Rattle.laws.proofs.Counting.{find}
use Rattle.laws.proofs.Answering.{AllLater, none_applies, answers_by, answers_same}
use Rattle.dispatcher.specs.Refusals.{IsInUse}
use Rattle.dispatcher.specs.declared.TaskRecord.{TaskRecord}
use Rattle.dispatcher.specs.declared.Dispatcher.{Dispatcher}
use Rattle.dispatcher.proofs.Unsound.{IsLater, done_own}
use Rattle.tasks.specs.Create.{entry_refusals}
use Rattle.tasks.proofs.Model.{entry_answers}
use Rattle.boot.specs.Load.{record_at, NamedBefore, record_refusals, FirstRefused, RecordGives, list_refusals, load_refusals}
use Rattle.boot.specs.Loading.{NamedByNone}

-- one of the first k records names slot s
abbrev pub NamedBy : List TaskRecord → ℕ → ℕ → Type 0
NamedBy list k s = (i : ℕ) × (i < k) × ((record_at list i).slot ≡ s)

pub named_or_not : (list : List TaskRecord) (k s : ℕ) → NamedBy list k s ⊎ NamedByNone list k s
named_or_not list k s = elim (find (λ i. eqb (record_at list i).slot s) k) [ inl (i, l, t) ↦ inl (i, l, eqb_eq t) | inr n ↦ inr (λ i l. eqb_ne (n i l)) ]

-- ---- one record

-- why a sound dispatcher refuses a record
abbrev pub entry_of : Dispatcher → TaskRecord → List Refusal
entry_of d t = entry_refusals d t.slot t.priority t.mask

-- the slot of record k is in use in e where it is in d, or where an earlier record names it
pub record Alike (d : Dispatcher) (list : List TaskRecord) (k : ℕ) (e : Dispatcher) : Type 0 where
  pub cores : e.cores ≡ d.cores
  pub since : IsInUse e (record_at list k).slot → IsInUse d (record_at list k).slot ⊎ NamedBefore list k
  pub still : IsInUse d (record_at list k).slot ⊎ NamedBefore list k → IsInUse e (record_at list k).slot

-- so e refuses the record as the load does
module _ {d : Dispatcher} {list : List TaskRecord} {k : ℕ} {e : Dispatcher} (A : Alike d list k e) where
  to_record : (m : ℕ) → Applies (entry_of e (record_at list k)) m → Applies (record_refusals d list k) m
  to_record m (inl a) = inl a
  to_record m (inr (inl (q, u))) = inr (inl (q, A.since u))
  to_record m (inr (inr a)) = inr (inr (rw A.cores at a))

  to_entry : (m : ℕ) → Applies (record_refusals d list k) m → Applies (entry_of e (record_at list k)) m
  to_entry m (inl a) = inl a
  to_entry m (inr (inl (q, h))) = inr (inl (q, A.still h))
  to_entry m (inr (inr a)) = inr (inr (rw A.cores a))

  pub entry_record : {n : ℕ} → Answers (entry_of e (record_at list k)) n → Answers (record_refusals d list k) n
  entry_record = answers_by to_record to_entry

  pub record_entry : {n : ℕ} → Answers (record_refusals d list k) n → Answers (entry_of e (record_at list k)) n
  record_entry = answers_by to_entry to_record

-- ---- the records before one

-- none of the first k records is refused
abbrev pub Accepted : Dispatcher → List TaskRecord → ℕ → Type 0
Accepted d list k = (j : ℕ) → j < k → Answers (record_refusals d list j) 0

module _ (d : Dispatcher) (list : List TaskRecord) (k : ℕ) (before : Accepted d list k) where
  pub accepted_next : Answers (record_refusals d list k) 0 → Accepted d list (k + 1)
  accepted_next a j l = go (ℕ_discrete j k)
    where
      go : Dec (j ≡ k) → Answers (record_refusals d list j) 0
      go (yes e) = rw e a
      go (no e) = before j (omega arith)

  -- a slot named twice is refused at its second place, with number 4
  named_twice : NamedBefore list k → Answers (record_refusals d list k) 4
  named_twice (j, l, e) = record { listed = λ _. inr (inl (refl, inr (j, l, e))); first = low }
    where
      low : (m : ℕ) → Applies (record_refusals d list k) m → (0 < 4) × (turn_of 4 ≤ turn_of m)
      low m (inl (_, above)) = absurd (none_applies (before j l) refl 3 (inl (refl, rw e above)))
      low m (inr (inl (q, _))) = rw q (omega arith)
      low m (inr (inr (inl (q, _)))) = rw q (omega arith)
      low m (inr (inr (inr (inl (q, _))))) = rw q (omega arith)
      low m (inr (inr (inr (inr (inl (q, _)))))) = rw q (omega arith)
      low m (inr (inr (inr (inr (inr a))))) = absurd a

  record_answers : (n : ℕ) × Answers (record_refusals d list k) n
  record_answers = go (named_or_not list k (record_at list k).slot)
    where
      go : NamedBefore list k ⊎ NamedByNone list k (record_at list k).slot → (n : ℕ) × Answers (record_refusals d list k) n
      go (inl named) = (4, named_twice named)
      go (inr never) =
          let same : Alike d list k d = record { cores = refl; since = inl; still = λ h. elim h [ inl u ↦ u | inr (j, l, e) ↦ absurd (never j l e) ] } in
          (_, entry_record same (entry_answers d (record_at list k).slot (record_at list k).priority (record_at list k).mask))

-- none of a list's rows is checked first
pub list_later : (d : Dispatcher) (list : List TaskRecord) → AllLater (list_refusals d list)
list_later d list = (omega arith, (omega arith, (omega arith, (omega arith, (omega arith, tt)))))

-- ---- the first refused record

module _ {d : Dispatcher} {list : List TaskRecord} where
  refused_lowest : {i n : ℕ} → FirstRefused d list i n → Lowest (length list) (λ j. Answers (record_refusals d list j) 0) i
  refused_lowest f = record { below = f.within; fails = λ a. f.refused (answers_same f.number a); lower = f.earlier }

  pub first_same : {i j m n : ℕ} → FirstRefused d list i m → FirstRefused d list j n → (i ≡ j) × (m ≡ n)
  first_same {n = n} f g =
      let e = lowest_same (refused_lowest f) (refused_lowest g) in
      (e, answers_same f.number (subst (λ (k : ℕ). Answers (record_refusals d list k) n) (sym e) g.number))

  -- the numbers that a record can be refused with
  by_number : {i n : ℕ} (P : ℕ → Type 0) → P 3 → P 4 → P 6 → P 7 → P 8 → FirstRefused d list i n → P n
  by_number {i} {n} P three four six seven eight f = go (f.number.listed f.refused)
    where
      go : Applies (record_refusals d list i) n → P n
      go (inl (q, _)) = rw q three
      go (inr (inl (q, _))) = rw q four
      go (inr (inr (inl (q, _)))) = rw q six
      go (inr (inr (inr (inl (q, _))))) = rw q seven
      go (inr (inr (inr (inr (inl (q, _)))))) = rw q eight
      go (inr (inr (inr (inr (inr a))))) = absurd a

  gives : {i n : ℕ} → FirstRefused d list i n → Applies (list_refusals d list) n
  gives {i} f = by_number (λ m. FirstRefused d list i m → Applies (list_refusals d list) m)
      (λ g. inl (refl, (i, g)))
      (λ g. inr (inl (refl, (i, g))))
      (λ g. inr (inr (inl (refl, (i, g)))))
      (λ g. inr (inr (inr (inl (refl, (i, g))))))
      (λ g. inr (inr (inr (inr (inl (refl, (i, g)))))))
      f f

  given : {n : ℕ} → Applies (list_refusals d list) n → RecordGives d list n
  given (inl (q, g)) = rw q g
  given (inr (inl (q, g))) = rw q g
  given (inr (inr (inl (q, g)))) = rw q g
  given (inr (inr (inr (inl (q, g))))) = rw q g
  given (inr (inr (inr (inr (inl (q, g)))))) = rw q g
  given (inr (inr (inr (inr (inr a))))) = absurd a

  -- no record is refused with a number that is checked first
  pub record_later : {i n : ℕ} → FirstRefused d list i n → IsLater n
  record_later f = by_number IsLater (omega arith) (omega arith) (omega arith) (omega arith) (omega arith) f

  -- ---- what a load answers

  pub refused_answers : {i n : ℕ} → FirstRefused d list i n → Answers (list_refusals d list) n
  refused_answers {n = n} f = record { listed = λ _. gives f; first = λ m a. low m (given a) }
    where
      low : (m : ℕ) → RecordGives d list m → (0 < n) × (turn_of n ≤ turn_of m)
      low m (j, g) = rw (sym (first_same f g).1) (omega (arith, f.refused), omega arith)

  pub accepted_answers : Accepted d list (length list) → Answers (list_refusals d list) 0
  accepted_answers all = record { listed = λ z. absurd (z refl); first = λ m a. low m (given a) }
    where
      low : (m : ℕ) → RecordGives d list m → (0 < 0) × (turn_of 0 ≤ turn_of m)
      low m (j, g) = absurd (g.refused (answers_same g.number (all j g.within)))

  -- ---- and the other way

  accepted_below : Answers (list_refusals d list) 0 → (k : ℕ) → k ≤ length list → Accepted d list k
  accepted_below h zero l = λ j m. absurd (omega arith)
  accepted_below h (suc k) l = go (accepted_below h k (omega arith))
    where
      at : Accepted d list k → (n : ℕ) → Answers (record_refusals d list k) n → Dec (n ≡ 0) → Answers (record_refusals d list k) 0
      at before n a (yes z) = rw z at a
      at before n a (no z) = absurd (none_applies h refl n (gives (record { within = l; number = a; refused = z; earlier = before })))

      go : Accepted d list k → Accepted d list (suc k)
      go before = let r = record_answers d list k before in rw add-one at (accepted_next d list k before (at before r.0 r.1 (ℕ_discrete r.0 0)))

  -- where a load is done, no record is refused
  pub all_accepted : Answers (load_refusals d list) 0 → Accepted d list (length list)
  all_accepted h = accepted_below (done_own d (list_refusals d list) h refl) (length list) (omega arith)
