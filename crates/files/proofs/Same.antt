-- Any two results that a promise allows are the same: an offset and the file's length tell a fault's number.
use Prim.Native.Nat.{ℕ}
use mathlib.Core.Path.{◌≡◌, refl, sym, ◌∙◌}
use mathlib.Core.Logic.{inl, inr}
use mathlib.Core.Bool.{cond}
use mathlib.Core.List.{List}
use native.Mathlib.Omega.{arith}
use lib.Dec.{eqb, ltb, leb}
use lib.ListN.{length}
use Rattle.std.specs.Prelude.{Option, Some, None, Result, Ok, Err}
use borrow.Author.Tests.{eq-eqb, ne_eqb, lt-ltb, le-ltb, le-leb, lt-leb}
use Rattle.laws.specs.Answering.{Applies, checked_first}
use Rattle.laws.proofs.Answering.{from_applies}
use Rattle.dispatcher.specs.Answers.{refusal_number}
use Rattle.dispatcher.specs.declared.TaskRecord.{TaskRecord}
use Rattle.dispatcher.proofs.Same.{number_same}
use Rattle.files.specs.Layout.{count_place, end_place}
use Rattle.files.specs.Faults.{WellFormed, faults_at, FirstFault}
use Rattle.files.specs.Reading.{Reads, ReadsRecord, ReadsEvent}
use Rattle.files.specs.declared.Layout.{Layout}
use Rattle.files.specs.declared.Fault.{Fault}
use Rattle.files.specs.declared.FileEvent.{FileEvent}

-- ---- a file's faults

-- the only number that a fault at o may have
number_at : List ℕ → ℕ → ℕ
number_at b o = cond (leb (length b) o) 12 (cond (eqb o 0) 2 (cond (eqb o (count_place b)) 16 (cond (ltb o (end_place b)) 14 13)))

number_at_lem : (b : List ℕ) (n o : ℕ) → Applies (faults_at b o) n → n ≡ number_at b o
unfolding number_at
number_at_lem b n o (inl (e, h)) = simp (e, lt-leb (length b) o (omega arith), eq-eqb o 0 h.at)
number_at_lem b n o (inr (inl (e, h))) = simp (e, le-leb (length b) o (omega arith))
number_at_lem b n o (inr (inr (inl (e, h)))) =
    simp (e, lt-leb (length b) o (omega arith), ne_eqb o 0 (λ z. omega arith), ne_eqb o (count_place b) (λ z. omega arith), le-ltb o (end_place b) (omega arith))
number_at_lem b n o (inr (inr (inr (inl (e, h))))) =
    simp (e, lt-leb (length b) o (omega arith), ne_eqb o 0 (λ z. omega arith), ne_eqb o (count_place b) (λ z. omega arith), lt-ltb o (end_place b) (omega arith))
number_at_lem b n o (inr (inr (inr (inr (inl (e, h)))))) =
    simp (e, lt-leb (length b) o (omega arith), ne_eqb o 0 (λ z. omega arith), eq-eqb o (count_place b) h.at)
number_at_lem b n o (inr (inr (inr (inr (inr x))))) = absurd x

fault_same : {b : List ℕ} {m n o p : ℕ} → FirstFault b m o → FirstFault b n p → (m ≡ n) × (o ≡ p)
fault_same {b} {m} {n} {o} {p} x y =
    let before = x.first n p y.there in
    let after = y.first m o x.there in
    let offset : o ≡ p = omega arith in
    (number_at_lem b m o x.there ∙ sym (number_at_lem b n o (rw offset y.there)), offset)

pub no_fault : {b : List ℕ} → WellFormed b → (n o : ℕ) → Applies (faults_at b o) n → ⊥
no_fault W n o (inl (e, h)) = h.bad W.count
no_fault W n o (inr (inl (e, h))) = omega arith
no_fault W n o (inr (inr (inl (e, h)))) = omega arith
no_fault W n o (inr (inr (inr (inl (e, h))))) = h.bad (rw h.at (W.kinds h.event h.counted))
no_fault W n o (inr (inr (inr (inr (inl (e, h)))))) = omega arith
no_fault W n o (inr (inr (inr (inr (inr x))))) = absurd x

-- ---- the three functions

pub reads_same : (b : List ℕ) (r q : Result Layout Fault) → Reads b r → Reads b q → r ≡ q
reads_same b (Ok l) (Ok k) x y = λ j. Ok (record { cores = (x.1 ∙ sym y.1) j; records = (x.2 ∙ sym y.2) j; events = (x.3 ∙ sym y.3) j })
reads_same b (Ok l) (Err f) x y = absurd (no_fault x.0 (refusal_number f.refusal) f.offset y.there)
reads_same b (Err f) (Ok l) x y = absurd (no_fault y.0 (refusal_number f.refusal) f.offset x.there)
reads_same b (Err f) (Err g) x y =
    let same = fault_same x y in
    let later = from_applies (length checked_first) (faults_at b f.offset) (refusal_number f.refusal) (omega arith, (omega arith, (omega arith, (omega arith, (omega arith, tt))))) x.there in
    let refusal : f.refusal ≡ g.refusal = cc (number_same {a = Err f.refusal} {b = Err g.refusal} later same.0) in
    λ j. Err (record { refusal = refusal j; offset = same.1 j })

pub record_same : (b : List ℕ) (i : ℕ) (r q : Option TaskRecord) → ReadsRecord b i r → ReadsRecord b i q → r ≡ q
record_same b i (Some r) (Some q) x y = λ j. Some (record { slot = (x.1 ∙ sym y.1) j; priority = (x.2 ∙ sym y.2) j; mask = (x.3 ∙ sym y.3) j })
record_same b i (Some r) None x y = absurd (y x.0)
record_same b i None (Some q) x y = absurd (x y.0)
record_same b i None None x y = refl

pub event_same : (b : List ℕ) (i : ℕ) (r q : Option FileEvent) → ReadsEvent b i r → ReadsEvent b i q → r ≡ q
event_same b i (Some r) (Some q) x y = λ j. Some (record { kind = (x.1 ∙ sym y.1) j; slot = (x.2 ∙ sym y.2) j })
event_same b i (Some r) None x y = absurd (y x.0)
event_same b i None (Some q) x y = absurd (x y.0)
event_same b i None None x y = refl
