-- Any two results that a promise allows are the same.
use Prim.Native.Nat.{ℕ, ◌<◌}
use mathlib.Core.Path.{◌≡◌, refl, sym, ap, ◌∙◌}
use mathlib.Core.Logic.{◌⊎◌, inl, inr}
use mathlib.Core.Bool.{Bool, true, false, cond}
use mathlib.Core.List.{List}
use native.Mathlib.Decide.{dec_lt}
use native.Mathlib.Omega.{arith}
use lib.Dec.{eqb}
use lib.ListN.{length}
use Rattle.std.specs.Prelude.{Ok, Err, IsErrAnd}
use Rattle.laws.specs.Answering.{Refusal as Row}
use Rattle.laws.specs.Decides.{Decides}
use Rattle.laws.proofs.Deciding.{cases}
use Rattle.masks.specs.Masks.{NamesMissing}
use Rattle.masks.proofs.Bits.{names_test}
use Rattle.cpusets.specs.Answers.{number_of, Reading, Written}
use Rattle.cpusets.specs.Faults.{FirstFault}
use Rattle.cpusets.specs.Reading.{Reads}
use Rattle.cpusets.specs.Writing.{Refuses, Stands, WritesText, Writes}
use Rattle.cpusets.specs.declared.Refusal.{Refusal}
use Rattle.cpusets.specs.declared.Refusal.TheVariants.{Unexpected, Backward, AboveLimit, OutputShort}

-- ---- a number belongs to one refusal

refusal_of : ℕ → Refusal
refusal_of n = cond (eqb n 17) Unexpected (cond (eqb n 18) Backward (cond (eqb n 19) AboveLimit OutputShort))

refusal_back : (r : Refusal) → refusal_of (number_of r) ≡ r
unfolding refusal_of
refusal_back Unexpected = refl
refusal_back Backward = refl
refusal_back AboveLimit = refl
refusal_back OutputShort = refl

pub number_same : {r q : Refusal} → number_of r ≡ number_of q → r ≡ q
number_same {r} {q} e = sym (refusal_back r) ∙ ap refusal_of e ∙ refusal_back q

-- ---- reading

pub first_same : {faults : ℕ → List Row} {m n o p : ℕ} → FirstFault faults m o → FirstFault faults n p → (m ≡ n) × (o ≡ p)
first_same {m = m} {n} {o} {p} x y = go (x.first n p y.there) (y.first m o x.there)
  where
    go : (o < p) ⊎ ((o ≡ p) × (m ≡ n)) → (p < o) ⊎ ((p ≡ o) × (n ≡ m)) → (m ≡ n) × (o ≡ p)
    go (inr h) k = (h.1, h.0)
    go (inl h) (inl k) = absurd (omega arith)
    go (inl h) (inr k) = absurd (omega (arith, k.0))

-- where a text means one set
pub reads_same : (faults : ℕ → List Row) (Means : ℕ → Type 0) → ((s q : ℕ) → Means s → Means q → s ≡ q) → (r q : Reading) → Reads faults Means r → Reads faults Means q → r ≡ q
reads_same faults Means one (Ok s) (Ok q) x y = ap Ok (one s q x.1 y.1)
reads_same faults Means one (Ok s) (Err e) x y = absurd (x.0 (number_of e.refusal) e.offset y.there)
reads_same faults Means one (Err e) (Ok s) x y = absurd (y.0 (number_of e.refusal) e.offset x.there)
reads_same faults Means one (Err e) (Err f) x y =
    let same = first_same x y in
    let refusal = number_same {r = e.refusal} {q = f.refusal} same.0 in
    λ i. Err (record { refusal = refusal i; offset = same.1 i })

-- ---- writing

refused_same : (n : ℕ) (r q : Written) → IsErrAnd r (λ e. number_of e ≡ n) → IsErrAnd q (λ e. number_of e ≡ n) → r ≡ q
refused_same n (Ok k) q a b = absurd a
refused_same n (Err e) (Ok k) a b = absurd b
refused_same n (Err e) (Err f) a b = ap Err (number_same (a ∙ sym b))

refuses_same : {n : ℕ} {before after after' : List ℕ} {r q : Written} → Refuses n before after r → Refuses n before after' q → (r ≡ q) × (after ≡ after')
refuses_same {n} {r = r} {q} a b = (refused_same n r q a.answer b.answer, a.kept ∙ sym b.kept)

stands_same : {text before after after' : List ℕ} {r q : Written} → Stands text before after r → Stands text before after' q → (r ≡ q) × (after ≡ after')
stands_same a b = (a.told ∙ sym b.told, a.written ∙ sym b.written)

-- where there is one text
pub writes_text_same : {TextOf : List ℕ → Type 0} {before after after' : List ℕ} {r q : Written} → ((t u : List ℕ) → TextOf t → TextOf u → t ≡ u)
    → WritesText TextOf before after r → WritesText TextOf before after' q → (r ≡ q) × (after ≡ after')
writes_text_same {before = before} {after} {after'} {r} {q} one a b = go (dec_lt (length before) (length a.text)) (one a.text b.text a.is b.is)
  where
    go : Dec (length before < length a.text) → a.text ≡ b.text → (r ≡ q) × (after ≡ after')
    go (yes l) e = refuses_same (a.short l) (b.short (rw (← e) l))
    go (no l) e = stands_same (a.room (omega arith)) (rw (← e) at (b.room (rw (← e) (omega arith))))

pub writes_same : {TextOf : List ℕ → Type 0} {n s : ℕ} {before after after' : List ℕ} {r q : Written} → ((t u : List ℕ) → TextOf t → TextOf u → t ≡ u)
    → Writes TextOf n s before after r → Writes TextOf n s before after' q → (r ≡ q) × (after ≡ after')
writes_same {TextOf} {n} {s} {before} {after} {after'} {r} {q} one a b = go _ (names_test n s) (cases _)
  where
    go : (t : Bool) → Decides (NamesMissing n s) t → (t ≡ true) ⊎ (t ≡ false) → (r ≡ q) × (after ≡ after')
    go t d (inl y) = refuses_same (a.above (d.yes y)) (b.above (d.yes y))
    go t d (inr y) = writes_text_same one (a.below (d.no y)) (b.below (d.no y))
