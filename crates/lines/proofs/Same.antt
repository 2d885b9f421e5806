-- What is promised of a line allows one result and the same bytes.
use Rattle.std.proofs.Common.{ℕ, ◌≡◌, sym, ap, ◌∙◌, List, [], ◌∷◌, arith}
use Rattle.std.specs.Prelude.{Ok, Err}
use Rattle.laws.specs.Answering.{◌when◌}
use Rattle.decimals.specs.Fault.{fault_text}
use Rattle.dispatcher.specs.Answers.{Answer}
use Rattle.dispatcher.specs.declared.Dispatcher.{Dispatcher}
use Rattle.dispatcher.proofs.Same.{answered_same, answer_same}
use Rattle.lines.specs.declared.Line.{Line}
use Rattle.lines.specs.Line.{IsLong, Written, Stands, Writes, WritesFault}

pub stands_same : {Says : Answer → Type 0} {text before after after' : List ℕ} {r q : Written} → ((a b : Answer) → Says a → Says b → a ≡ b)
    → Stands Says text before after r → Stands Says text before after' q → (r ≡ q) × (after ≡ after')
stands_same {r = Ok n} {q = Ok m} one a b = (ap Ok (a.length_told ∙ sym b.length_told), a.written ∙ sym b.written)
stands_same {r = Err r} {q = Err q} one a b =
    let same : Err r ≡ Err q = one _ _ a.answer b.answer in
    (ap Err (cc), a.kept ∙ sym b.kept)
stands_same {r = Ok n} {q = Err q} one a b = let e = one _ _ a.answer b.answer in cc
stands_same {r = Err r} {q = Ok m} one a b = let e = one _ _ a.answer b.answer in cc

-- a line
pub writes_same : (l : Line) (d : Dispatcher) {before after after' : List ℕ} {r q : Written} → Writes l d before after r → Writes l d before after' q → (r ≡ q) × (after ≡ after')
writes_same l d = stands_same (λ a b. answered_same)

-- the line of a refused file
pub writes_fault_same : (n offset : ℕ) {before after after' : List ℕ} {r q : Written} → WritesFault n offset before after r → WritesFault n offset before after' q → (r ≡ q) × (after ≡ after')
writes_fault_same n offset {before} = stands_same (λ a b. answer_same (15 when IsLong (fault_text n offset) before ∷ []) (omega arith, tt))
