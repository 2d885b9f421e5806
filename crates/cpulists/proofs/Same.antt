-- Any two results that a promise allows are the same, of the reader and of the writer.
use Prim.Native.Nat.{ℕ}
use mathlib.Core.Path.{◌≡◌, sym, ◌∙◌}
use mathlib.Core.List.{List}
use Rattle.laws.proofs.Deciding.{decides_same}
use Rattle.masks.proofs.Operators.{same_cores}
use Rattle.cpusets.specs.Answers.{Reading, Written}
use Rattle.cpusets.proofs.Same.{reads_same, writes_same}
use Rattle.cpulists.specs.List.{MeansList}
use Rattle.cpulists.specs.Faults.{list_faults}
use Rattle.cpulists.specs.Promise.{ReadsList, WritesList}
use Rattle.cpulists.proofs.Apart.{items_same}
use Rattle.cpulists.proofs.Runs.{list_text_same}

-- a text means one set
pub means_same : {t : List ℕ} {s q : ℕ} → MeansList t s → MeansList t q → s ≡ q
means_same {t} {s} {q} a b =
    let same = items_same b.items a.items b.each a.each (sym b.is ∙ a.is) in
    same_cores s q (λ k. decides_same (a.cores k) (rw same at (b.cores k)))

pub list_reads_same : (n : ℕ) (t : List ℕ) (r q : Reading) → ReadsList n t r → ReadsList n t q → r ≡ q
list_reads_same n t = reads_same (list_faults n t) (MeansList t) (λ s q. means_same)

pub list_writes_same : {n s : ℕ} {before after after' : List ℕ} {r q : Written} → WritesList n s before after r → WritesList n s before after' q → (r ≡ q) × (after ≡ after')
list_writes_same {s = s} = writes_same (list_text_same s)
