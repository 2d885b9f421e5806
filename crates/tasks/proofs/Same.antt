-- Any two results that the promise of create, or of its last step, allows are the same.
use Prim.Native.Nat.{ℕ}
use mathlib.Core.Path.{◌≡◌, sym, ap, ◌∙◌}
use native.Mathlib.Decide.{ℕ_discrete}
use Rattle.dispatcher.specs.Answers.{number_of}
use Rattle.dispatcher.specs.Reports.{still_of}
use Rattle.dispatcher.specs.declared.Task.{Task}
use Rattle.dispatcher.specs.declared.Report.{Report}
use Rattle.dispatcher.specs.declared.Dispatcher.{Dispatcher}
use Rattle.dispatcher.specs.declared.Outcome.{Outcome}
use Rattle.dispatcher.proofs.Same.{outcome_same, promised_same}
use Rattle.tasks.specs.Table.{Writes, Settles}
use Rattle.tasks.specs.Create.{Creates}

pub writes_same : {d : Dispatcher} {slot : ℕ} {t : Task} {r q : Outcome} → r.report.answer ≡ q.report.answer → Writes d slot t r → Writes d slot t q → r ≡ q
writes_same e a b = outcome_same (a.still ∙ ap still_of e ∙ sym b.still) (a.written ∙ sym b.written)

pub settles_same : {d : Dispatcher} {slot : ℕ} {t : Task} {p : Report} {r q : Outcome} → Settles d slot t p r → Settles d slot t p q → r ≡ q
settles_same {p = p} {r} {q} a b = outcome_same (a.report ∙ sym b.report) (go (ℕ_discrete (number_of p.answer) 0))
  where
    go : Dec (number_of p.answer ≡ 0) → r.dispatcher ≡ q.dispatcher
    go (yes z) = a.done z ∙ sym (b.done z)
    go (no z) = a.refused z ∙ sym (b.refused z)

pub creates_same : {d : Dispatcher} {slot priority mask : ℕ} {r q : Outcome} → Creates d slot priority mask r → Creates d slot priority mask q → r ≡ q
creates_same = promised_same writes_same
