-- A call that judges first, and then writes one slot or leaves the dispatcher, meets its promise.
use Prim.Native.Nat.{ℕ}
use mathlib.Core.Path.{◌≡◌, sym, ap, ◌∙◌}
use mathlib.Core.List.{List}
use Rattle.laws.specs.Answering.{Refusal}
use Rattle.dispatcher.specs.Answers.{Answer, number_of}
use Rattle.dispatcher.specs.Reports.{still_of}
use Rattle.dispatcher.specs.Promise.{Answered, Promised}
use Rattle.dispatcher.specs.declared.Task.{Task}
use Rattle.dispatcher.specs.declared.Report.{Report}
use Rattle.dispatcher.specs.declared.Dispatcher.{Dispatcher}
use Rattle.dispatcher.specs.declared.Outcome.{Outcome}
use Rattle.tasks.specs.Table.{Writes, Settles}

pub settles_promised : {rs : List Refusal} {d : Dispatcher} {slot : ℕ} {t : Task} {a : Answer} {r : Outcome} → Answered rs d a → Settles d slot t (still_of a) r → Promised rs d (Writes d slot t) r
settles_promised {d = d} {a = a} {r = r} h s = record {
  answer = rw number h.answer;
  place = rw (ap (λ (x : Report). x.answer) s.report) h.place;
  done = λ z. record { written = s.done (sym number ∙ z); still = own };
  kept = λ z. s.refused (λ y. z (number ∙ y));
  still = λ _. own;
}
  where
    number : number_of r.report.answer ≡ number_of a
    number = ap (λ (x : Report). number_of x.answer) s.report

    own : r.report ≡ still_of r.report.answer
    own = s.report ∙ ap (λ (x : Report). still_of x.answer) (sym s.report)
