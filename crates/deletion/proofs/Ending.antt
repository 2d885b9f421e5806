-- What a block tells of the delete: its answer but for 10; and the slot that is emptied after it.
use Prim.Native.Nat.{ℕ, ◌<◌}
use mathlib.Core.Path.{◌≡◌, refl, sym, ap, ◌∙◌}
use mathlib.Core.Logic.{◌≢◌, inl, inr}
use mathlib.Core.List.{[], ◌∷◌}
use Rattle.std.specs.Prelude.{Ok}
use native.Mathlib.Decide.{ℕ_discrete}
use native.Mathlib.Omega.{arith}
use Rattle.laws.specs.Answering.{◌when◌, Answers}
use Rattle.laws.proofs.Answering.{applies_split, answers_left, answers_past}
use Rattle.dispatcher.specs.Limits.{slot_limit}
use Rattle.dispatcher.specs.Slots.{no_task, Ready}
use Rattle.dispatcher.specs.Answers.{number_of}
use Rattle.dispatcher.specs.Refusals.{IsNotReady}
use Rattle.dispatcher.specs.Reports.{still_of}
use Rattle.dispatcher.specs.declared.Report.{Report}
use Rattle.dispatcher.specs.declared.Dispatcher.{Dispatcher}
use Rattle.dispatcher.specs.declared.Outcome.{Outcome}
use Rattle.dispatcher.proofs.Unsound.{done_answered}
use Rattle.dispatcher.proofs.Promises.{called_below}
use Rattle.tasks.specs.Table.{Settles}
use Rattle.tasks.specs.Named.{named_refusals}
use Rattle.tasks.proofs.Naming.{named_turn}
use Rattle.tasks.proofs.Settling.{settles_promised}
use Rattle.readiness.specs.Block.{block_refusals, Blocks}
use Rattle.readiness.proofs.Same.{block_was}
use Rattle.deletion.specs.Delete.{delete_refusals, Deletes}

module _ (d : Dispatcher) (slot : ℕ) where
  -- another answer than 10 is the delete's too
  as_block : {n : ℕ} → n ≢ 10 → Answers (block_refusals d slot) n → Answers (delete_refusals d slot) n
  as_block {n} other = answers_left (named_refusals d slot) (10 when IsNotReady d slot ∷ []) (λ a. elim a [ inl h ↦ other h.0 | inr h ↦ h ])

  -- where the block answers 10, the delete is done
  past_block : Answers (block_refusals d slot) 10 → Answers (delete_refusals d slot) 0
  past_block = answers_past (named_refusals d slot) (10 when IsNotReady d slot ∷ []) (λ m a. let s = named_turn {d = d} {slot = slot} m a in omega arith)

  pub was_not_ready : Answers (block_refusals d slot) 10 → Ready d slot → ⊥
  was_not_ready h = elim (applies_split (named_refusals d slot) (10 when IsNotReady d slot ∷ []) 10 (h.listed (λ z. omega arith))) [
    | inl a ↦ absurd (omega (arith, named_turn {d = d} {slot = slot} 10 a))
    | inr a ↦ elim a [ inl off ↦ off.1 | inr h ↦ absurd h ]
  ]

module _ {d : Dispatcher} {slot : ℕ} {b : Outcome} (B : Blocks d slot b) where
  pub not_ready_below : number_of b.report.answer ≡ 10 → slot < slot_limit
  not_ready_below e = called_below d (past_block d slot (rw e at B.answer)) refl

  pub not_ready_deletes : {r : Outcome} → number_of b.report.answer ≡ 10 → Settles b.dispatcher slot no_task (still_of (Ok tt)) r → Deletes d slot r
  not_ready_deletes e s =
      let h : Answers (block_refusals d slot) 10 = rw e at B.answer in
      let p = settles_promised (done_answered d (past_block d slot h)) (rw (B.kept (λ z. omega arith)) at s) in
      record { answer = p.answer; place = p.place; done = λ z. record { ready = λ q. absurd (was_not_ready d slot h q); not_ready = λ _. p.done z }; kept = p.kept; still = p.still }

  pub block_deletes : {r : Outcome} → number_of b.report.answer ≢ 10 → Settles b.dispatcher slot no_task b.report r → Deletes d slot r
  block_deletes {r} other s = record {
    answer = rw number (as_block d slot other B.answer);
    place = rw (ap (λ (x : Report). x.answer) s.report) B.place;
    done = λ z. let y = sym number ∙ z in record { ready = λ _. record { block = b; blocks = B; emptied = s.done y; reported = s.report }; not_ready = λ off. absurd (off (block_was B y)) };
    kept = λ z. s.refused (λ y. z (number ∙ y)) ∙ B.kept (λ y. z (number ∙ y));
    still = λ z. s.report ∙ B.still (λ y. z (number ∙ y)) ∙ ap (λ (x : Report). still_of x.answer) (sym s.report);
  }
    where
      number : number_of r.report.answer ≡ number_of b.report.answer
      number = ap (λ (x : Report). number_of x.answer) s.report

  -- p is reported after the block: done where it answers 10, and else what it reports
  module _ {p : Report} (not_ready : number_of b.report.answer ≡ 10 → p ≡ still_of (Ok tt)) (other : number_of b.report.answer ≢ 10 → p ≡ b.report) where
    pub reported_below : number_of p.answer ≡ 0 → slot < slot_limit
    reported_below z = elim (ℕ_discrete (number_of b.report.answer) 10) [ yes e ↦ not_ready_below e | no n ↦ called_below d B.answer (rw (other n) at z) ]

    pub reported_deletes : {r : Outcome} → Settles b.dispatcher slot no_task p r → Deletes d slot r
    reported_deletes s = elim (ℕ_discrete (number_of b.report.answer) 10) [ yes e ↦ not_ready_deletes e (rw (not_ready e) at s) | no n ↦ block_deletes n (rw (other n) at s) ]
