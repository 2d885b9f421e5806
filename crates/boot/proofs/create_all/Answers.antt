-- `create_all` meets its promise: the records so far are created, and none of them was refused.
use Prim.Native.Nat.{ℕ}
use mathlib.Core.Path.{◌≡◌, refl, ap, sym, ◌∙◌}
use mathlib.Core.List.{[]}
use native.Mathlib.Omega.{arith}
use lib.ListN.{length}
use borrow.Author.Rules.{rules}
use Rattle.std.specs.Prelude.{Result, Ok, Err, MatchResult, ⊤}
use Rattle.std.specs.Result.{IsErrAnd, is_ok}
use Rattle.std.proofs.lemmas.Result.{err_from_is_err_and}
use Rattle.dispatcher.specs.Answers.{Answer, number_of}
use Rattle.dispatcher.proofs.Promises.{slot_below}
use Rattle.dispatcher.proofs.Reading.{shaped}
use Rattle.dispatcher.proofs.Same.{refusal_positive}
use Rattle.dispatcher.proofs.Unsound.{done_sound}
use Rattle.boot.specs.declared.Refused.{Refused}
use Rattle.boot.proofs.Advancing.{goes_none, goes_next, goes_refused, comes_unsound, comes_refused, comes_done}
use Rattle.boot.proofs.create_all.Goals as goal

-- what `map_err` says of a refusal that it hands on
handed : (r : Answer) {q : Result ⊤ Refused} {s : Refused} {i : ℕ} → MatchResult r (λ x. q ≡ Ok x) (λ e. IsErrAnd q (λ t. t ≡ record { refusal = e; index = i })) → q ≡ Err s
    → (r ≡ Err s.refusal) × (s.index ≡ i)
handed (Ok x) m e = let n = sym m ∙ e in cc
handed (Err r) {q} {s} {i} m e = let n = rw e at m in (ap (λ (t : Refused). Err t.refusal) (sym n), ap (λ (t : Refused). t.index) n)

-- and where it hands none on
passed : (r : Answer) {q : Result ⊤ Refused} → is_ok q ≡ is_ok r → q ≡ Ok tt → number_of r ≡ 0
passed (Ok x) v e = refl
passed (Err r) v e = let n = rw e at v in cc

pub loop-index-init : goal.loop-index-init
loop-index-init c = goes_none _ (done_sound _ {rs = []} c.check.ensures.answer (passed c.check.result c.map_err.ensures.variant c.in_ok-map_err.was))

pub returns-in_err-map_err : goal.returns-in_err-map_err
returns-in_err-map_err c =
    let p = err_from_is_err_and c.from_residual.result c.from_residual.ensures.1 in
    let h = handed c.check.result {i = 0} (search rules) c.in_err-map_err.was in
    rw (p.1, p.2, h.1) (comes_unsound _ (rw h.0 at c.check.ensures) (refusal_positive _))

pub returns-in_err-map_err-2 : goal.returns-in_err-map_err-2
returns-in_err-map_err-2 c =
    let p = err_from_is_err_and c.from_residual-in_err-map_err-2.result c.from_residual-in_err-map_err-2.ensures.1 in
    let h = handed c.entry.result {i = c.loop-index.index-counter} (search rules) c.in_err-map_err-2.was in
    rw (p.1, p.2, h.1) (comes_refused _ c.loop-index.invariant.sound (goes_refused c.loop-index.invariant c.loop-index-test.true (rw h.0 at c.entry.ensures) (refusal_positive _)))

pub bounds-d-from : goal.bounds-d-from
bounds-d-from c = rw c.from.ensures (slot_below c.entry.ensures (passed c.entry.result c.map_err-in-loop-index.ensures.variant c.in_ok-map_err-2.was))

pub loop-index-preserved : goal.loop-index-preserved
loop-index-preserved c =
    rw c.from.ensures
    (goes_next c.loop-index.invariant (shaped (search rules) (search rules) (search rules)) (rw (passed c.entry.result c.map_err-in-loop-index.ensures.variant c.in_ok-map_err-2.was) at c.entry.ensures))

pub returns : goal.returns
returns c =
    let end : c.loop-index.index-counter ≡ length c.args.list.now = omega arith in
    comes_done (rw end at c.loop-index.invariant)
