-- The cases hold: a test that computes them on the model, and why it tells of every result that the promises allow.
use mathlib.Core.Path.{◌≡◌, refl, ap, ◌∙◌, subst}
use mathlib.Core.Bool.{Bool, true, ◌&&◌}
use mathlib.Core.List.{List, [], ◌∷◌}
use lib.ListN.{take}
use lib.Dec.{eqb, leb}
use borrow.Author.Tests.{eqb-true, leb-true}
use Rattle.laws.specs.Counting.{any_below}
use Rattle.std.specs.Prelude.{nat_eq}
use Rattle.std.specs.Cmp.Lexicographic.{pointwise}
use Rattle.std.proofs.lemmas.Slice.Eq.{bytes_eq-Decides}
use Rattle.laws.proofs.Testing.{and_both}
use Rattle.laws.proofs.Picking.{pick}
use Rattle.seating.proofs.Rows.{first}
use Rattle.seating.proofs.Take.{seats}
use Rattle.seating.proofs.Near.{turn}
use Rattle.seating.proofs.Find.{table, find, chosen_of}
use Rattle.seating.proofs.Arriving.{arrive_of}
use Rattle.seating.proofs.Filling.{fill_of}
use Rattle.dispatcher.specs.Limits.{greatest_priority}
use Rattle.dispatcher.specs.Slots.{Shaped}
use Rattle.dispatcher.specs.Sound.{Sound}
use Rattle.dispatcher.specs.Answers.{number_of}
use Rattle.dispatcher.specs.Fresh.{Freshly}
use Rattle.dispatcher.specs.declared.TaskRecord.{TaskRecord}
use Rattle.dispatcher.specs.declared.Dispatcher.{Dispatcher}
use Rattle.dispatcher.specs.declared.Outcome.{Outcome}
use Rattle.dispatcher.proofs.Judging.{first_of}
use Rattle.dispatcher.proofs.Same.{freshly_same}
use Rattle.dispatcher.proofs.Freshness.{fresh_of, freshly, freshly_keeps}
use Rattle.dispatcher.proofs.Testing.{count_test, count_decides}
use Rattle.calls.specs.Call.{Call, create, delete, load, wake, block, Fits}
use Rattle.calls.specs.Cases.{Line, Prints, Follows, Case, Holds, AllHold, cases}
use Rattle.calls.proofs.Calling.{does_same, does_keeps, model_of, model_does}

-- ---- one line

fits_all : List TaskRecord → Bool
fits_all [] = true
fits_all (t ∷ ts) = leb t.priority greatest_priority && fits_all ts

fits_all_lem : (ts : List TaskRecord) → fits_all ts ≡ true → Fits (load ts)
unfolding fits_all
fits_all_lem [] h = tt
fits_all_lem (t ∷ ts) h = let k = and_both (leb t.priority greatest_priority) (fits_all ts) h in (leb-true t.priority greatest_priority k.0, fits_all_lem ts k.1)

fits : Call → Bool
fits (create slot priority mask) = leb priority greatest_priority
fits (delete slot) = true
fits (load list) = fits_all list
fits (wake slot) = true
fits (block slot) = true

fits_yes : (c : Call) → fits c ≡ true → Fits c
unfolding fits
fits_yes (create slot priority mask) h = leb-true priority greatest_priority h
fits_yes (delete slot) h = tt
fits_yes (load list) h = fits_all_lem list h
fits_yes (wake slot) h = tt
fits_yes (block slot) h = tt

prints : Line → Outcome → Bool
prints l r =
    eqb (number_of r.report.answer) l.answer && (eqb r.report.moves l.moves && (eqb r.report.started l.started
    && (eqb r.report.stopped l.stopped && pointwise nat_eq (take r.dispatcher.cores r.dispatcher.seats) l.seats)))

prints_yes : (l : Line) (r : Outcome) → prints l r ≡ true → Prints l r
unfolding prints
prints_yes l r h =
    let a = and_both (eqb (number_of r.report.answer) l.answer) _ h in
    let b = and_both (eqb r.report.moves l.moves) _ a.1 in
    let c = and_both (eqb r.report.started l.started) _ b.1 in
    let d = and_both (eqb r.report.stopped l.stopped) _ c.1 in
    record {
      answer = eqb-true _ _ a.0;
      moves = eqb-true _ _ b.0;
      started = eqb-true _ _ c.0;
      stopped = eqb-true _ _ d.0;
      seats = (bytes_eq-Decides _ _).0 d.1;
    }

-- ---- the lines of a case, and the cases

follows : Dispatcher → List Line → Bool
follows d [] = true
follows d (l ∷ ls) = let r = model_of l.call d in fits l.call && (prints l r && follows r.dispatcher ls)

follows_yes : (d : Dispatcher) (ls : List Line) → Shaped d → Sound d → follows d ls ≡ true → Follows d ls
unfolding follows
follows_yes d [] L S h = tt
follows_yes d (l ∷ ls) L S h = λ r does.
    let m = model_of l.call d in
    let e : m ≡ r = does_same l.call d (model_does l.call L S) does in
    let a = and_both (fits l.call) _ h in
    let b = and_both (prints l m) _ a.1 in
    let k = does_keeps l.call m (fits_yes l.call a.0) L S (model_does l.call L S) in
    (subst (Prints l) e (prints_yes l m b.0), subst (λ (x : Outcome). Follows x.dispatcher ls) e (follows_yes m.dispatcher ls k.0 k.1 b.1))

holds : Case → Bool
holds c = let r = fresh_of (count_test c.cores) c.cores in eqb (number_of r.report.answer) c.answer && follows r.dispatcher c.lines

holds_yes : (c : Case) → holds c ≡ true → Holds c
unfolding holds
holds_yes c h = record {
  answer = λ r f. ap (λ (x : Outcome). number_of x.report.answer) (freshly_same f model) ∙ eqb-true _ _ k.0;
  lines = λ r f. subst (λ (x : Outcome). Follows x.dispatcher c.lines) (freshly_same model f) (follows_yes _ c.lines (freshly_keeps model).0 (freshly_keeps model).1 k.1);
}
  where
    model : Freshly c.cores (fresh_of (count_test c.cores) c.cores)
    model = freshly (count_decides c.cores)

    k : (eqb (number_of (fresh_of (count_test c.cores) c.cores).report.answer) c.answer ≡ true) × (follows (fresh_of (count_test c.cores) c.cores).dispatcher c.lines ≡ true)
    k = and_both _ _ h

all : List Case → Bool
all [] = true
all (c ∷ cs) = holds c && all cs

all_yes : (cs : List Case) → all cs ≡ true → AllHold cs
unfolding all
all_yes [] h = tt
all_yes (c ∷ cs) h = let k = and_both (holds c) (all cs) h in (holds_yes c k.0, all_yes cs k.1)

computed : all cases ≡ true
unfolding all holds follows prints fits first_of any_below pick seats first turn table find chosen_of arrive_of fill_of
computed = refl

-- the cases that document 01 marks, in one statement
pub cases_hold : AllHold cases
cases_hold = all_yes cases computed
