-- Any two results that the promise of load allows are the same.
use Prim.Native.Nat.{ℕ}
use mathlib.Core.Path.{◌≡◌, sym, ap, ◌∙◌}
use mathlib.Core.Logic.{◌⊎◌, inl, inr}
use mathlib.Core.List.{List}
use native.Mathlib.Decide.{ℕ_discrete}
use Rattle.laws.specs.Lists.{In}
use Rattle.laws.specs.Answering.{checked_first}
use Rattle.laws.proofs.Lists.{in_or_not}
use Rattle.dispatcher.specs.Answers.{number_of}
use Rattle.dispatcher.specs.Reports.{still_of}
use Rattle.dispatcher.specs.declared.TaskRecord.{TaskRecord}
use Rattle.dispatcher.specs.declared.Dispatcher.{Dispatcher}
use Rattle.dispatcher.specs.declared.Outcome.{Outcome}
use Rattle.dispatcher.proofs.Same.{outcome_same, promised_same}
use Rattle.boot.specs.Load.{AllCreated, AllOrNone, outcome_of, Names, Loads}
use Rattle.boot.specs.declared.Loaded.{Loaded}
use Rattle.boot.proofs.Refusing.{first_same}
use Rattle.boot.proofs.Filling.{created_filling, filling_same}

all_created_same : {d : Dispatcher} {list : List TaskRecord} {r q : Outcome} → r.report.answer ≡ q.report.answer → AllCreated d list r → AllCreated d list q → r ≡ q
all_created_same e a b = outcome_same (a.still ∙ ap still_of e ∙ sym b.still) (filling_same (created_filling a) (created_filling b))

pub all_or_none_same : {d : Dispatcher} {list : List TaskRecord} {r q : Outcome} → AllOrNone d list r → AllOrNone d list q → r ≡ q
all_or_none_same = promised_same all_created_same

names_same : {d : Dispatcher} {list : List TaskRecord} {n i j : ℕ} → Names d list n i → Names d list n j → i ≡ j
names_same {n = n} {i} {j} a b = go (ℕ_discrete n 0) (in_or_not n checked_first)
  where
    go : Dec (n ≡ 0) → In n checked_first ⊎ (In n checked_first → ⊥) → i ≡ j
    go (yes z) _ = a.whole (inl z) ∙ sym (b.whole (inl z))
    go (no z) (inl e) = a.whole (inr e) ∙ sym (b.whole (inr e))
    go (no z) (inr e) = (first_same (a.record_number z e) (b.record_number z e)).0

pub loads_same : {d : Dispatcher} {list : List TaskRecord} {r q : Loaded} → Loads d list r → Loads d list q → r ≡ q
loads_same {d} {list} {r} {q} a b = λ i. record { report = record { report = (same i).report; index = index i }; dispatcher = (same i).dispatcher }
  where
    same : outcome_of r ≡ outcome_of q
    same = all_or_none_same a.all_or_none b.all_or_none

    index : r.report.index ≡ q.report.index
    index = names_same a.names (rw (← ap (λ (o : Outcome). number_of o.report.answer) same) at b.names)
