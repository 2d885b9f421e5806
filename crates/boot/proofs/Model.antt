-- What load does, as a function that computes, over what the check of soundness says; and that it meets the promise.
use Prim.Native.Nat.{ℕ, ◌+◌, ◌≤◌}
use mathlib.Core.Path.{◌≡◌, refl, ap}
use mathlib.Core.Logic.{◌⊎◌, inl, inr}
use mathlib.Core.Bool.{true, false, cond}
use mathlib.Core.List.{List, [], ◌∷◌}
use native.Mathlib.Omega.{arith}
use lib.ListN.{length, drop, length-drop}
use lib.Dec.{eqb}
use Rattle.std.specs.Prelude.{Ok}
use Rattle.laws.specs.Answering.{Answers}
use Rattle.dispatcher.specs.Reports.{still_of}
use borrow.Author.Tests.{eq-eqb, ne_eqb}
use Rattle.laws.proofs.Deciding.{cases}
use Rattle.laws.proofs.Testing.{eqb_eq, eqb_ne}
use Rattle.dispatcher.specs.Slots.{Shaped}
use Rattle.dispatcher.specs.Answers.{Answer, number_of}
use Rattle.dispatcher.specs.Unsound.{unsound_refusals}
use Rattle.dispatcher.specs.Promise.{Answered}
use Rattle.dispatcher.specs.declared.TaskRecord.{TaskRecord}
use Rattle.dispatcher.specs.declared.Dispatcher.{Dispatcher}
use Rattle.dispatcher.specs.declared.Outcome.{Outcome}
use Rattle.dispatcher.proofs.Judging.{first_of}
use Rattle.dispatcher.proofs.Unsound.{done_sound}
use Rattle.tasks.proofs.Model.{entry_tests, entry_answers, settled}
use Rattle.boot.specs.Load.{record_at, AllOrNone}
use Rattle.boot.specs.Loading.{Comes}
use Rattle.boot.proofs.Filling.{with_record}
use Rattle.boot.proofs.Refusing.{entry_of}
use Rattle.boot.proofs.Advancing.{Goes, goes_none, goes_next, goes_refused, comes_unsound, comes_refused, comes_done, comes_loads, left_below, left_here, left_later}

-- the answer that the records from the i-th on come to, the index that goes with it, and what the records before it make of e
record Walked : Type 0 where
  answer : Answer
  index : ℕ
  dispatcher : Dispatcher

abbrev entered : Dispatcher → TaskRecord → Answer
entered e t = first_of (entry_tests e t.slot t.priority t.mask)

abbrev walk_of : ℕ → Dispatcher → List TaskRecord → Walked
walk_of i e [] = record { answer = Ok tt; index = 0; dispatcher = e }
walk_of i e (t ∷ ts) =
    let rest = walk_of (i + 1) (with_record e t) ts in
    cond (eqb (number_of (entered e t)) 0) rest (record { answer = entered e t; index = i; dispatcher = e })

walk_comes : {d : Dispatcher} {list : List TaskRecord} (e : Dispatcher) (ts : List TaskRecord) (i : ℕ) → Shaped d → drop i list ≡ ts → i ≤ length list → Goes d list i e
    → Comes d list (walk_of i e ts).answer (walk_of i e ts).index (walk_of i e ts).dispatcher
walk_comes {list = list} e [] i L left l g =
    let end : length list ≡ i = omega (arith, length-drop i list, ap length left) in
    comes_done (rw end g)
walk_comes {d} {list} e (t ∷ ts) i L left l g =
    go (cases (eqb (number_of (entered e t)) 0)) (λ z. walk_comes (with_record e t) ts (i + 1) L (left_later list ts i left) (omega (arith, left_below list ts i left)) (next z))
  where
    judged : Answers (entry_of e (record_at list i)) (number_of (entered e t))
    judged = rw (left_here list ts i left) (entry_answers e t.slot t.priority t.mask)

    next : number_of (entered e t) ≡ 0 → Goes d list (i + 1) (with_record e t)
    next z = rw (← left_here list ts i left) (goes_next g L (rw z at judged))

    rest : Walked
    rest = walk_of (i + 1) (with_record e t) ts

    go : (eqb (number_of (entered e t)) 0 ≡ true) ⊎ (eqb (number_of (entered e t)) 0 ≡ false) → (number_of (entered e t) ≡ 0 → Comes d list rest.answer rest.index rest.dispatcher)
        → Comes d list (walk_of i e (t ∷ ts)).answer (walk_of i e (t ∷ ts)).index (walk_of i e (t ∷ ts)).dispatcher
    go (inl y) on = rw y (on (eqb_eq y))
    go (inr n) on = rw n (comes_refused (entered e t) g.sound (goes_refused g (left_below list ts i left) judged (eqb_ne n)))

-- j is what the check of soundness says
abbrev pub load_of : Answer → Dispatcher → List TaskRecord → Outcome
load_of j d list = let w = walk_of 0 d list in let o = settled w.answer d w.dispatcher in cond (eqb (number_of j) 0) o (record { report = still_of j; dispatcher = d })

pub load_loads : {d : Dispatcher} (j : Answer) (list : List TaskRecord) → Shaped d → Answered (unsound_refusals d) d j → AllOrNone d list (load_of j d list)
load_loads {d} j list L s = go (cases (eqb (number_of j) 0))
  where
    w : Walked
    w = walk_of 0 d list

    go : (eqb (number_of j) 0 ≡ true) ⊎ (eqb (number_of j) 0 ≡ false) → AllOrNone d list (load_of j d list)
    go (inl y) =
        rw y (comes_loads {f = (settled w.answer d w.dispatcher).dispatcher} w.answer (walk_comes d list 0 L refl (omega arith) (goes_none list (done_sound d {rs = []} s.answer (eqb_eq y)))) (λ z. rw (eq-eqb _ 0 z) refl) (λ z. rw (ne_eqb _ 0 z) refl)).all_or_none
    go (inr n) = rw n (comes_loads {e = d} {f = d} j (comes_unsound j s (eqb_ne n)) (λ z. absurd (eqb_ne n z)) (λ _. refl)).all_or_none
