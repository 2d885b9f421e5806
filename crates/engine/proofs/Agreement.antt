-- The engine and the dispatcher: after any sequence of calls the one keeps the tasks that the other runs; and neither can be bettered in any class.
use Prim.Native.Nat.{ℕ, ◌≤◌}
use mathlib.Core.Path.{◌≡◌, refl, ap}
use mathlib.Core.Logic.{◌↔◌, inl, inr}
use mathlib.Core.Bool.{true}
use mathlib.Core.List.{List}
use Rattle.std.specs.Prelude.{Option, Some, None, Result, Ok, Err, IfOk, IsOkAnd}
use native.Mathlib.Omega.{arith}
use Rattle.laws.proofs.Deciding.{decides_le, decides_yes}
use Rattle.seating.specs.Class.{Upward}
use Rattle.seating.proofs.Class.{keeps_most}
use Rattle.seating.proofs.Greedy.{greedy_keeps, greedy_runs}
use Rattle.dispatcher.specs.Slots.{seat_at, Ready, Shaped}
use Rattle.dispatcher.specs.Sound.{Sound}
use Rattle.dispatcher.specs.declared.Refusal.{Refusal}
use Rattle.dispatcher.specs.declared.Dispatcher.{Dispatcher}
use Rattle.dispatcher.proofs.Ready.{ready_real}
use Rattle.order.specs.ComesBefore.{priority_of, ComesBefore}
use Rattle.shifting.specs.Board.{Runs}
use Rattle.shifting.specs.Rule.{KeepsIn}
use Rattle.shifting.proofs.Board.{ranked}
use Rattle.calls.specs.Sequence.{Step, After}
use Rattle.calls.proofs.Demands.{demand_2, sound_after}
use Rattle.engine.specs.declared.Kept.{Kept}
use Rattle.engine.specs.Keep.{kept_in, seat_of, answer_in, EngineKeeps}
use Rattle.engine.specs.Difference.{Difference, Compares}
use Rattle.engine.proofs.Keeping.{sound_kept}
use Rattle.engine.specs.Classes.{from_priority, MostFrom}

-- what follows for a result's value
ok_and : {A E : Type 0} {P Q : A → Type 0} (r : Result A E) → IsOkAnd r P → ((a : A) → P a → Q a) → IsOkAnd r Q
ok_and (Ok a) p f = f a p
ok_and (Err e) p f = absurd p

-- ---- of any sound dispatcher, whatever its seats

-- the engine's seating keeps demand 2
pub kept_rule : {d : Dispatcher} {r : Result Kept Refusal} → Shaped d → Sound d → EngineKeeps d r → IsOkAnd r (λ kept. KeepsIn d (seat_of kept))
kept_rule {d} {r} L S K = ok_and r (sound_kept S K) λ kept W. greedy_keeps (ranked L S) (λ t. ready_real) W.greedy W.legal W.seated

-- whoever comes before a task of priority p or above is of priority p or above
priority_upward : (d : Dispatcher) (p : ℕ) → Upward (ComesBefore d) (Ready d) (from_priority d p)
priority_upward d p = record { up = λ t u _ _ b h. decides_yes (decides_le p (priority_of d t)) (higher t u b ((decides_le p (priority_of d u)).yes h)) }
  where
    higher : (t u : ℕ) → ComesBefore d t u → p ≤ priority_of d u → p ≤ priority_of d t
    higher t u (inl a) h = omega arith
    higher t u (inr (e, a)) h = omega arith

-- no legal seating of the ready tasks runs more tasks of priority p or above than one that keeps demand 2, and so than the engine's
pub rule_most : {d : Dispatcher} {s : ℕ → ℕ} → Shaped d → Sound d → KeepsIn d s → (p : ℕ) → MostFrom d p s
rule_most {d} L S R p = keeps_most (ranked L S) R (priority_upward d p)

pub kept_most : {d : Dispatcher} {r : Result Kept Refusal} → Shaped d → Sound d → EngineKeeps d r → IsOkAnd r (λ kept. (p : ℕ) → MostFrom d p (seat_of kept))
kept_most {d} {r} L S K = ok_and r (kept_rule L S K) λ kept. rule_most L S

-- ---- after any sequence of calls

pub run_most : (n : ℕ) (l : List Step) (d : Dispatcher) → After n l d → (p : ℕ) → MostFrom d p (seat_at d)
run_most n l d h = let k = sound_after n l d h in rule_most k.0 k.1 (demand_2 n l d h).seats

-- it keeps exactly the tasks that the dispatcher runs
pub keeps_who_runs : (n : ℕ) (l : List Step) (d : Dispatcher) (r : Result Kept Refusal) → After n l d → EngineKeeps d r → IsOkAnd r (λ kept. (t : ℕ) → (kept_in kept t ≡ true) ↔ Runs d t)
keeps_who_runs n l d r h K = let k = sound_after n l d h in ok_and r (sound_kept k.1 K) λ kept W. greedy_runs (ranked k.0 k.1) (demand_2 n l d h).seats W.greedy

-- so that no difference is ever found, and none is refused
pub never_differs : (n : ℕ) (l : List Step) (d : Dispatcher) (r : Result (Option ℕ) Refusal) → After n l d → Compares d r → r ≡ Ok None
never_differs n l d r h C = go r C.kept (keeps_who_runs n l d C.kept h C.keeps) C.answer C.done
  where
    none : (kept : Kept) (slot : Option ℕ) → ((t : ℕ) → (kept_in kept t ≡ true) ↔ Runs d t) → Difference d kept.tasks slot → slot ≡ None
    none kept (Some slot) same D = absurd (D.fails (same slot))
    none kept None same D = refl

    go : (r : Result (Option ℕ) Refusal) (k : Result Kept Refusal) → IsOkAnd k (λ kept. (t : ℕ) → (kept_in kept t ≡ true) ↔ Runs d t) → answer_in r ≡ answer_in k → IfOk k (λ kept. IfOk r (Difference d kept.tasks)) → r ≡ Ok None
    go (Ok slot) (Ok kept) same e D = ap Ok (none kept slot same D)
    go (Err refusal) (Ok kept) same e D = cc
    go r (Err refusal) same e D = absurd same
