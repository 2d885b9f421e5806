-- Fresh, create, delete and load keep demands 2 and 3, and so does every call; and who is ready after each.
use Prim.Native.Nat.{ℕ}
use mathlib.Core.Path.{◌≡◌, refl, sym, ap, subst}
use mathlib.Core.Logic.Iff
use mathlib.Core.Logic.{◌≢◌, inl, inr, ◌↔◌}
use native.Mathlib.Decide.{ℕ_discrete}
use native.Mathlib.Omega.{arith}
use mathlib.Core.List.{List}
use lib.ListN.{get_or, set, get_or-replicate}
use lib.Seq.{get_or-set_other}
use Rattle.seating.proofs.Rules.{keeps_agree, stays_least}
use Rattle.dispatcher.specs.Limits.{slot_limit, none}
use Rattle.dispatcher.specs.Slots.{no_task, task_at, seat_at, Ready, Shaped}
use Rattle.dispatcher.specs.Sound.{Sound}
use Rattle.dispatcher.specs.Answers.{number_of}
use Rattle.dispatcher.specs.Reports.{still_of}
use Rattle.dispatcher.specs.Fresh.{empty_of, Freshly}
use Rattle.dispatcher.specs.declared.Task.{Task}
use Rattle.dispatcher.specs.declared.TaskRecord.{TaskRecord}
use Rattle.dispatcher.specs.declared.Report.{Report}
use Rattle.dispatcher.specs.declared.Dispatcher.{Dispatcher}
use Rattle.dispatcher.specs.declared.Outcome.{Outcome}
use Rattle.dispatcher.proofs.Ready.{ready_alike}
use Rattle.dispatcher.proofs.Stable.{ready_or_not}
use Rattle.dispatcher.proofs.Freshness.{freshly_keeps}
use Rattle.order.specs.ComesBefore.{priority_of, ComesBefore}
use Rattle.shifting.specs.Rule.{KeepsIn}
use Rattle.shifting.proofs.Board.{legal}
use Rattle.tasks.specs.Table.{with_task, Writes}
use Rattle.tasks.specs.Create.{Creates}
use Rattle.boot.specs.Load.{AllCreated, AllOrNone}
use Rattle.boot.proofs.Keeping.{loaded_off}
use Rattle.readiness.proofs.Keeping.{Ruled, promised_keeps, Rule, promised_rule, some_core, wake_rule, block_rule, block_ready}
use Rattle.deletion.specs.Delete.{BlocksThenEmpties, Deletes}
use Rattle.deletion.proofs.Keeping.{block_done, ended_off}
use Rattle.calls.specs.Call.{Call, create, delete, load, wake, block, Does}
use Rattle.tasks.proofs.Keeping.{created_off}

-- ---- fresh

empty_ready : (n t : ℕ) → Ready (empty_of n) t → ⊥
empty_ready n t r = let e = get_or-replicate slot_limit r.place none none r.within in omega (arith, e, r.stands, r.slot)

pub fresh_ready : {n : ℕ} {r : Outcome} → Freshly n r → (t : ℕ) → Ready r.dispatcher t → ⊥
fresh_ready {n} {r} f t = elim (ℕ_discrete (number_of r.report.answer) 0) [ yes z ↦ rw (f.done z) (empty_ready n t) | no z ↦ rw (f.refused z) (empty_ready 1 t) ]

-- nobody is ready, so nobody waits
pub fresh_rule : {n : ℕ} {r : Outcome} → Freshly n r → KeepsIn r.dispatcher (seat_at r.dispatcher)
fresh_rule {r = r} f = record {
  legal = legal (freshly_keeps f).1;
  strong = record { no_idle = λ w c u. absurd (fresh_ready f w u.ready); none_after = λ w c u. absurd (fresh_ready f w u.ready) };
}

-- ---- slots that are not ready get other tasks, or none

abbrev with_tasks : Dispatcher → List Task → Dispatcher
with_tasks d ts = record { cores = d.cores; tasks = ts; order = d.order; seats = d.seats }

-- the ready tasks are the same in ts and us
module _ (d : Dispatcher) (ts us : List Task) (same : (t : ℕ) → Ready d t → get_or us t no_task ≡ get_or ts t no_task) where
  same_task : {t : ℕ} → Ready (with_tasks d ts) t → get_or us t no_task ≡ get_or ts t no_task
  same_task r = same _ (ready_alike refl r)

  same_priority : {t : ℕ} → Ready (with_tasks d ts) t → priority_of (with_tasks d us) t ≡ priority_of (with_tasks d ts) t
  same_priority r = ap (λ (x : Task). x.priority) (same_task r)

  same_order : {t u : ℕ} → Ready (with_tasks d ts) t → Ready (with_tasks d ts) u → ComesBefore (with_tasks d us) t u → ComesBefore (with_tasks d ts) t u
  same_order rt ru (inl h) = let a = same_priority rt in let b = same_priority ru in inl (omega arith)
  same_order rt ru (inr (e, h)) = let a = same_priority rt in let b = same_priority ru in inr (omega arith, h)

  other_keeps : {s : ℕ → ℕ} → KeepsIn (with_tasks d ts) s → KeepsIn (with_tasks d us) s
  other_keeps = keeps_agree (λ t c r l. rw (same_task r) refl) (λ t u r q. same_order r q) (λ t r. ready_alike refl r) (λ t r. ready_alike refl r)

-- what holds of a call that leaves x holds still where slots of x that are not ready are written
module _ (x : Dispatcher) (ts : List Task) (same : (t : ℕ) → Ready x t → get_or ts t no_task ≡ task_at x t) where
  aside_rule : (d : Dispatcher) {moves : ℕ} → Rule d x moves → Rule d (with_tasks x ts) moves
  aside_rule d R = (other_keeps x x.tasks ts same R.0, record { fewest = λ s K. R.1.fewest s (other_keeps x ts x.tasks (λ t r. sym (same t r)) K); told = R.1.told; below = R.1.below })

  aside_ready : (t : ℕ) → Ready (with_tasks x ts) t ↔ Ready x t
  aside_ready t = (ready_alike refl, ready_alike refl)

-- a call that leaves the seats, with a report of no move
stays_rule : {d : Dispatcher} → Sound d → KeepsIn d (seat_at d) → Rule d d 0
stays_rule S K = (K, stays_least (some_core S) K)

still_moves : {r : Report} → r ≡ still_of r.answer → r.moves ≡ 0
still_moves e = ap (λ (x : Report). x.moves) e

-- ---- create and delete: one slot

module _ (d : Dispatcher) (slot : ℕ) (v : Task) (off : Ready d slot → ⊥) where
  same_but : (t : ℕ) → Ready d t → task_at (with_task d slot v) t ≡ task_at d t
  same_but t r = get_or-set_other d.tasks slot t v no_task (λ e. off (subst (Ready d) e r))

  slot_rule : (b : Dispatcher) {moves : ℕ} → Rule b d moves → Rule b (with_task d slot v) moves
  slot_rule = aside_rule d (set d.tasks slot v) same_but

  slot_ready : (t : ℕ) → Ready (with_task d slot v) t ↔ Ready d t
  slot_ready = aside_ready d (set d.tasks slot v) same_but

  writes_rule : {r : Outcome} → Sound d → KeepsIn d (seat_at d) → Writes d slot v r → Rule d r.dispatcher r.report.moves
  writes_rule S K W = rw (W.written, still_moves W.still) (slot_rule d (stays_rule S K))

  writes_ready : {r : Outcome} → Writes d slot v r → (t : ℕ) → Ready r.dispatcher t ↔ Ready d t
  writes_ready W t = rw W.written (slot_ready t)

pub create_rule : {d : Dispatcher} {slot priority mask : ℕ} {r : Outcome} → Sound d → KeepsIn d (seat_at d) → Creates d slot priority mask r → Ruled d r
create_rule {d} {slot} S K C = promised_rule C K (λ z. writes_rule d slot _ (created_off S C z) S K (C.done z))

pub create_ready : {d : Dispatcher} {slot priority mask : ℕ} {r : Outcome} → Sound d → Creates d slot priority mask r → (t : ℕ) → Ready r.dispatcher t ↔ Ready d t
create_ready {d} {slot} S C t = promised_keeps (λ x. Ready x t ↔ Ready d t) C Iff.rfl (λ z. writes_ready d slot _ (created_off S C z) (C.done z) t)

-- a ready task is blocked, and then its slot, not ready any more, is emptied: what holds of the block holds of the delete
module _ {d : Dispatcher} {slot : ℕ} {r : Outcome} (L : Shaped d) (S : Sound d) (D : Deletes d slot r) where
  ended_rule : number_of r.report.answer ≡ 0 → KeepsIn d (seat_at d) → BlocksThenEmpties d slot r → Rule d r.dispatcher r.report.moves
  ended_rule z K E =
      let k = block_rule L S K E.blocks in
      rw (E.emptied, E.reported) (slot_rule E.block.dispatcher slot no_task (ended_off E z L S) d (k.0, k.1 (block_done E z)))

  pub delete_rule : KeepsIn d (seat_at d) → Ruled d r
  delete_rule K = promised_rule D K (λ z. elim (ready_or_not d slot) [ inl on ↦ ended_rule z K ((D.done z).ready on) | inr off ↦ writes_rule d slot no_task off S K ((D.done z).not_ready off) ])

  ended_ready : number_of r.report.answer ≡ 0 → BlocksThenEmpties d slot r → (t : ℕ) → Ready r.dispatcher t ↔ (Ready d t × (t ≢ slot))
  ended_ready z E t =
      let e = slot_ready E.block.dispatcher slot no_task (ended_off E z L S) t in
      let k = block_ready L S E.blocks (block_done E z) t in
      rw E.emptied (grind arith)

  pub delete_ready : number_of r.report.answer ≡ 0 → (t : ℕ) → Ready r.dispatcher t ↔ (Ready d t × (t ≢ slot))
  delete_ready z t = elim (ready_or_not d slot) [
    | inl on ↦ ended_ready z ((D.done z).ready on) t
    | inr off ↦ let w = writes_ready d slot no_task off ((D.done z).not_ready off) t in ((λ q. (w.0 q, λ e. off (subst (Ready d) e (w.0 q)))), λ q. w.1 q.0)
  ]

-- ---- load: empty slots

module _ {d : Dispatcher} {list : List TaskRecord} {r : Outcome} (S : Sound d) (F : AllOrNone d list r) (z : number_of r.report.answer ≡ 0) where
  all_created : AllCreated d list r
  all_created = F.done z

  is_created : r.dispatcher ≡ with_tasks d r.dispatcher.tasks
  is_created = λ i. record { cores = all_created.cores i; tasks = r.dispatcher.tasks; order = all_created.order i; seats = all_created.seats i }

  -- a ready slot is in use, and so no record names it
  same_created : (t : ℕ) → Ready d t → task_at r.dispatcher t ≡ task_at d t
  same_created t q = all_created.others t (λ i l e. loaded_off S F z i l (rw e q))

  created_rule : KeepsIn d (seat_at d) → Rule d r.dispatcher r.report.moves
  created_rule K = rw (is_created, still_moves all_created.still) (aside_rule d r.dispatcher.tasks same_created d (stays_rule S K))

  created_ready : (t : ℕ) → Ready r.dispatcher t ↔ Ready d t
  created_ready t = rw is_created (aside_ready d r.dispatcher.tasks same_created t)

pub load_rule : {d : Dispatcher} {list : List TaskRecord} {r : Outcome} → Sound d → KeepsIn d (seat_at d) → AllOrNone d list r → Ruled d r
load_rule S K F = promised_rule F K (λ z. created_rule S F z K)

pub load_ready : {d : Dispatcher} {list : List TaskRecord} {r : Outcome} → Sound d → AllOrNone d list r → (t : ℕ) → Ready r.dispatcher t ↔ Ready d t
load_ready {d} S F t = promised_keeps (λ x. Ready x t ↔ Ready d t) F Iff.rfl (λ z. created_ready S F z t)

-- ---- any call

pub does_rule : (c : Call) {d : Dispatcher} (r : Outcome) → Shaped d → Sound d → KeepsIn d (seat_at d) → Does c d r → Ruled d r
does_rule (create slot priority mask) r L S K h = create_rule S K h
does_rule (delete slot) r L S K h = delete_rule L S h K
does_rule (load list) r L S K h = load_rule S K h
does_rule (wake slot) r L S K h = wake_rule L S K h
does_rule (block slot) r L S K h = block_rule L S K h
