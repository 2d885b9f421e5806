-- `first_seeking` meets its promise: of the slots at the passed places of the wake order that wait and whose mask meets the cores, the first is picked.
use Rattle.std.proofs.Common.{◌≡◌, ℕ, ◌≤◌, ◌<◌, ◌≢◌, ◌⊎◌, inl, inr, List, Option, Some, leb, take, bit_and, sym, ap, ◌∙◌, arith, le-leb}
use Rattle.laws.specs.Decides.{Decides}
use Rattle.laws.proofs.Picking.{by_key, turned}
use Rattle.dispatcher.specs.Limits.{slot_limit, none}
use Rattle.dispatcher.specs.Slots.{task_at, order_at}
use Rattle.dispatcher.specs.declared.Dispatcher.{Dispatcher}
use Rattle.dispatcher.proofs.Reading.{order_read}
use Rattle.order.specs.Places.{FirstPlaces}
use Rattle.order.proofs.Waking.{ready_priority}
use Rattle.shifting.specs.Board.{Waits, Lent}
use Rattle.shifting.specs.Picking.{rank_at, FirstSeeking}
use Rattle.shifting.proofs.Along.{along_start, along_skip, along_new, along_keep, along_all, stays_ahead, falls_behind, ready_passed, read_is, read_held, read_ready, read_weight}
use Rattle.shifting.proofs.Seeking.{wait_test, wait_tells, wait_small, ready_test_lem}
use Rattle.shifting.proofs.first_seeking.Invariants.{FirstTo}
use Rattle.shifting.proofs.first_seeking.Goals as goal
use Rattle.shifting.proofs.first_seeking.Goals.{then-highest-task+then-seeks, else-highest-task, else-highest-task-via-then-highest-task+else-seeks, else-highest-task-via-else-highest-task}

-- where the order ends
picked : {d : Dispatcher} {cores : List ℕ} (lead : ℕ) (H : Lent d) (F : FirstPlaces (take d.cores d.seats) cores) {k highest : ℕ} {first : Option ℕ} → k ≤ slot_limit → (slot_limit ≤ k) ⊎ (order_at d k ≡ none)
    → FirstTo d cores lead k first highest → FirstSeeking d lead first
picked {d} {cores} lead H F {first = first} l end A = record {
  test = wait_test d cores lead;
  tells = told;
  picks = along_all (λ a b. leb (rank_at d b) (rank_at d a)) (wait_test d cores lead) first slot_limit (omega arith) (λ i b. wait_small d cores lead (order_at d i)) (λ w b t. ready_passed H.shaped H.sound end ((told w b).yes t).0.ready) A;
}
  where
    told : (w : ℕ) → w < slot_limit → Decides (Waits d w × (bit_and (task_at d w).mask lead ≢ 0)) (wait_test d cores lead w)
    told w b = wait_tells H.shaped H.sound F b lead

pub loop-slot-init : goal.loop-slot-init
loop-slot-init c = along_start

pub returns-then-slot-eq-NONE : goal.returns-then-slot-eq-NONE
returns-then-slot-eq-NONE c =
    picked c.args.lead c.requires (rw c.from.ensures at c.first_places-cores.ensures) (omega arith)
    (inr (order_read c.args.d.now c.loop-slot.slot-index c.requires.shaped.order c.loop-slot-test.true ∙ c.if-slot-eq-NONE.true)) c.loop-slot.invariant

pub bounds-d-at : goal.bounds-d-at
bounds-d-at c = (read_ready c.requires.shaped c.requires.sound c.loop-slot-test.true c.from-at.ensures c.if-slot-eq-NONE.false).slot

pub loop-slot-preserved : goal.loop-slot-preserved
loop-slot-preserved c =
    let L = c.requires.shaped in
    let S = c.requires.sound in
    let F = rw c.from.ensures at c.first_places-cores.ensures in
    let low = c.loop-slot-test.true in
    let busy = c.if-slot-eq-NONE.false in
    let is = read_is L S low c.from-at.ensures busy in
    let held = read_held L S low c.from-at.ensures busy in
    let ready = read_ready L S low c.from-at.ensures busy in
    let weight = read_weight L S low c.from-at.ensures busy in
    let rank : ℕ → ℕ = λ i. rank_at c.args.d.now (order_at c.args.d.now i) in
    let test = ap (wait_test c.args.d.now c.first_places-cores.result c.args.lead) is ∙ ready_test_lem c.first_places-cores.result c.args.lead ready in
    elim c.if-highest-task.branch [
      | then-highest-task+then-seeks w ↦
          rw (w.first-is ∙ ap Some (sym c.from-at.ensures ∙ sym is), w.highest-is ∙ sym weight)
          (along_new c.loop-slot.invariant (omega arith) (turned (by_key rank)) (test ∙ sym w.seeks.ensures ∙ w.if-seeks.true)
          (λ p b t q. le-leb (rank c.loop-slot.slot-index) (rank p) (omega (arith, falls_behind L S b low held (omega (arith, q, weight, w.if-highest-task.true))))))
      | else-highest-task w ↦ rw (w.first-is, w.highest-is) (elim w.else-highest-task.branch [
        | else-highest-task-via-then-highest-task+else-seeks v ↦ along_skip c.loop-slot.invariant (test ∙ sym v.seeks.ensures ∙ v.if-seeks.false)
        | else-highest-task-via-else-highest-task v ↦
            along_keep c.loop-slot.invariant (λ z. omega (arith, z, v.if-highest-task.false, (ready_priority S ready).0))
            (λ _ p b t q. le-leb (rank p) (rank c.loop-slot.slot-index) (omega (arith, stays_ahead L S b low held (omega (arith, q, weight, v.if-highest-task.false)))))
      ])
    ]

pub returns : goal.returns
returns c = picked c.args.lead c.requires (rw c.from.ensures at c.first_places-cores.ensures) c.loop-slot.auto.slot-index-end (inl c.loop-slot-test.false) c.loop-slot.invariant
