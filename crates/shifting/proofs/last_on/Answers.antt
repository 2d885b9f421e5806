-- `last_on` meets its promise: of the slots at the passed places of the wake order that sit on a core of the mask, the core of the last one is picked.
use Rattle.std.proofs.Common.{◌≡◌, ℕ, ◌≤◌, ◌<◌, ◌≢◌, ◌⊎◌, inl, inr, true, List, Option, Some, leb, get_or, take, sym, ap, ◌∙◌, arith, le-leb}
use Rattle.laws.proofs.Picking.{by_key}
use Rattle.masks.specs.Masks.{has}
use Rattle.dispatcher.specs.Limits.{slot_limit, none}
use Rattle.dispatcher.specs.Slots.{order_at, seat_at}
use Rattle.dispatcher.specs.declared.Dispatcher.{Dispatcher}
use Rattle.dispatcher.proofs.Reading.{order_read}
use Rattle.order.specs.ComesBefore.{priority_of}
use Rattle.order.specs.Places.{FirstPlaces}
use Rattle.order.proofs.Waking.{ready_priority}
use Rattle.shifting.specs.Picking.{rank_at, LastOn, Held}
use Rattle.shifting.proofs.Board.{core_below}
use Rattle.shifting.proofs.Along.{along_start, along_skip, along_new, along_keep, along_all, stays_ahead, falls_behind, ready_passed, read_is, read_held, read_ready, read_weight}
use Rattle.shifting.proofs.Cores.{core_seat, seat_core}
use Rattle.shifting.proofs.last_on.Invariants.{core_at, rank_on, LastTo}
use Rattle.shifting.proofs.last_on.Goals as goal
use Rattle.shifting.proofs.last_on.Goals.{then-priority-lowest+then-has, else-priority-lowest, else-priority-lowest-via-then-priority-lowest+else-has, else-priority-lowest-via-else-priority-lowest}

module _ {d : Dispatcher} {seen : ℕ} {cores : List ℕ} (H : Held d seen) (F : FirstPlaces (take d.cores d.seats) cores) where
  -- where the order ends
  picked : {k lowest : ℕ} {last : Option ℕ} → k ≤ slot_limit → (slot_limit ≤ k) ⊎ (order_at d k ≡ none) → LastTo d cores seen k last lowest → LastOn d seen last
  picked {k} {last = last} l end A = along_all (λ a b. leb (rank_at d (seat_at d a)) (rank_at d (seat_at d b))) (has seen) last d.cores (omega arith) (λ i b. H.below (core_at d cores i)) passed A
    where
      passed : (c : ℕ) → c < d.cores → has seen c ≡ true → (i : ℕ) × (i < k) × (core_at d cores i ≡ c)
      passed c b t =
          let S = H.lent.sound in
          let held = H.held c t in
          let (i, m, e) = ready_passed H.lent.shaped S end (S.seats c (core_below S b) held).ready in
          (i, m, ap (λ (w : ℕ). get_or cores w 0) e ∙ seat_core H.lent.shaped S F b held)

  -- what sits on the core of the slot at a place is that slot
  rank_is : {i : ℕ} → i < slot_limit → order_at d i ≢ none → has seen (core_at d cores i) ≡ true → rank_on d cores i ≡ rank_at d (order_at d i)
  rank_is {i} l h t = ap (rank_at d) (core_seat H.lent.shaped H.lent.sound F (H.lent.sound.order i l h).slot (H.below (core_at d cores i) t))

  -- what sits on two cores of the mask, that of an earlier place and that of this one
  module _ {p k : ℕ} (b : p < k) (low : k < slot_limit) (held : order_at d k ≢ none) (t : has seen (core_at d cores p) ≡ true) (u : has seen (core_at d cores k) ≡ true) where
    rank_before : rank_on d cores p ≡ rank_at d (order_at d p)
    rank_before = rank_is (omega arith) ((H.lent.sound.order k low held).no_gap p b) t

    rank_here : rank_on d cores k ≡ rank_at d (order_at d k)
    rank_here = rank_is low held u

    later : priority_of d (order_at d k) ≤ priority_of d (order_at d p) → leb (rank_on d cores p) (rank_on d cores k) ≡ true
    later m = le-leb (rank_on d cores p) (rank_on d cores k) (omega (arith, rank_before, rank_here, stays_ahead H.lent.shaped H.lent.sound b low held m))

    earlier : priority_of d (order_at d p) < priority_of d (order_at d k) → leb (rank_on d cores k) (rank_on d cores p) ≡ true
    earlier m = le-leb (rank_on d cores k) (rank_on d cores p) (omega (arith, rank_before, rank_here, falls_behind H.lent.shaped H.lent.sound b low held m))

pub loop-slot-init : goal.loop-slot-init
loop-slot-init c = along_start

pub returns-then-slot-eq-NONE : goal.returns-then-slot-eq-NONE
returns-then-slot-eq-NONE c =
    picked c.requires (rw c.from.ensures at c.first_places-cores.ensures) (omega arith)
    (inr (order_read c.args.d.now c.loop-slot.slot-index c.requires.lent.shaped.order c.loop-slot-test.true ∙ c.if-slot-eq-NONE.true)) c.loop-slot.invariant

pub bounds-d-slot : goal.bounds-d-slot
bounds-d-slot c = (read_ready c.requires.lent.shaped c.requires.lent.sound c.loop-slot-test.true c.from-slot.ensures c.if-slot-eq-NONE.false).slot

pub bounds-cores-slot : goal.bounds-cores-slot
bounds-cores-slot c = (read_ready c.requires.lent.shaped c.requires.lent.sound c.loop-slot-test.true c.from-slot.ensures c.if-slot-eq-NONE.false).slot

pub loop-slot-preserved : goal.loop-slot-preserved
loop-slot-preserved c =
    let L = c.requires.lent.shaped in
    let S = c.requires.lent.sound in
    let F = rw c.from.ensures at c.first_places-cores.ensures in
    let low = c.loop-slot-test.true in
    let busy = c.if-slot-eq-NONE.false in
    let held = read_held L S low c.from-slot.ensures busy in
    let weight = read_weight L S low c.from-slot.ensures busy in
    let core : c.from-core.result ≡ core_at c.args.d.now c.first_places-cores.result c.loop-slot.slot-index =
    c.from-core.ensures ∙ ap (λ (x : ℕ). get_or c.first_places-cores.result x 0) (sym (read_is L S low c.from-slot.ensures busy)) in
    elim c.if-priority-lowest.branch [
      | then-priority-lowest+then-has w ↦
          let here : has c.args.seen (core_at c.args.d.now c.first_places-cores.result c.loop-slot.slot-index) ≡ true = cc in
          rw (w.last-is ∙ ap Some core, w.lowest-is ∙ sym weight)
          (along_new c.loop-slot.invariant (omega arith) (by_key (rank_on c.args.d.now c.first_places-cores.result)) here (λ p b t q. later c.requires F b low held t here (omega (arith, q, weight, w.if-priority-lowest.true))))
      | else-priority-lowest w ↦ rw (w.last-is, w.lowest-is) (elim w.else-priority-lowest.branch [
        | else-priority-lowest-via-then-priority-lowest+else-has v ↦ along_skip c.loop-slot.invariant (cc)
        | else-priority-lowest-via-else-priority-lowest v ↦
            along_keep c.loop-slot.invariant (λ z. omega (arith, z, v.if-priority-lowest.false, (ready_priority S (read_ready L S low c.from-slot.ensures busy)).1))
            (λ here p b t q. earlier c.requires F b low held t here (omega (arith, q, weight, v.if-priority-lowest.false)))
      ])
    ]

pub returns : goal.returns
returns c = picked c.requires (rw c.from.ensures at c.first_places-cores.ensures) c.loop-slot.auto.slot-index-end (inl c.loop-slot-test.false) c.loop-slot.invariant
