-- Any two results that the promise of wake, or of block, allows are the same.
use Prim.Native.Nat.{ℕ}
use mathlib.Core.Path.{◌≡◌, sym, ap, ◌∙◌}
use mathlib.Core.Logic.{inl, inr}
use lib.ListN.{length}
use lib.Seq.{ext_get_or}
use Rattle.seating.proofs.Same.{runs_dec}
use Rattle.seating.proofs.Once.{arrives_same, fills_same}
use Rattle.dispatcher.specs.Limits.{none}
use Rattle.dispatcher.specs.Slots.{seat_at, Ready}
use Rattle.dispatcher.specs.Answers.{number_of}
use Rattle.dispatcher.specs.Reports.{still_of}
use Rattle.dispatcher.specs.Promise.{Promised}
use Rattle.dispatcher.specs.declared.Dispatcher.{Dispatcher}
use Rattle.dispatcher.specs.declared.Report.{Report}
use Rattle.dispatcher.specs.declared.Outcome.{Outcome}
use Rattle.dispatcher.proofs.Same.{outcome_same, promised_same}
use Rattle.order.specs.Changes.{joined_of}
use Rattle.order.proofs.Ranking.{before_not_back}
use Rattle.shifting.specs.Board.{with_seats}
use Rattle.readiness.specs.Wake.{Woken, Wakes}
use Rattle.readiness.specs.Block.{Refills, Blocked, block_refusals, Blocks}
use Rattle.readiness.proofs.Turning.{blocked_ready}

-- ---- a dispatcher with other seats, and a report of it

seats_same : (d : Dispatcher) {x y : Dispatcher} → x ≡ with_seats d x.seats → y ≡ with_seats d y.seats → length x.seats ≡ length d.seats → length y.seats ≡ length d.seats
    → ((c : ℕ) → seat_at x c ≡ seat_at y c) → x ≡ y
seats_same d {x} {y} p q m n each = p ∙ ap (with_seats d) (ext_get_or none x.seats y.seats (m ∙ sym n) (λ c _. each c)) ∙ sym q

report_same : {r q : Report} → r.answer ≡ q.answer → r.moves ≡ q.moves → r.started ≡ q.started → r.stopped ≡ q.stopped → r ≡ q
report_same a m s e = λ i. record { answer = a i; moves = m i; started = s i; stopped = e i }

-- ---- wake

woken_same : {d : Dispatcher} {slot : ℕ} {r q : Outcome} → r.report.answer ≡ q.report.answer → Woken d slot r → Woken d slot q → r ≡ q
woken_same {d} {slot} e a b =
    let s = arrives_same (before_not_back (joined_of d slot)) a.arrives b.arrives in
    outcome_same (report_same e s.1 s.2 s.3) (seats_same (joined_of d slot) a.rest b.rest a.size b.size s.0)

pub wakes_same : {d : Dispatcher} {slot : ℕ} {r q : Outcome} → Wakes d slot r → Wakes d slot q → r ≡ q
wakes_same = promised_same woken_same

-- ---- block

refills_same : {d : Dispatcher} {z : ℕ} {r q : Outcome} → r.report.answer ≡ q.report.answer → Refills d z r → Refills d z q → r ≡ q
refills_same {d} {z} e a b =
    let s = fills_same (before_not_back d) a.fills b.fills in
    outcome_same (report_same e s.1 s.2 (a.stops ∙ sym b.stops)) (seats_same d a.rest b.rest a.size b.size s.0)

-- a ready slot runs or waits
blocked_same : {d : Dispatcher} {slot : ℕ} {r q : Outcome} → Ready d slot → r.report.answer ≡ q.report.answer → Blocked d slot r → Blocked d slot q → r ≡ q
blocked_same {d} {slot} ready e a b = elim (runs_dec d.cores none (seat_at d) slot) [
  | inl on ↦ refills_same e (a.ran on.core on.below on.sits) (b.ran on.core on.below on.sits)
  | inr off ↦
      let f = a.waited (record { ready = ready; off = off }) in
      let g = b.waited (record { ready = ready; off = off }) in
      outcome_same (f.1 ∙ ap still_of e ∙ sym g.1) (f.0 ∙ sym g.0)
]

-- where a block is done, the slot was ready
pub block_was : {d : Dispatcher} {slot : ℕ} {r : Outcome} → Blocks d slot r → number_of r.report.answer ≡ 0 → Ready d slot
block_was B z = blocked_ready (rw z at B.answer)

pub blocks_same : {d : Dispatcher} {slot : ℕ} {r q : Outcome} → Blocks d slot r → Blocks d slot q → r ≡ q
blocks_same {d} {slot} a b = promised_same (λ e f g. blocked_same f.1 e f.0 g.0) (from_ready a) (from_ready b)
  where
    from_ready : {o : Outcome} → Blocks d slot o → Promised (block_refusals d slot) d (λ p. Blocked d slot p × Ready d slot) o
    from_ready h = record { answer = h.answer; place = h.place; done = λ z. (h.done z, block_was h z); kept = h.kept; still = h.still }
