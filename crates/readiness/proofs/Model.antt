-- What wake and block do, as functions that compute, over what the check of soundness says; and that they meet the promises.
use Prim.Native.Nat.{ℕ, ◌<◌}
use mathlib.Core.Path.{◌≡◌, refl, sym, ◌∙◌}
use mathlib.Core.Logic.{◌≢◌, ◌⊎◌, inl, inr}
use mathlib.Core.Bool.{true, false, not, cond}
use mathlib.Core.List.{List, [], ◌∷◌}
use Rattle.std.specs.Prelude.{Ok, Err}
use native.Mathlib.Decide.{ℕ_discrete}
use native.Mathlib.Omega.{arith}
use lib.Dec.{eqb}
use borrow.Author.Tests.{eq-eqb, ne_eqb, ltb-true}
use Rattle.laws.specs.Decides.{Decides}
use Rattle.laws.specs.Answering.{Refusal}
use Rattle.laws.proofs.Deciding.{cases, decides_not}
use Rattle.laws.proofs.Answering.{none_applies}
use Rattle.seating.proofs.Take.{seats}
use Rattle.seating.proofs.Arriving.{Step, arrive_of, arrive_of_arrives}
use Rattle.seating.proofs.Filling.{fill_of, fill_of_fills}
use Rattle.dispatcher.specs.Limits.{slot_limit, none}
use Rattle.dispatcher.specs.Slots.{task_at, seat_at, Used, Ready, Shaped}
use Rattle.dispatcher.specs.Sound.{Sound}
use Rattle.dispatcher.specs.Answers.{Answer, number_of}
use Rattle.dispatcher.specs.Unsound.{unsound_refusals}
use Rattle.dispatcher.specs.Reports.{still_of}
use Rattle.dispatcher.specs.Promise.{Answered, Promised}
use Rattle.dispatcher.specs.declared.Refusal.TheVariants.{AlreadyReady, NotReady}
use Rattle.dispatcher.specs.declared.Dispatcher.{Dispatcher}
use Rattle.dispatcher.specs.declared.Outcome.{Outcome}
use Rattle.dispatcher.proofs.Judging.{test}
use Rattle.dispatcher.proofs.Testing.{ready_test, ready_decides}
use Rattle.dispatcher.proofs.Unsound.{done_sound, done_own, checked_then}
use Rattle.dispatcher.proofs.Promises.{called_below, refused, accepted}
use Rattle.order.specs.ComesBefore.{ComesBefore}
use Rattle.order.specs.Changes.{joined_of, left_of}
use Rattle.order.proofs.Joining.{joined_shaped, joined_sound, joined_new}
use Rattle.tasks.proofs.Model.{slot_tests, named_and}
use Rattle.shifting.specs.Board.{may_run, Runs}
use Rattle.shifting.specs.Arriving.{ArrivesIn}
use Rattle.shifting.specs.Filling.{FillsIn}
use Rattle.shifting.specs.Picking.{rank_at}
use Rattle.shifting.proofs.Board.{legal, ranked}
use Rattle.readiness.specs.Wake.{Woken, Wakes}
use Rattle.readiness.specs.Block.{freed_of, Refills, Blocked, Blocks}
use Rattle.readiness.specs.Seats.{shifted_of}
use Rattle.readiness.proofs.Freeing.{freed_sound}
use Rattle.readiness.proofs.Sizing.{arrive_sized, fill_sized}
use Rattle.readiness.proofs.Sitting.{seat_of, run_test, wait_test, cores_fit, seat_sits, run_decides, wait_decides}

-- ---- the shifts

abbrev arrive_in : Dispatcher → ℕ → Step
arrive_in d x = arrive_of d.cores none (may_run d) (rank_at d) d.seats x

abbrev fill_in : Dispatcher → ℕ → Step
fill_in d z = fill_of d.cores none (may_run d) (rank_at d) (wait_test d) slot_limit d.seats z

abbrev shifted_by : Dispatcher → Step → Outcome
shifted_by d s = shifted_of d (record { seats = s.seats; moves = s.moves; started = s.started; stopped = s.stopped })

arrive_in_lem : {d : Dispatcher} {x : ℕ} → Shaped d → Sound d → Ready d x
    → ArrivesIn d x (seat_at (shifted_by d (arrive_in d x)).dispatcher) (arrive_in d x).moves (arrive_in d x).started (arrive_in d x).stopped
unfolding seats
arrive_in_lem {d} {x} L S r = arrive_of_arrives d.cores none (may_run d) (ComesBefore d) (rank_at d) (Ready d) d.seats x (cores_fit L S) (legal S) (ranked L S) r

fill_in_lem : {d : Dispatcher} (z : ℕ) → Shaped d → Sound d → FillsIn d z (seat_at (shifted_by d (fill_in d z)).dispatcher) (fill_in d z).moves (fill_in d z).started × ((fill_in d z).stopped ≡ none)
unfolding seats
fill_in_lem {d} z L S =
    fill_of_fills d.cores none (may_run d) (ComesBefore d) (rank_at d) (Ready d) (wait_test d) slot_limit d.seats z (cores_fit L S) (ranked L S) (λ w l. wait_decides L S l) (λ w u. u.ready.slot)

-- ---- a call that is refused, or does what it promises

abbrev refused_or : Answer → Dispatcher → Outcome → Outcome
refused_or a d done = cond (eqb (number_of a) 0) done (record { report = still_of a; dispatcher = d })

refused_or_lem : {rs : List Refusal} {d : Dispatcher} {Does : Outcome → Type 0} (a : Answer) (o : Outcome) → Answered rs d a → (number_of a ≡ 0 → (number_of o.report.answer ≡ 0) × Does o)
    → Promised rs d Does (refused_or a d o)
refused_or_lem a o h does = elim (ℕ_discrete (number_of a) 0) [
  | yes z ↦ let k = does z in rw (eq-eqb (number_of a) 0 z) (accepted (rw z at h.answer) k.0 k.1)
  | no n ↦ rw (ne_eqb (number_of a) 0 n) (refused a h n refl)
]

-- ---- wake

abbrev woken_of : Dispatcher → ℕ → Outcome
woken_of d slot = shifted_by (joined_of d slot) (arrive_in (joined_of d slot) slot)

woken : {d : Dispatcher} {slot : ℕ} → Shaped d → Sound d → slot < slot_limit → Used (task_at d slot) → (Ready d slot → ⊥) → Woken d slot (woken_of d slot)
woken {d} {slot} L S below used off = record {
  rest = refl;
  size = (arrive_sized d.cores none (may_run (joined_of d slot)) (rank_at (joined_of d slot)) d.seats slot).size;
  arrives = arrive_in_lem (joined_shaped slot L) (joined_sound L S below off used) (joined_new L S below off);
}

-- j is what the check of soundness says
abbrev wake_answer_of : Answer → Dispatcher → ℕ → Answer
wake_answer_of j d slot = checked_then j (slot_tests d slot (test (ready_test d slot) (Err AlreadyReady) ∷ []))

abbrev pub wake_of : Answer → Dispatcher → ℕ → Outcome
wake_of j d slot = refused_or (wake_answer_of j d slot) d (woken_of d slot)

pub wake_wakes : {d : Dispatcher} (j : Answer) (slot : ℕ) → Shaped d → Answered (unsound_refusals d) d j → Wakes d slot (wake_of j d slot)
wake_wakes {d} j slot L s =
    let h = named_and slot j (Err AlreadyReady) s (ready_decides d slot) (omega arith) in
    refused_or_lem (wake_answer_of j d slot) (woken_of d slot) h (λ z.
    let own = done_own d _ h.answer z in (
      refl,
      woken L (done_sound d h.answer z) (called_below d h.answer z) (λ e. none_applies own refl 5 (inr (inl (refl, e)))) (λ r. none_applies own refl 9 (inr (inr (inl (refl, r))))),
    ))

-- ---- block

abbrev blocked_of : Dispatcher → ℕ → Outcome
blocked_of d slot =
    let z = seat_of d slot in
    cond (run_test d slot) (shifted_by (freed_of d slot z) (fill_in (freed_of d slot z) z)) (record { report = still_of (Ok tt); dispatcher = left_of d slot })

refills : {d : Dispatcher} (z : ℕ) → Shaped d → Sound d → Refills d z (shifted_by d (fill_in d z))
refills {d} z L S = let f = fill_in_lem z L S in record { rest = refl; size = (fill_sized d.cores none (may_run d) (rank_at d) d.seats (wait_test d) slot_limit z).size; fills = f.0; stops = f.1 }

blocked : {d : Dispatcher} {slot : ℕ} → Shaped d → Sound d → slot ≢ none → (number_of (blocked_of d slot).report.answer ≡ 0) × Blocked d slot (blocked_of d slot)
blocked {d} {slot} L S real = go (cases (run_test d slot)) (run_decides L S real)
  where
    go : (run_test d slot ≡ true) ⊎ (run_test d slot ≡ false) → Decides (Runs d slot) (run_test d slot) → (number_of (blocked_of d slot).report.answer ≡ 0) × Blocked d slot (blocked_of d slot)
    go (inl y) D = rw y (refl, record { waited = λ w. absurd (w.off (D.yes y)); ran = λ z l e. rw (here z l e) (let k = freed_sound L S real there sits in refills (seat_of d slot) k.0 k.1) })
      where
        there : seat_of d slot < d.cores
        there = ltb-true (seat_of d slot) d.cores y

        sits : seat_at d (seat_of d slot) ≡ slot
        sits = seat_sits L S there

        here : (z : ℕ) → z < d.cores → seat_at d z ≡ slot → z ≡ seat_of d slot
        here z l e = (legal S).once z (seat_of d slot) l there (λ q. real (sym e ∙ q)) (e ∙ sym sits)
    go (inr n) D = rw n (refl, record { waited = λ _. (refl, refl); ran = λ z l e. absurd (D.no n (record { real = real; core = z; below = l; sits = e })) })

abbrev block_answer_of : Answer → Dispatcher → ℕ → Answer
block_answer_of j d slot = checked_then j (slot_tests d slot (test (not (ready_test d slot)) (Err NotReady) ∷ []))

abbrev pub block_of : Answer → Dispatcher → ℕ → Outcome
block_of j d slot = refused_or (block_answer_of j d slot) d (blocked_of d slot)

pub block_blocks : {d : Dispatcher} (j : Answer) (slot : ℕ) → Shaped d → Answered (unsound_refusals d) d j → Blocks d slot (block_of j d slot)
block_blocks {d} j slot L s =
    let h = named_and slot j (Err NotReady) s (decides_not (ready_decides d slot)) (omega arith) in
    refused_or_lem (block_answer_of j d slot) (blocked_of d slot) h (λ z. let l = called_below d h.answer z in blocked L (done_sound d h.answer z) (λ e. omega (arith, e, l)))
