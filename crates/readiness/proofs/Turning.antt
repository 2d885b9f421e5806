-- What is known where wake and block are accepted, and what a shift then makes of the dispatcher.
use Prim.Native.Nat.{ℕ, ◌<◌}
use mathlib.Core.Path.{◌≡◌, refl, sym, ◌∙◌, subst}
use mathlib.Core.Logic.{inl, inr}
use mathlib.Core.List.{List}
use Rattle.std.specs.Prelude.{Option, Some, Ok}
use lib.ListN.{length, set}
use Rattle.laws.specs.Answering.{Answers}
use Rattle.laws.proofs.Answering.{none_applies}
use Rattle.dispatcher.specs.Limits.{core_limit, none}
use Rattle.dispatcher.specs.Slots.{task_at, seat_at, Used, Ready, Shaped}
use Rattle.dispatcher.specs.Sound.{Sound}
use Rattle.dispatcher.specs.Reports.{still_of}
use Rattle.dispatcher.specs.declared.Dispatcher.{Dispatcher}
use Rattle.dispatcher.specs.declared.Outcome.{Outcome}
use Rattle.dispatcher.proofs.Promises.{called_below, accepted}
use Rattle.dispatcher.proofs.Stable.{not_unready}
use Rattle.dispatcher.proofs.Unsound.{done_sound, done_own}
use Rattle.order.specs.Changes.{join_order, leave_order}
use Rattle.order.proofs.Joining.{joined_new, joined_sound}
use Rattle.shifting.specs.Board.{with_seats}
use Rattle.shifting.specs.Arriving.{Arriving}
use Rattle.shifting.specs.Filling.{Freed}
use Rattle.shifting.specs.Shifts.{Arrived, Refilled}
use Rattle.shifting.specs.declared.Shift.{Shift}
use Rattle.seating.proofs.Same.{runs_ready}
use Rattle.shifting.proofs.Board.{core_below, seat_below, legal}
use Rattle.readiness.specs.Wake.{Woken, wake_refusals, Wakes}
use Rattle.readiness.specs.Block.{freed_of, Refills, Blocked, block_refusals, Blocks}
use Rattle.readiness.specs.Seats.{SitsAt, SitsNowhere, CoreOf, shifted_of}
use Rattle.readiness.proofs.Freeing.{freed_idle, freed_sound}
use Rattle.dispatcher.proofs.Ready.{ready_real}

-- d with another wake order
abbrev pub with_order : Dispatcher → List ℕ → Dispatcher
with_order d l = record { cores = d.cores; tasks = d.tasks; order = l; seats = d.seats }

-- ---- wake

module _ {d : Dispatcher} {slot : ℕ} (h : Answers (wake_refusals d slot) 0) where
  woken_sound : Sound d
  woken_sound = done_sound d h refl

  off : Ready d slot → ⊥
  off r = none_applies (done_own d _ h refl) refl 9 (inr (inr (inl (refl, r))))

  used : Used (task_at d slot)
  used e = none_applies (done_own d _ h refl) refl 5 (inr (inl (refl, e)))

  pub joined_arriving : {order : List ℕ} → Shaped d → order ≡ join_order d.order slot → Arriving (with_order d order) slot
  joined_arriving L q = rw q (record {
    sound = joined_sound L woken_sound (called_below d h refl) off used;
    waits = record { ready = joined_new L woken_sound (called_below d h refl) off; off = λ r. off (runs_ready (legal woken_sound) r) };
  })

  pub arrived_wakes : {order : List ℕ} {r : Outcome} (s : Shift) → Shaped d → order ≡ join_order d.order slot → Arrived (with_order d order) slot s → length s.seats ≡ core_limit
      → r ≡ shifted_of (with_order d order) s → Wakes d slot r
  arrived_wakes {order} s L q a size p = rw p (accepted h refl woken)
    where
      woken : Woken d slot (shifted_of (with_order d order) s)
      woken = rw q (record { rest = refl; size = size ∙ sym L.seats; arrives = rw q at a })

-- ---- block

pub core_below_limit : (seats : List ℕ) (slot : ℕ) (core : Option ℕ) {c : ℕ} → core ≡ Some c → CoreOf seats slot core → c < core_limit
core_below_limit seats slot core {c} e s = let sits : SitsAt seats slot c = rw e at s in sits.below

module _ {d : Dispatcher} {slot : ℕ} (h : Answers (block_refusals d slot) 0) where
  pub blocked_sound : Sound d
  blocked_sound = done_sound d h refl

  pub blocked_ready : Ready d slot
  blocked_ready = not_unready d slot (λ n. none_applies (done_own d _ h refl) refl 10 (inr (inr (inl (refl, n)))))

  sits_below : {c : ℕ} → c < core_limit → seat_at d c ≡ slot → c < d.cores
  sits_below l q = seat_below blocked_sound l (λ z. ready_real blocked_ready (sym q ∙ z))

  pub core_idle : {order seats : List ℕ} {core : ℕ} → Shaped d → order ≡ leave_order d.order slot → seats ≡ set d.seats core none → SitsAt d.seats slot core → Freed (with_seats (with_order d order) seats) core
  core_idle {core = core} L q p s =
      let k = sits_below s.below s.sits in
      rw (q, p) (record { sound = (freed_sound L blocked_sound (ready_real blocked_ready) k s.sits).1; below = k; idle = freed_idle L blocked_sound (ready_real blocked_ready) k s.sits })

  -- it sits nowhere: the waiting task has left, and that is all
  pub waited_blocks : {order : List ℕ} {r : Outcome} → order ≡ leave_order d.order slot → SitsNowhere d.seats slot
      → r ≡ record { report = still_of (Ok tt); dispatcher = with_order d order } → Blocks d slot r
  waited_blocks {order} q s p = rw p (accepted h refl blocked)
    where
      blocked : Blocked d slot (record { report = still_of (Ok tt); dispatcher = with_order d order })
      blocked = rw q (record { waited = λ _. (refl, refl); ran = λ z l t. absurd (s.none_sits z (core_below blocked_sound l) t) })

  -- it sits on a core, which is filled
  pub refilled_blocks : {order seats : List ℕ} {core : ℕ} {r : Outcome} (s : Shift) → Shaped d → order ≡ leave_order d.order slot → seats ≡ set d.seats core none → SitsAt d.seats slot core
      → Refilled (with_seats (with_order d order) seats) core s → length s.seats ≡ core_limit → r ≡ shifted_of (with_order d order) s → Blocks d slot r
  refilled_blocks {order} {seats} {core} s L q p c f size e = rw e (accepted h refl blocked)
    where
      below : core < d.cores
      below = sits_below c.below c.sits

      after : Outcome
      after = shifted_of (with_order d order) s

      refills : Refills (freed_of d slot core) core after
      refills = rw q (record { rest = refl; size = size ∙ sym (freed_sound L blocked_sound (ready_real blocked_ready) below c.sits).0.seats; fills = rw (q, p) at f.0; stops = f.1 })

      blocked : Blocked d slot after
      blocked = record {
        waited = λ w. absurd (w.off (record { real = ready_real blocked_ready; core = core; below = below; sits = c.sits }));
        ran = λ z l t. subst (λ (y : ℕ). Refills (freed_of d slot y) y after) ((legal blocked_sound).once core z below l (λ e. ready_real blocked_ready (sym c.sits ∙ e)) (c.sits ∙ sym t)) refills;
      }
