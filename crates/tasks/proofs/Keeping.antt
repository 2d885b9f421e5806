-- A slot that is not ready gets another task, none or a legal one: the dispatcher stays sound, and so create keeps it; a slot that was created is not ready.
use Prim.Native.Nat.{ℕ, ◌≤◌, ◌<◌}
use mathlib.Core.Path.{◌≡◌, refl, ap, ◌∙◌, subst}
use mathlib.Core.Logic.{◌≢◌, inl, inr}
use native.Mathlib.Decide.{ℕ_discrete}
use native.Mathlib.Omega.{arith}
use lib.ListN.{length-set}
use lib.Seq.{get_or-set_same, get_or-set_other}
use Rattle.laws.specs.Answering.{Answers}
use Rattle.laws.proofs.Answering.{none_applies}
use Rattle.masks.proofs.Bits.{legal_mask}
use Rattle.dispatcher.specs.Limits.{slot_limit, greatest_priority}
use Rattle.dispatcher.specs.Slots.{no_task, task_at, order_at, seat_at, Used, Ready, Shaped}
use Rattle.dispatcher.specs.Sound.{LegalTask, Entered, Seated, Sound}
use Rattle.dispatcher.specs.Answers.{number_of}
use Rattle.dispatcher.specs.declared.Task.{Task}
use Rattle.dispatcher.specs.declared.Dispatcher.{Dispatcher}
use Rattle.dispatcher.specs.declared.Outcome.{Outcome}
use Rattle.dispatcher.proofs.Unsound.{done_own}
use Rattle.dispatcher.proofs.Promises.{called_below}
use Rattle.tasks.specs.Table.{with_task}
use Rattle.tasks.specs.Create.{entry_refusals, Creates}
use Rattle.dispatcher.proofs.Ready.{ready_used, ready_alike}

module _ {d : Dispatcher} {slot : ℕ} {t : Task} (L : Shaped d) (S : Sound d) (below : slot < slot_limit) (off : Ready d slot → ⊥) (legal : Used t → LegalTask d.cores t) where
  here : task_at (with_task d slot t) slot ≡ t
  here = get_or-set_same d.tasks slot t no_task (rw L.tasks below)

  other : (s : ℕ) → s ≢ slot → task_at (with_task d slot t) s ≡ task_at d s
  other s n = get_or-set_other d.tasks slot s t no_task n

  kept_slot : (s : ℕ) → s < slot_limit → Dec (s ≡ slot) → Used (task_at (with_task d slot t) s) → LegalTask d.cores (task_at (with_task d slot t) s)
  kept_slot s l (yes e) = rw (e, here) legal
  kept_slot s l (no n) = rw (other s n) (S.slots s l)

  kept_place : (k : ℕ) → k < slot_limit → Entered d k → Entered (with_task d slot t) k
  kept_place k l e = record { slot = e.slot; used = rw (other (order_at d k) moved) e.used; not_twice = e.not_twice; no_gap = e.no_gap }
    where
      moved : order_at d k ≢ slot
      moved q = off (record { slot = below; place = k; within = l; stands = q })

  kept_seat : (c : ℕ) → Seated d c → Seated (with_task d slot t) c
  kept_seat c s = record { ready = ready_alike refl s.ready; once = s.once; allowed = rw (other (seat_at d c) moved) s.allowed }
    where
      moved : seat_at d c ≢ slot
      moved q = off (subst (Ready d) q s.ready)

  sound : Sound (with_task d slot t)
  sound = record {
    count = S.count;
    slots = λ s l. kept_slot s l (ℕ_discrete s slot);
    order = λ k l o. kept_place k l (S.order k l o);
    missing = S.missing;
    seats = λ c l o. kept_seat c (S.seats c l o);
  }

  pub with_task_keeps : Shaped (with_task d slot t) × Sound (with_task d slot t)
  with_task_keeps = (record { tasks = length-set d.tasks slot t ∙ L.tasks; order = L.order; seats = L.seats }, sound)

-- ---- create

module _ {d : Dispatcher} {slot priority mask : ℕ} {r : Outcome} (S : Sound d) (C : Creates d slot priority mask r) (z : number_of r.report.answer ≡ 0) where
  own : Answers (entry_refusals d slot priority mask) 0
  own = done_own d (entry_refusals d slot priority mask) C.answer z

  -- the slot was empty, so it was not ready
  pub created_off : Ready d slot → ⊥
  created_off q = none_applies own refl 4 (inr (inl (refl, ready_used S q)))

  create_legal : priority ≤ greatest_priority → LegalTask d.cores (record { priority = priority; mask = mask })
  create_legal byte = record {
    priority = (positive (λ e. none_applies own refl 6 (inr (inr (inl (refl, e))))), byte);
    mask = legal_mask (λ e. none_applies own refl 7 (inr (inr (inr (inl (refl, e)))))) (λ m. none_applies own refl 8 (inr (inr (inr (inr (inl (refl, m)))))));
  }
    where
      positive : priority ≢ 0 → 1 ≤ priority
      positive n = omega arith

  pub created_not_ready : Ready r.dispatcher slot → ⊥
  created_not_ready q = created_off (ready_alike (ap (λ (e : Dispatcher). e.order) (C.done z).written) q)

pub create_keeps : {d : Dispatcher} {slot priority mask : ℕ} {r : Outcome} → Shaped d → Sound d → priority ≤ greatest_priority → Creates d slot priority mask r
    → Shaped r.dispatcher × Sound r.dispatcher
create_keeps {d} {r} L S byte C = go (ℕ_discrete (number_of r.report.answer) 0)
  where
    go : Dec (number_of r.report.answer ≡ 0) → Shaped r.dispatcher × Sound r.dispatcher
    go (yes z) =
        let below = called_below d C.answer z in
        rw (C.done z).written (with_task_keeps L S below (created_off S C z) (λ _. create_legal S C z byte))
    go (no z) = rw (C.kept z) (L, S)
