-- A task is no longer ready: the others stay ready and keep their order.
use Prim.Native.Nat.{ℕ, ◌≤◌, ◌<◌}
use mathlib.Core.Path.{◌≡◌, sym, ◌∙◌}
use mathlib.Core.Logic.{◌≢◌, inl, inr, ◌↔◌}
use native.Mathlib.Omega.{arith}
use Rattle.dispatcher.specs.Limits.{core_limit, slot_limit, none}
use Rattle.dispatcher.specs.Slots.{order_at, seat_at, Ready, Shaped}
use Rattle.dispatcher.specs.Sound.{Entered, Sound}
use Rattle.dispatcher.specs.declared.Dispatcher.{Dispatcher}
use Rattle.order.specs.ComesBefore.{woke_at, ComesBefore}
use Rattle.order.specs.Changes.{left_of}
use Rattle.order.proofs.Standing.{place_holds, place_most}
use Rattle.order.proofs.MovingUp.{came_from, came_rises, came_falls, came_other, came_back, length_leave, leave_at, place_leave}
use Rattle.order.proofs.Waking.{held_within, woke_within}

pub left_shaped : {d : Dispatcher} (slot : ℕ) → Shaped d → Shaped (left_of d slot)
left_shaped {d} slot L = record { tasks = L.tasks; order = length_leave d.order slot ∙ L.order; seats = L.seats }

-- what stands at place k when the slot has left came from there
abbrev source : Dispatcher → ℕ → ℕ → ℕ
source d slot k = came_from (woke_at d slot) k

module _ {d : Dispatcher} (slot : ℕ) (L : Shaped d) (S : Sound d) where
  at_left : (k : ℕ) → order_at (left_of d slot) k ≡ order_at d (source d slot k)
  at_left k = leave_at d.order slot k

  -- ---- who is ready

  pub left_only : {t : ℕ} → Ready (left_of d slot) t → Ready d t × (t ≢ slot)
  left_only {t} r = (record { slot = r.slot; place = from; within = within; stands = stands }, other)
    where
      from : ℕ
      from = source d slot r.place

      stands : order_at d from ≡ t
      stands = sym (at_left r.place) ∙ r.stands

      held : order_at d from ≢ none
      held e = omega (arith, e, stands, r.slot)

      within : from < slot_limit
      within = rw L.order at (held_within d.order held)

      entered : Entered d from
      entered = S.order from within held

      other : t ≢ slot
      other e = entered.not_twice (woke_at d slot) earlier (place_holds d.order slot none (omega (arith, earlier, within, L.order)) ∙ sym (stands ∙ e))
        where
          earlier : woke_at d slot < from
          earlier = omega (arith, place_most d.order slot none (stands ∙ e), came_other (woke_at d slot) r.place)

  pub left_old : {t : ℕ} → Ready d t → t ≢ slot → Ready (left_of d slot) t
  left_old {t} r n = go (came_back (woke_at d slot) r.place apart)
    where
      apart : r.place ≢ woke_at d slot
      apart e = n (sym r.stands ∙ rw e (place_holds d.order slot none (omega (arith, e, r.within, L.order))))

      go : ((j : ℕ) × (source d slot j ≡ r.place) × (j ≤ r.place)) → Ready (left_of d slot) t
      go (j, e, l) = record { slot = r.slot; place = j; within = omega (arith, r.within); stands = at_left j ∙ rw e r.stands }

  -- ---- who comes before whom

  left_woke : {t : ℕ} → Ready (left_of d slot) t → source d slot (woke_at (left_of d slot) t) ≡ woke_at d t
  left_woke {t} r = let o = left_only r in place_leave d.order slot t o.1 (woke_within o.0)

  pub left_before : {t u : ℕ} → Ready (left_of d slot) t → Ready (left_of d slot) u → ComesBefore (left_of d slot) t u ↔ ComesBefore d t u
  left_before {t} {u} rt ru = (there, back)
    where
      there : ComesBefore (left_of d slot) t u → ComesBefore d t u
      there (inl h) = inl h
      there (inr (e, h)) = inr (e, rw (← left_woke rt, ← left_woke ru) (came_rises (woke_at d slot) h))

      back : ComesBefore d t u → ComesBefore (left_of d slot) t u
      back (inl h) = inl h
      back (inr (e, h)) = inr (e, came_falls (woke_at d slot) (rw (left_woke rt, left_woke ru) h))

  -- ---- it stays sound where the slot sits nowhere

  pub left_sound : ((c : ℕ) → c < core_limit → seat_at d c ≢ slot) → Sound (left_of d slot)
  left_sound unseated = record {
    count = S.count;
    slots = S.slots;
    order = entered;
    missing = S.missing;
    seats = λ c l o. let s = S.seats c l o in record { ready = left_old s.ready (unseated c l); once = s.once; allowed = s.allowed };
  }
    where
      entered : (k : ℕ) → k < slot_limit → order_at (left_of d slot) k ≢ none → Entered (left_of d slot) k
      entered k l o = record {
        slot = rw (at_left k) e.slot;
        used = rw (at_left k) e.used;
        not_twice = λ j b. rw (at_left j, at_left k) (e.not_twice (source d slot j) (came_rises (woke_at d slot) b));
        no_gap = λ j b. rw (at_left j) (e.no_gap (source d slot j) (came_rises (woke_at d slot) b));
      }
        where
          held : order_at d (source d slot k) ≢ none
          held q = o (at_left k ∙ q)

          e : Entered d (source d slot k)
          e = S.order (source d slot k) (rw L.order at (held_within d.order held)) held
