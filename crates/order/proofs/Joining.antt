-- A task becomes ready: there is room for it in the wake order, it comes last among equals, and all else stays.
use Prim.Native.Nat.{ℕ, ◌≤◌, ◌<◌}
use mathlib.Core.Path.{◌≡◌, sym, ◌∙◌}
use mathlib.Core.Logic.Iff
use mathlib.Core.Logic.{◌≢◌, ◌⊎◌, inl, inr, ◌↔◌}
use mathlib.Core.List.{◌∷◌}
use native.Mathlib.Decide.{ℕ_discrete, dec_lt}
use native.Mathlib.Omega.{arith}
use lib.ListN.{length, length-set}
use lib.Seq.{get_or-set_same, get_or-set_other}
use Rattle.laws.specs.Lists.{In}
use Rattle.laws.proofs.Counting.{pigeonhole}
use Rattle.dispatcher.specs.Limits.{slot_limit, none}
use Rattle.dispatcher.specs.Slots.{task_at, order_at, Used, Ready, Shaped}
use Rattle.dispatcher.specs.Sound.{Entered, Sound}
use Rattle.dispatcher.specs.declared.Dispatcher.{Dispatcher}
use Rattle.order.specs.ComesBefore.{place_in, woke_at, ComesBefore}
use Rattle.order.specs.Changes.{joined_of}
use Rattle.order.proofs.Standing.{place_holds, before_place, place_set_other, place_set_here, in_stands, different_distinct}
use Rattle.order.proofs.Waking.{woke_stands}

pub joined_shaped : {d : Dispatcher} (slot : ℕ) → Shaped d → Shaped (joined_of d slot)
joined_shaped {d} slot L = record { tasks = L.tasks; order = length-set d.order (place_in d.order none) slot ∙ L.order; seats = L.seats }

-- the first unused place
abbrev unused : Dispatcher → ℕ
unused d = place_in d.order none

-- a slot that is not ready becomes ready
module _ {d : Dispatcher} {slot : ℕ} (L : Shaped d) (S : Sound d) (below : slot < slot_limit) (off : Ready d slot → ⊥) where
  absent : (k : ℕ) → k < slot_limit → order_at d k ≢ slot
  absent k l e = off (record { slot = below; place = k; within = l; stands = e })

  -- ---- there is room: else the slot and those that are ready would be more than there are slots

  full : slot_limit ≤ unused d → ⊥
  full f = omega (arith, L.order, pigeonhole (slot ∷ d.order) slot_limit (fresh, different_distinct d.order none apart) low)
    where
      entered : (k : ℕ) → k < slot_limit → Entered d k
      entered k l = S.order k l (before_place d.order none none (omega arith))

      fresh : In slot d.order → ⊥
      fresh i = let r = in_stands d.order none i in absent r.0 (omega (arith, r.1, L.order)) r.2

      apart : (j k : ℕ) → j < k → k < length d.order → order_at d j ≢ order_at d k
      apart j k l w = (entered k (omega (arith, w, L.order))).not_twice j l

      low : (c : ℕ) → In c (slot ∷ d.order) → c < slot_limit
      low c (inl e) = omega (arith, below)
      low c (inr i) = let r = in_stands d.order none i in omega (arith, r.2, (entered r.0 (omega (arith, r.1, L.order))).slot)

  pub room : place_in d.order none < slot_limit
  room = go (dec_lt (unused d) slot_limit)
    where
      go : Dec (unused d < slot_limit) → unused d < slot_limit
      go (yes l) = l
      go (no l) = absurd (full (omega arith))

  -- ---- what stands where

  unused_holds : order_at d (unused d) ≡ none
  unused_holds = place_holds d.order none none (rw L.order room)

  at_new : order_at (joined_of d slot) (unused d) ≡ slot
  at_new = get_or-set_same d.order (unused d) slot none (rw L.order room)

  at_old : (k : ℕ) → k ≢ unused d → order_at (joined_of d slot) k ≡ order_at d k
  at_old k n = get_or-set_other d.order (unused d) k slot none n

  -- ---- who is ready

  pub joined_new : Ready (joined_of d slot) slot
  joined_new = record { slot = below; place = unused d; within = room; stands = at_new }

  pub joined_old : {t : ℕ} → Ready d t → Ready (joined_of d slot) t
  joined_old {t} r = record { slot = r.slot; place = r.place; within = r.within; stands = at_old r.place taken ∙ r.stands }
    where
      taken : r.place ≢ unused d
      taken e = let h : order_at d (unused d) ≡ t = rw e at r.stands in omega (arith, h, unused_holds, r.slot)

  pub joined_only : {t : ℕ} → Ready (joined_of d slot) t → Ready d t ⊎ (t ≡ slot)
  joined_only {t} r = go (ℕ_discrete r.place (unused d))
    where
      go : Dec (r.place ≡ unused d) → Ready d t ⊎ (t ≡ slot)
      go (yes e) = inr (sym r.stands ∙ rw e at_new)
      go (no n) = inl (record { slot = r.slot; place = r.place; within = r.within; stands = sym (at_old r.place n) ∙ r.stands })

  -- ---- who comes before whom

  joined_woke : {t : ℕ} → Ready d t → woke_at (joined_of d slot) t ≡ woke_at d t
  joined_woke {t} r = place_set_other d.order (unused d) slot t none (λ e. off (rw e r)) (rw unused_holds (λ e. omega (arith, r.slot, e)))

  joined_woke_new : woke_at (joined_of d slot) slot ≡ unused d
  joined_woke_new = place_set_here d.order (unused d) slot none (rw L.order room) (λ j b. absent j (omega (arith, b, room)))

  pub joined_before : {t u : ℕ} → Ready d t → Ready d u → ComesBefore (joined_of d slot) t u ↔ ComesBefore d t u
  joined_before rt ru = rw (joined_woke rt, joined_woke ru) Iff.rfl

  pub joined_last : {t : ℕ} → Ready d t → woke_at (joined_of d slot) t < woke_at (joined_of d slot) slot
  joined_last {t} r = rw (joined_woke r, joined_woke_new) (go (dec_lt (unused d) (woke_at d t)) (ℕ_discrete (unused d) (woke_at d t)))
    where
      stands : order_at d (woke_at d t) ≡ t
      stands = (woke_stands L r).1

      entered : Entered d (woke_at d t)
      entered = S.order (woke_at d t) (woke_stands L r).0 (λ e. omega (arith, e, stands, r.slot))

      go : Dec (unused d < woke_at d t) → Dec (unused d ≡ woke_at d t) → woke_at d t < unused d
      go (yes l) e = absurd (entered.no_gap (unused d) l unused_holds)
      go (no l) (yes e) = let h : order_at d (woke_at d t) ≡ none = rw e at unused_holds in absurd (omega (arith, h, stands, r.slot))
      go (no l) (no e) = omega arith

  -- ---- it stays sound

  entered_new : Used (task_at d slot) → Entered (joined_of d slot) (unused d)
  entered_new used = record {
    slot = rw at_new below;
    used = rw at_new used;
    not_twice = λ j b. rw (at_old j (λ e. omega (arith, e, b)), at_new) (absent j (omega (arith, b, room)));
    no_gap = λ j b. rw (at_old j (λ e. omega (arith, e, b))) (before_place d.order none none b);
  }

  entered_old : (k : ℕ) → k < slot_limit → k ≢ unused d → Entered d k → Entered (joined_of d slot) k
  entered_old k l n e = record {
    slot = rw (at_old k n) e.slot;
    used = rw (at_old k n) e.used;
    not_twice = λ j b. alone j b (ℕ_discrete j (unused d));
    no_gap = λ j b. closed j b (ℕ_discrete j (unused d));
  }
    where
      alone : (j : ℕ) → j < k → Dec (j ≡ unused d) → order_at (joined_of d slot) j ≢ order_at (joined_of d slot) k
      alone j b (yes q) = rw (q, at_new, at_old k n) (λ x. absent k l (sym x))
      alone j b (no m) = rw (at_old j m, at_old k n) (e.not_twice j b)

      closed : (j : ℕ) → j < k → Dec (j ≡ unused d) → order_at (joined_of d slot) j ≢ none
      closed j b (yes q) = rw (q, at_new) (λ x. omega (arith, x, below))
      closed j b (no m) = rw (at_old j m) (e.no_gap j b)

  pub joined_sound : Used (task_at d slot) → Sound (joined_of d slot)
  joined_sound used = record {
    count = S.count;
    slots = S.slots;
    order = λ k l o. go k l o (ℕ_discrete k (unused d));
    missing = S.missing;
    seats = λ c l o. let s = S.seats c l o in record { ready = joined_old s.ready; once = s.once; allowed = s.allowed };
  }
    where
      go : (k : ℕ) → k < slot_limit → order_at (joined_of d slot) k ≢ none → Dec (k ≡ unused d) → Entered (joined_of d slot) k
      go k l o (yes e) = rw e (entered_new used)
      go k l o (no n) = entered_old k l n (S.order k l (λ q. o (at_old k n ∙ q)))
