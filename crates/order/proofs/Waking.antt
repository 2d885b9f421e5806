-- A ready task: its place in the wake order, and that it is a task of legal priority.
use Prim.Native.Nat.{ℕ, ◌<◌}
use mathlib.Core.Path.{◌≡◌}
use mathlib.Core.Logic.{◌≢◌}
use mathlib.Core.List.{List}
use native.Mathlib.Decide.{dec_lt}
use native.Mathlib.Omega.{arith}
use lib.ListN.{length, get_or, get_or-eq_default}
use Rattle.dispatcher.specs.Limits.{slot_limit, none, LegalPriority}
use Rattle.dispatcher.specs.Slots.{order_at, Ready, Shaped}
use Rattle.dispatcher.specs.Sound.{Sound}
use Rattle.dispatcher.specs.declared.Dispatcher.{Dispatcher}
use Rattle.order.specs.ComesBefore.{priority_of, woke_at}
use Rattle.order.proofs.Standing.{place_holds, place_most}
use Rattle.dispatcher.proofs.Ready.{ready_held, ready_used}

-- ---- its place

-- a place that is not unused is one of the list
pub held_within : (l : List ℕ) {k : ℕ} → get_or l k none ≢ none → k < length l
held_within l {k} held = go (dec_lt k (length l))
  where
    go : Dec (k < length l) → k < length l
    go (yes b) = b
    go (no b) = absurd (held (get_or-eq_default l none {n = k} (omega arith)))

pub woke_within : {d : Dispatcher} {t : ℕ} → Ready d t → woke_at d t < length d.order
woke_within {d} {t} r = omega (arith, place_most d.order t none r.stands, held_within d.order (ready_held r))

pub woke_stands : {d : Dispatcher} {t : ℕ} → Shaped d → Ready d t → (woke_at d t < slot_limit) × (order_at d (woke_at d t) ≡ t)
woke_stands {d} {t} L r = (rw L.order at (woke_within r), place_holds d.order t none (woke_within r))

-- ---- its task

pub ready_priority : {d : Dispatcher} {t : ℕ} → Sound d → Ready d t → LegalPriority (priority_of d t)
ready_priority {d} {t} S r = (S.slots t r.slot (ready_used S r)).priority
