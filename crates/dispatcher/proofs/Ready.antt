-- A ready slot: its place holds no mark, it is no mark itself, and it is used; dispatchers with one wake order have the same ready slots.
use Prim.Native.Nat.{ℕ}
use mathlib.Core.Path.{◌≡◌, subst}
use mathlib.Core.Logic.{◌≢◌}
use native.Mathlib.Omega.{arith}
use Rattle.dispatcher.specs.Limits.{none}
use Rattle.dispatcher.specs.Slots.{task_at, order_at, Used, Ready}
use Rattle.dispatcher.specs.Sound.{Sound}
use Rattle.dispatcher.specs.declared.Dispatcher.{Dispatcher}

pub ready_held : {d : Dispatcher} {s : ℕ} → (r : Ready d s) → order_at d r.place ≢ none
ready_held r e = omega (arith, r.slot, r.stands, e)

pub ready_real : {d : Dispatcher} {s : ℕ} → Ready d s → s ≢ none
ready_real r e = omega (arith, r.slot, e)

pub ready_used : {d : Dispatcher} {s : ℕ} → Sound d → Ready d s → Used (task_at d s)
ready_used {d} S r = subst (λ (v : ℕ). Used (task_at d v)) r.stands (S.order r.place r.within (ready_held r)).used

pub ready_alike : {d e : Dispatcher} {s : ℕ} → d.order ≡ e.order → Ready d s → Ready e s
ready_alike same r = record { slot = r.slot; place = r.place; within = r.within; stands = rw (← same) r.stands }
