-- `leave` meets its promise: those after the slot are copied up by one place, and the last place is unused.
use mathlib.Core.Path.{◌≡◌, sym, ◌∙◌}
use native.Mathlib.Omega.{arith}
use lib.ListN.{length}
use borrow.Author.Rules.{rules}
use Rattle.order.proofs.Standing.{place_some, place_absent}
use Rattle.order.proofs.MovingUp.{moved, stays}
use Rattle.order.proofs.leave.Goals as goal

pub returns-in-Some : goal.returns-in-Some
returns-in-Some c =
    let stands = place_some c.args.order c.args.slot (sym c.place_in.ensures ∙ c.in-Some.is) in
    let length-is : length c.args.order ≡ 128 = search rules in
    let copied = c.copy_from_slice.ensures in
    moved c.args.order c.copy_from_slice.new.self c.args.slot (omega (arith, stands.0)) (omega (arith, stands.1, length-is)) length-is copied.after

pub returns-in_default : goal.returns-in_default
returns-in_default c = stays _ _ (place_absent c.args.order c.args.slot (sym c.place_in.ensures ∙ c.in_default.is))
