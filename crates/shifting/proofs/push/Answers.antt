-- `push` meets its promise: of the tasks on reached cores the last is picked, and the newcomer waits unless it comes before it.
use Rattle.shifting.proofs.Deciding.{reached_held, none_to_push, last_slot, must_wait, loser_found, loser_pushed}
use Rattle.shifting.proofs.push.Goals as goal

pub last_on-requires : goal.last_on-requires
last_on-requires c = reached_held c.requires (rw c.from.ensures at c.reached-seen.ensures)

pub returns-in_default : goal.returns-in_default
returns-in_default c = none_to_push c.requires (rw c.from.ensures at c.reached-seen.ensures) c.in_default.ensures c.still.ensures

pub comes_before-requires : goal.comes_before-requires
comes_before-requires c = (c.requires.arriving.waits.ready.slot, last_slot c.requires (rw c.from.ensures at c.reached-seen.ensures) c.in-Some.ensures)

pub returns-then-not-comes_before : goal.returns-then-not-comes_before
returns-then-not-comes_before c =
    must_wait c.requires (rw c.from.ensures at c.reached-seen.ensures) c.in-Some.ensures (c.comes_before.ensures.no c.if-not-comes_before.true) c.still-then-not-comes_before.ensures

pub unwrap-route-requires : goal.unwrap-route-requires
unwrap-route-requires c =
    loser_found c.requires (rw c.from.ensures at c.reached-seen.ensures) c.in-Some.ensures _ _ c.add-target.ensures (rw c.from.ensures at c.search.ensures)

pub returns : goal.returns
returns c =
    loser_pushed c.requires (rw c.from.ensures at c.reached-seen.ensures) c.in-Some.ensures c.add-target.ensures (c.comes_before.ensures.yes c.if-not-comes_before.false)
    (rw (c.from.ensures, c.unwrap-route.ensures) at c.search.ensures) c.taken.ensures
