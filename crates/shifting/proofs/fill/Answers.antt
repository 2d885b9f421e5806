-- `fill` meets its promise: the first of the waiting tasks whose mask meets the cores that lead to the idle one takes the chain that a search finds.
use Rattle.std.proofs.Common.{rules}
use Rattle.dispatcher.proofs.Reading.{shaped}
use Rattle.shifting.proofs.Deciding.{nobody_starts, first_found, first_starts}
use Rattle.shifting.proofs.fill.Goals as goal

pub sitters-requires : goal.sitters-requires
sitters-requires c = search (rules, shaped)

pub first_seeking-requires : goal.first_seeking-requires
first_seeking-requires c = search (rules, shaped)

pub returns-in_default : goal.returns-in_default
returns-in_default c = nobody_starts (search (rules, shaped)) c.requires c.sitters.ensures.0 c.add-target.ensures c.leading-lead.ensures c.in_default.ensures c.still.ensures

pub unwrap-route-requires : goal.unwrap-route-requires
unwrap-route-requires c =
    first_found (search (rules, shaped)) c.requires c.sitters.ensures.0 c.add-target.ensures c.leading-lead.ensures c.in-Some.ensures _ (rw c.from.ensures at c.search.ensures)

pub returns : goal.returns
returns c =
    first_starts (search (rules, shaped)) c.requires c.sitters.ensures.0 c.add-target.ensures c.leading-lead.ensures c.in-Some.ensures
    (rw (c.from.ensures, c.unwrap-route.ensures) at c.search.ensures) c.taken.ensures
