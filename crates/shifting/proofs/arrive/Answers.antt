-- `arrive` meets its promise: a search to the idle cores is taken, or none of them is reached.
use Rattle.std.proofs.Common.{rules}
use Rattle.dispatcher.proofs.Reading.{shaped}
use Rattle.shifting.proofs.Deciding.{idle_taken, idle_none}
use Rattle.shifting.proofs.arrive.Goals as goal

pub sitters-sitting-requires : goal.sitters-sitting-requires
sitters-sitting-requires c = search (rules, shaped)

pub returns-in-Some : goal.returns-in-Some
returns-in-Some c =
    idle_taken (search (rules, shaped)) c.requires c.sitters-sitting.ensures.0 c.sitters-sitting.ensures.1 (rw c.from.ensures at c.in-Some.ensures) c.taken.ensures

pub push-requires : goal.push-requires
push-requires c = idle_none (search (rules, shaped)) c.requires c.sitters-sitting.ensures.0 c.sitters-sitting.ensures.1 (rw c.from.ensures at c.in_default.ensures)
