-- `readiness::wake` meets its promise: refused, or the slot joins the wake order and arrives.
use borrow.Author.Rules.{rules}
use Rattle.dispatcher.proofs.Reading.{shaped}
use Rattle.readiness.proofs.Turning.{joined_arriving, arrived_wakes}
use Rattle.readiness.proofs.wake.Goals as goal

pub arrive-requires : goal.arrive-requires
arrive-requires c = joined_arriving c.in_default.ensures.answer (search (rules, shaped)) c.join-order.ensures

pub returns : goal.returns
returns c = arrived_wakes c.in_default.ensures.answer c.arrive.result (search (rules, shaped)) c.join-order.ensures c.arrive.ensures (search rules) c.shifted.ensures
