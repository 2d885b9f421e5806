-- `readiness::block` meets its promise: refused, or the slot leaves the wake order, and the core on which it sat, if any, is filled.
use mathlib.Core.Path.{refl}
use borrow.Author.Rules.{rules}
use Rattle.dispatcher.proofs.Reading.{shaped}
use Rattle.readiness.proofs.Turning.{core_idle, waited_blocks, refilled_blocks}
use Rattle.readiness.proofs.block.Goals as goal

pub returns-in_default-core_of : goal.returns-in_default-core_of
returns-in_default-core_of c = waited_blocks c.in_default.ensures.answer c.leave-order.ensures c.in_default-core_of.ensures (simp c.still-in_default-core_of.ensures)

pub fill-requires : goal.fill-requires
fill-requires c = core_idle c.in_default.ensures.answer (search (rules, shaped)) c.leave-order.ensures refl c.in-Some.ensures

pub returns : goal.returns
returns c =
    refilled_blocks c.in_default.ensures.answer c.fill.result (search (rules, shaped)) c.leave-order.ensures refl c.in-Some.ensures c.fill.ensures (search rules) c.shifted.ensures
