-- `cpulists::read` meets its promise: item by item, until a fault or the end.
use native.Mathlib.Omega.{arith}
use Rattle.cpulists.proofs.Passing.{faultless, legal_items}
use Rattle.cpulists.proofs.Gathering.{start, start_all}
use Rattle.cpulists.proofs.read.Goals as goal

pub loop-walk-init : goal.loop-walk-init
loop-walk-init c = ((λ _. start), λ l. start_all (omega arith))

pub advance-requires : goal.advance-requires
advance-requires c = rw c.cores.ensures (c.loop-walk-test.true, c.loop-walk.invariant.0 c.loop-walk-test.true)

pub loop-walk-preserved : goal.loop-walk-preserved
loop-walk-preserved c = let w = rw c.cores.ensures at c.in_ok-walk.ensures in (w.to, λ l. (w.all l).1)

pub returns : goal.returns
returns c =
    let r = c.loop-walk.invariant.1 c.loop-walk-test.false in
    (faultless r.items r.legal r.is, record { items = r.items; each = legal_items _ r.items r.legal; is = r.is; cores = r.cores })
