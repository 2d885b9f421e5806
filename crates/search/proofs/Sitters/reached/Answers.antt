-- `reached` meets its promise: each sweep adds reached cores only, and one that adds none has them all.
use Rattle.search.proofs.Sweeping.{grown_start, grown_next, grown_end}
use Rattle.search.proofs.Sitters.reached.Goals as goal

pub loop-seen-init : goal.loop-seen-init
loop-seen-init c = grown_start c.args.self.now.masks c.cut-seen.ensures

pub returns-then-next-seen : goal.returns-then-next-seen
returns-then-next-seen c = grown_end c.loop-seen.invariant c.spread-next.ensures c.if-next-seen.true

pub loop-seen-preserved : goal.loop-seen-preserved
loop-seen-preserved c = grown_next c.loop-seen.invariant c.spread-next.ensures
