-- `distances` meets its promise: the marks are right for as many steps as there were rounds, by fewer steps no core of the start is near, and a round that adds no core is the last.
use Rattle.search.proofs.Marking.{rounds_next, rounds_stuck, rounds_over}
use Rattle.search.proofs.Sitters.distances.Goals as goal

pub returns-then-next-near : goal.returns-then-next-near
returns-then-next-near c = rounds_stuck c.loop-limit.invariant c.loop-limit-test.true c.if-start-near-ne0.false c.round.ensures c.gathered-next.ensures c.if-next-near.true

pub loop-limit-preserved : goal.loop-limit-preserved
loop-limit-preserved c = rounds_next c.loop-limit.invariant c.loop-limit-test.true c.if-start-near-ne0.false c.round.ensures c.gathered-next.ensures

pub returns : goal.returns
returns c = rounds_over c.loop-limit.invariant c.loop-limit-test.false
