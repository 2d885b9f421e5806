-- `search` meets its promise: the marks that the rounds end with tell whether there is a chain, and which is chosen.
use Rattle.search.proofs.Following.{answer_none, answer_ready, answer_found}
use Rattle.search.proofs.Sitters.search.Goals as goal

pub returns-then-start-m-eq0 : goal.returns-then-start-m-eq0
returns-then-start-m-eq0 c = answer_none c.args.self.now.few c.distances-m.ensures c.if-start-m-eq0.true

pub follow-requires : goal.follow-requires
follow-requires c = answer_ready c.args.self.now.few c.distances-m.ensures c.if-start-m-eq0.false

pub returns : goal.returns
returns c = answer_found c.args.self.now.few c.distances-m.ensures c.if-start-m-eq0.false c.follow.ensures
