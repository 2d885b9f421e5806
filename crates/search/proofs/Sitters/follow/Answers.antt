-- `follow` meets its promise: the cores so far and the walk that is left make the whole route.
use Rattle.search.proofs.Following.{going_start, nearer, room, going_next, going_end, going_cores}
use Rattle.search.proofs.Spelling.{spelled_start, spelled_cores, spelled_next}
use Rattle.search.proofs.Lowest.{lowest_some, lowest_is}
use Rattle.search.proofs.Sitters.follow.Goals as goal

pub loop-limit-init : goal.loop-limit-init
loop-limit-init c = (going_start c.requires, spelled_start)

pub unwrap-core-requires : goal.unwrap-core-requires
unwrap-core-requires c = lowest_some _ _ _ _ _ c.lowest_within.ensures (nearer c.loop-limit.invariant.0 c.loop-limit-test.true)

pub bounds-cores-len : goal.bounds-cores-len
bounds-cores-len c = room c.loop-limit.invariant.0 c.loop-limit-test.true c.args.self.now.few c.loop-limit.invariant.1

pub loop-limit-preserved : goal.loop-limit-preserved
loop-limit-preserved c =
    let l = room c.loop-limit.invariant.0 c.loop-limit-test.true c.args.self.now.few c.loop-limit.invariant.1 in (
      rw (spelled_cores c.loop-limit.invariant.1 _ l) (going_next c.loop-limit.invariant.0 c.loop-limit-test.true (lowest_is _ _ _ _ c.unwrap-core.ensures c.lowest_within.ensures)),
      spelled_next c.loop-limit.invariant.1 _ l,
    )

pub invariant_of-result : goal.invariant_of-result
invariant_of-result c = (going_cores c.args.self.now.few c.loop-limit.invariant.0 c.loop-limit-test.false, c.loop-limit.invariant.1)

pub returns : goal.returns
returns c = going_end c.loop-limit.invariant.0 c.loop-limit-test.false
