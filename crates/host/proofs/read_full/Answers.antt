-- `read_full` keeps its promise: each read goes on behind the bytes that are filled already.
use borrow.Author.Rules.{rules}
use Rattle.host.proofs.Filled.{filled_more}
use Rattle.host.proofs.read_full.Goals as goal

pub loop-n-preserved : goal.loop-n-preserved
loop-n-preserved g c = record {
  within = search rules;
  taken = filled_more _ _ _ _ _ _ _ _ c.loop-n.invariant.within c.in_ok-more.ensures.bound.0 c.loop-n.invariant.taken c.in_ok-more.ensures.bytes.0;
}
