-- `list_of` meets its contract: run after run is written, until none is left.
use Rattle.cpulists.proofs.Listing.{listed_start, run_room, listed_more, less_left, listed_end}
use Rattle.cpulists.proofs.list_of.Goals as goal

pub loop-left-init : goal.loop-left-init
loop-left-init c = listed_start c.new-text.ensures

pub put-requires : goal.put-requires
put-requires c = run_room c.loop-left.invariant c.lowest-run.ensures

pub loop-left-smaller : goal.loop-left-smaller
loop-left-smaller c = less_left c.loop-left.invariant c.lowest-run.ensures c.loop-left.auto.left-fits.fits c.to_set.type_inv c.to_set.ensures

pub loop-left-preserved : goal.loop-left-preserved
loop-left-preserved c = listed_more c.loop-left.invariant c.lowest-run.ensures c.loop-left.auto.left-fits.fits c.to_set.type_inv c.to_set.ensures c.put.ensures

pub returns : goal.returns
returns c = listed_end c.loop-left-test.false c.loop-left.invariant
