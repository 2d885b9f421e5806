-- What is written and what is left make up the set. The measure is what is left, as a number.
use Rattle.cpulists.proofs.Listing.{Listed}
use Rattle.cpulists.proofs.list_of.Given as goal

abbrev pub invariant-loop-left : goal.invariant-loop-left
invariant-loop-left l = Listed l.set l.text.items l.left

abbrev pub decreases-loop-left : goal.decreases-loop-left
decreases-loop-left l = l.left
