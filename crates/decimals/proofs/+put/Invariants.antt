-- The number falls.
use Rattle.decimals.proofs.+put.Given as goal

abbrev pub decreases-put : goal.decreases-put
decreases-put l = l.n
