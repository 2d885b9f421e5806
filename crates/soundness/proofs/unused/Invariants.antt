-- `unused` meets its promise: `all` tells whether the places up to the loop's hold the mark.
use Rattle.laws.specs.Decides.{Decides}
use Rattle.laws.specs.Lowest.{Throughout}
use Rattle.soundness.specs.Parts.{Unused}
use Rattle.soundness.proofs.unused.Given as goal

abbrev pub invariant-loop-held : goal.invariant-loop-held
invariant-loop-held l = Decides (Throughout l.held-index (Unused l.list)) l.all
