-- The text is read up to the place.
use Rattle.cpumasks.specs.Progress.{MaskTo}
use Rattle.cpumasks.proofs.read.Given as goal

abbrev pub invariant-loop-at : goal.invariant-loop-at
invariant-loop-at l = MaskTo l.form.cores l.form.words l.text l.at-counter l.set
