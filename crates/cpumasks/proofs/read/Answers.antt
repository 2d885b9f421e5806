-- `read` meets its promise: place after place is read, until a fault or the end.
use mathlib.Core.Path.{◌≡◌}
use native.Mathlib.Omega.{arith}
use lib.ListN.{length}
use Rattle.cpumasks.specs.Mask.{mask_size}
use Rattle.cpumasks.proofs.Steps.{fault_surplus, means_all, means_faultless, to_below}
use Rattle.cpumasks.proofs.read.Goals as goal

pub returns-then-end-text : goal.returns-then-end-text
returns-then-end-text c =
    let all : c.loop-at.at-counter ≡ c.size-end.result = omega arith in
    rw (← c.new-form.ensures, ← c.new-form.result.needed) (fault_surplus (rw all at c.loop-at.invariant) (omega arith) (omega arith) (omega arith))

pub returns : goal.returns
returns c =
    let all : c.loop-at.at-counter ≡ mask_size c.new-form.result.words = omega arith in
    let to = rw all at c.loop-at.invariant in
    let whole : length c.args.text.now ≡ mask_size c.new-form.result.words = omega arith in
    rw (← c.new-form.ensures, ← c.new-form.result.needed) (means_faultless (to_below to) (means_all to whole), means_all to whole)
