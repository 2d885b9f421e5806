-- `item` meets its contract: a number, or a number and a range's second number.
use native.Mathlib.Omega.{arith}
use Rattle.std.proofs.lemmas.Grind.{common_steps}
use Rattle.cpulists.proofs.Verdicts.{opens_wants, half_wants, second_backward}
use Rattle.cpulists.proofs.Pieces.{one_item, half_read, range_item}
use Rattle.cpulists.proofs.Reader.item.Goals as goal

pub number-requires : goal.number-requires
number-requires c = opens_wants c.requires.1 c.requires.0

pub returns-in_default : goal.returns-in_default
returns-in_default c = one_item c.in_ok-first.ensures (grind (arith, common_steps))

pub returns-in_default-2 : goal.returns-in_default-2
returns-in_default-2 c = one_item c.in_ok-first.ensures (grind (arith, common_steps))

pub number-requires-2 : goal.number-requires-2
number-requires-2 c = half_wants (half_read c.requires.1 c.in_ok-first.ensures (grind (arith, common_steps)) (grind (arith, common_steps)))

pub returns-then-last-first : goal.returns-then-last-first
returns-then-last-first c =
    second_backward (half_read c.requires.1 c.in_ok-first.ensures (grind (arith, common_steps)) (grind (arith, common_steps))) c.in_ok-last.ensures.there
    (omega (arith, c.in_ok-last.ensures.value_told))

pub returns : goal.returns
returns c = range_item (half_read c.requires.1 c.in_ok-first.ensures (grind (arith, common_steps)) (grind (arith, common_steps))) c.in_ok-last.ensures (omega (arith, c.if-last-first.false))
