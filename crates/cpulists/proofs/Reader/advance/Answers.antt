-- `advance` meets its contract: an item is followed by the end, or by a comma and an item to come.
use native.Mathlib.Omega.{arith}
use Rattle.std.proofs.lemmas.Grind.{common_steps}
use Rattle.cpulists.proofs.Verdicts.{no_comma}
use Rattle.cpulists.proofs.Gathering.{walk_end, walk_comma, ends_open}
use Rattle.cpulists.proofs.Reader.advance.Goals as goal

pub returns-in-empty : goal.returns-in-empty
returns-in-empty c = walk_end c.requires.1 c.in_ok-item.ensures c.to_set.ensures (grind (arith, common_steps))

pub returns-in-44-2 : goal.returns-in-44-2
returns-in-44-2 c = ends_open c.requires.1 c.in_ok-item.ensures c.to_set.ensures (grind (arith, common_steps)) (grind (arith, common_steps))

pub returns-in-44 : goal.returns-in-44
returns-in-44 c = walk_comma c.requires.1 c.in_ok-item.ensures c.to_set.ensures (grind (arith, common_steps)) (grind (arith, common_steps))

pub returns-in_default : goal.returns-in_default
returns-in_default c = no_comma c.requires.1.opens c.in_ok-item.ensures (grind (arith, common_steps)) (grind (arith, common_steps))

pub returns-in_default-2 : goal.returns-in_default-2
returns-in_default-2 c = no_comma c.requires.1.opens c.in_ok-item.ensures (grind (arith, common_steps)) (grind (arith, common_steps))
