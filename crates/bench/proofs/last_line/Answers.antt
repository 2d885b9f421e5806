-- `last_line` meets its promise: how many lines agree, and where one does not, of how many, and the place of the first that does not; the longest of them has room.
use mathlib.Core.Path.{ap}
use native.Mathlib.Omega.{arith}
use lib.ListN.{length}
use Rattle.bench.proofs.Texts.{number_longest, difference_put}
use Rattle.bench.proofs.last_line.Goals as goal

pub push-requires : goal.push-requires
push-requires c = (omega arith, omega (arith, ap length c.new-text.ensures, c.put.ensures.len, number_longest c.args.tally.agree (omega arith)))

pub push-requires-in-None : goal.push-requires-in-None
push-requires-in-None c = (omega arith, omega (arith, ap length c.new-text.ensures, c.put.ensures.len, number_longest c.args.tally.agree (omega arith), c.push.ensures.len))

pub put-requires-in-Some : goal.put-requires-in-Some
put-requires-in-Some c = (omega arith, omega (arith, ap length c.new-text.ensures, c.put.ensures.len, number_longest c.args.tally.agree (omega arith), c.push.ensures.len))

pub push-requires-in-Some : goal.push-requires-in-Some
push-requires-in-Some c = (omega arith, omega (arith, ap length c.new-text.ensures, c.put.ensures.len, number_longest c.args.tally.agree (omega arith), c.push.ensures.len, c.put-in-Some.ensures.len, number_longest c.args.lines (omega arith)))

pub put-requires-in-Some-2 : goal.put-requires-in-Some-2
put-requires-in-Some-2 c = (omega arith, omega (arith, ap length c.new-text.ensures, c.put.ensures.len, number_longest c.args.tally.agree (omega arith), c.push.ensures.len, c.put-in-Some.ensures.len, number_longest c.args.lines (omega arith), c.push-in-Some.ensures.len))

pub put-requires-in-Some-3 : goal.put-requires-in-Some-3
put-requires-in-Some-3 c = (omega arith, omega (arith, ap length c.new-text.ensures, c.put.ensures.len, number_longest c.args.tally.agree (omega arith), c.push.ensures.len, c.put-in-Some.ensures.len, number_longest c.args.lines (omega arith), c.push-in-Some.ensures.len, c.put-in-Some-2.ensures.len))

pub push-requires-in-Some-2 : goal.push-requires-in-Some-2
push-requires-in-Some-2 c = (omega arith, omega (arith, ap length c.new-text.ensures, c.put.ensures.len, number_longest c.args.tally.agree (omega arith), c.push.ensures.len, c.put-in-Some.ensures.len, number_longest c.args.lines (omega arith), c.push-in-Some.ensures.len, c.put-in-Some-2.ensures.len, c.put-in-Some-3.ensures.len))

pub returns-in-Some : goal.returns-in-Some
returns-in-Some c =
    rw c.in-Some.is
    (difference_put _ _ c.in-Some.first c.new-text.ensures c.put.ensures.items c.push.ensures.items c.put-in-Some.ensures.items c.push-in-Some.ensures.items c.put-in-Some-2.ensures.items (rw (c.deref.ensures.0, c.place.ensures) at c.put-in-Some-3.ensures.items) c.push-in-Some-2.ensures.items)
