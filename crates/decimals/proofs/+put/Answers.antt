-- `decimals::put` meets its contract: a number of one digit is that digit, and any other is its tenth with one digit after it.
use Rattle.std.proofs.Common.{ℕ, ◌<◌, length, arith}
use Rattle.decimals.proofs.Spelling.{decimal_some, decimal_small, decimal_more, length_more}
use Rattle.texts.proofs.Putting.{puts_room, puts_one, puts_then}
use Rattle.decimals.proofs.+put.Goals as goal

pub bounds-text-at : goal.bounds-text-at
bounds-text-at t c = omega (arith, decimal_some c.args.n)

pub returns-then-n-lt10 : goal.returns-then-n-lt10
returns-then-n-lt10 t c = rw (decimal_small _ c.if-n-lt10.true, c.digit.ensures) (puts_one _ _ _ (omega (arith, decimal_some c.args.n)))

pub put-last-requires : goal.put-last-requires
put-last-requires t c = (omega arith, omega (arith, length_more _ c.if-n-lt10.false))

-- what the digit more takes is left after the tenth
last_room : (t : ℕ) (c : goal.After-digit-2 t) → c.put-last.result < length c.put-last.new.text
last_room t c =
    let grown = length_more c.args.n (omega (arith, c.if-n-lt10.false)) in
    omega (arith, puts_room c.put-last.ensures 1 (omega arith))

pub bounds-text-last : goal.bounds-text-last
bounds-text-last t c = omega (arith, last_room t c)

pub overflow_add-result-2 : goal.overflow_add-result-2
overflow_add-result-2 t c = omega (arith, last_room t c)

pub returns : goal.returns
returns t c =
    let more = length_more _ c.if-n-lt10.false in
    rw (decimal_more _ c.if-n-lt10.false, c.digit-2.ensures) (puts_then c.put-last.ensures (puts_one _ _ _ (last_room t c)) (omega arith))
