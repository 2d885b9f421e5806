-- `digits` meets its contract: each turn reads one digit more.
use Rattle.cpulists.proofs.Numbers.{from_place, one_more}
use Rattle.cpulists.proofs.Reader.digits.Goals as goal

pub loop-k-preserved : goal.loop-k-preserved
loop-k-preserved c = one_more _ _ (from_place c.args.at c.args.self.now.text.now) c.loop-k.invariant c.loop-k-test.true c.if-not-is_ascii_digit.ensures.cases c.more-value.ensures
