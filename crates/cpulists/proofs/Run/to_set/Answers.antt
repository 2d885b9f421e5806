-- `to_set` meets its contract: of the word that has every core, as many are kept as are wanted, and moved to the first.
use Rattle.cpulists.proofs.Spanning.{span_lem}
use Rattle.cpulists.proofs.Run.to_set.Goals as goal

pub returns : goal.returns
returns c = span_lem c.requires.0 c.requires.1
