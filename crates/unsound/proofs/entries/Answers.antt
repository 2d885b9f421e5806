-- `entries` meets its promise: each entry is what the call at its place gave.
use borrow.Author.Rules.{rules}
use Rattle.unsound.proofs.Filling.{entries_of}
use Rattle.unsound.proofs.entries.Goals as goal

pub returns : goal.returns
returns g c = entries_of _ _ (λ i y q k. search rules) c.from_fn.ensures.items
