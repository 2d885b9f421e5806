-- `tasks_of` meets its promise: each task is what the call at its slot gave.
use borrow.Author.Rules.{rules}
use Rattle.unsound.proofs.Filling.{entries_of}
use Rattle.unsound.proofs.tasks_of.Goals as goal

pub returns : goal.returns
returns c = entries_of _ _ (λ i y q k. search rules) c.from_fn.ensures.items
