-- `tasks::create` meets its promise.
use Rattle.dispatcher.proofs.Promises.{called_below}
use Rattle.tasks.proofs.Settling.{settles_promised}
use Rattle.tasks.proofs.create.Goals as goal

pub written-requires : goal.written-requires
written-requires c = rw c.still-report.ensures (called_below c.args.d c.create_answer-answer.ensures.answer)

pub returns : goal.returns
returns c = settles_promised c.create_answer-answer.ensures (rw c.still-report.ensures at c.written.ensures)
