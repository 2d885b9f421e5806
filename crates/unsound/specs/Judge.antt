-- What the program says of the bytes of a file: that they are no dump, or what the check of soundness answers of the dispatcher that they mean.
use Rattle.std.specs.Prelude.{ℕ, List, Option, Some, None}
use Rattle.dispatcher.specs.Unsound.{unsound_refusals}
use Rattle.dispatcher.specs.Promise.{Answered}
use Rattle.dispatcher.specs.Answers.{Answer}
use Rattle.dispatcher.specs.declared.Dispatcher.{Dispatcher}
use Rattle.unsound.specs.Dump.{IsDump, Dumps}

pub record AnswerTo (b : List ℕ) (a : Answer) : Type 0 where
  pub dump : IsDump b
  pub dispatcher : Dispatcher
  pub means : Dumps b dispatcher
  pub answer : Answered (unsound_refusals dispatcher) dispatcher a

abbrev pub Judges : List ℕ → Option Answer → Type 0
Judges b None = IsDump b → ⊥
Judges b (Some a) = AnswerTo b a
