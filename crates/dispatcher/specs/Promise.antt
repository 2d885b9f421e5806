-- What every call on a lent dispatcher promises: of the numbers that apply its answer is the one whose turn comes first, and tells what is
-- unsound; a refused call leaves the dispatcher unchanged and reports zero moves and none, none; an accepted one does what Done says.
use Rattle.std.specs.Prelude.{◌≡◌, ◌≢◌, List}
use Rattle.laws.specs.Answering.{Refusal, Answers}
use Rattle.dispatcher.specs.Answers.{Answer, number_of, place_of}
use Rattle.dispatcher.specs.Unsound.{Points}
use Rattle.dispatcher.specs.Reports.{still_of}
use Rattle.dispatcher.specs.declared.Dispatcher.{Dispatcher}
use Rattle.dispatcher.specs.declared.Outcome.{Outcome}

-- the number and the place of an answer
pub record Answered (refusals : List Refusal) (d : Dispatcher) (a : Answer) : Type 0 where
  pub answer : Answers refusals (number_of a)
  pub place : Points d (number_of a) (place_of a)

pub record Promised (refusals : List Refusal) (d : Dispatcher) (Done : Outcome → Type 0) (r : Outcome) : Type 0 where
  pub answer : Answers refusals (number_of r.report.answer)
  pub place : Points d (number_of r.report.answer) (place_of r.report.answer)
  pub done : number_of r.report.answer ≡ 0 → Done r
  pub kept : number_of r.report.answer ≢ 0 → r.dispatcher ≡ d
  pub still : number_of r.report.answer ≢ 0 → r.report ≡ still_of r.report.answer
