-- A slot gets a task, or is emptied; the wake order and the seats are as they were.
use Rattle.std.specs.Prelude.{ℕ, ◌≡◌, ◌≢◌, set}
use Rattle.dispatcher.specs.Answers.{number_of}
use Rattle.dispatcher.specs.Reports.{still_of}
use Rattle.dispatcher.specs.declared.Task.{Task}
use Rattle.dispatcher.specs.declared.Report.{Report}
use Rattle.dispatcher.specs.declared.Dispatcher.{Dispatcher}
use Rattle.dispatcher.specs.declared.Outcome.{Outcome}

abbrev pub with_task : Dispatcher → ℕ → Task → Dispatcher
with_task d slot t = record { cores = d.cores; tasks = set d.tasks slot t; order = d.order; seats = d.seats }

-- nobody moves, starts or stops
pub record Writes (d : Dispatcher) (slot : ℕ) (t : Task) (r : Outcome) : Type 0 where
  pub written : r.dispatcher ≡ with_task d slot t
  pub still : r.report ≡ still_of r.report.answer

-- the report is p; the slot is written where p says done, and the dispatcher stays as it stood where p is of a refusal
pub record Settles (d : Dispatcher) (slot : ℕ) (t : Task) (p : Report) (r : Outcome) : Type 0 where
  pub report : r.report ≡ p
  pub done : number_of p.answer ≡ 0 → r.dispatcher ≡ with_task d slot t
  pub refused : number_of p.answer ≢ 0 → r.dispatcher ≡ d
