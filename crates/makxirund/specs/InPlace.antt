-- A call in place: what is stored and what is reported are those of the call by value.
use Rattle.std.specs.Prelude.{◌≡◌}
use Rattle.dispatcher.specs.Reports.{plain_of}
use Rattle.dispatcher.specs.declared.PlainReport.{PlainReport}
use Rattle.dispatcher.specs.declared.Dispatcher.{Dispatcher}
use Rattle.dispatcher.specs.declared.Outcome.{Outcome}
use Rattle.boot.specs.declared.LoadReport.{LoadReport}
use Rattle.boot.specs.declared.Loaded.{Loaded}
use Rattle.makxirund.specs.declared.PlainLoadReport.{PlainLoadReport}

-- after the call the lent dispatcher is `after`
pub record InPlace (ByValue : Outcome → Type 0) (after : Dispatcher) (r : PlainReport) : Type 0 where
  pub outcome : Outcome
  pub by_value : ByValue outcome
  pub stored : after ≡ outcome.dispatcher
  pub told : r ≡ plain_of outcome.report

abbrev pub plain_load_of : LoadReport → PlainLoadReport
plain_load_of l = record { report = plain_of l.report; index = l.index }

pub record LoadsInPlace (ByValue : Loaded → Type 0) (after : Dispatcher) (r : PlainLoadReport) : Type 0 where
  pub loaded : Loaded
  pub by_value : ByValue loaded
  pub stored : after ≡ loaded.dispatcher
  pub told : r ≡ plain_load_of loaded.report
