-- The records created one after the other, each by an accepted create.
use Rattle.std.specs.Prelude.{◌≡◌, List, [], ◌∷◌}
use Rattle.dispatcher.specs.Answers.{number_of}
use Rattle.dispatcher.specs.declared.TaskRecord.{TaskRecord}
use Rattle.dispatcher.specs.declared.Dispatcher.{Dispatcher}
use Rattle.dispatcher.specs.declared.Outcome.{Outcome}
use Rattle.tasks.specs.Create.{Creates}

abbrev pub CreatesRecord : Dispatcher → TaskRecord → Outcome → Type 0
CreatesRecord d t r = Creates d t.slot t.priority t.mask r

-- e is what the creates make of d
abbrev pub CreatesAll : Dispatcher → List TaskRecord → Dispatcher → Type 0
CreatesAll d [] e = e ≡ d
CreatesAll d (t ∷ ts) e = (r : Outcome) × CreatesRecord d t r × (number_of r.report.answer ≡ 0) × CreatesAll r.dispatcher ts e
