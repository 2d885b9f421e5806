-- Document 02, request 4: "no legal seating of the ready tasks runs more tasks of priority p or above, for any p".
use Rattle.std.specs.Prelude.{ℕ, Bool, leb}
use Rattle.seating.specs.Class.{Most}
use Rattle.dispatcher.specs.Limits.{none}
use Rattle.dispatcher.specs.Slots.{Ready}
use Rattle.dispatcher.specs.declared.Dispatcher.{Dispatcher}
use Rattle.order.specs.ComesBefore.{priority_of}
use Rattle.shifting.specs.Board.{may_run}

-- the task in slot t is of priority p or above
abbrev pub from_priority : Dispatcher → ℕ → ℕ → Bool
from_priority d p t = leb p (priority_of d t)

-- no legal seating of the ready tasks of d runs more of them than s
abbrev pub MostFrom : Dispatcher → ℕ → (ℕ → ℕ) → Type 0
MostFrom d p s = Most d.cores none (may_run d) (Ready d) (from_priority d p) s
