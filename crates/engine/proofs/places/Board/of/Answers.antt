-- `Board::of` meets its promise: each slot has its mask, and beyond the slots there is neither mask nor task.
use Prim.Native.Nat.{ℕ, ◌<◌}
use mathlib.Core.Path.{◌≡◌, sym, ap, ◌∙◌}
use mathlib.Core.List.{List}
use native.Mathlib.Decide.{dec_lt}
use native.Mathlib.Omega.{arith}
use lib.ListN.{length, get_or}
use borrow.Author.Rules.{rules}
use Rattle.laws.proofs.Lists.{get_d_beyond}
use Rattle.dispatcher.specs.Limits.{slot_limit}
use Rattle.dispatcher.specs.Slots.{no_task, task_at}
use Rattle.dispatcher.specs.declared.Task.{Task}
use Rattle.dispatcher.specs.declared.Dispatcher.{Dispatcher}
use Rattle.engine.specs.Search.{MasksOf}
use Rattle.engine.proofs.places.Board.of.Goals as goal

all : {d : Dispatcher} {masks : List ℕ} → length d.tasks ≡ slot_limit → length masks ≡ slot_limit → ((t : ℕ) → t < slot_limit → get_or masks t 0 ≡ (task_at d t).mask) → MasksOf d masks
all {d} {masks} long long' each = record { each = λ t. go t (dec_lt t slot_limit) }
  where
    go : (t : ℕ) → Dec (t < slot_limit) → get_or masks t 0 ≡ (task_at d t).mask
    go t (yes l) = each t l
    go t (no l) = get_d_beyond masks t 0 (omega (arith, long')) ∙ ap (λ (x : Task). x.mask) (sym (get_d_beyond d.tasks t no_task (omega (arith, long))))

pub returns-clause-masks : goal.returns-clause-masks
returns-clause-masks c = all c.requires.shaped.tasks c.map.ensures.items.long (λ t l. let kept = (c.map.ensures.items.at t no_task 0 l).2 in search rules)
