-- What create does, as a function that computes, over what the check of soundness says; and that it meets the promise.
use Prim.Native.Nat.{ℕ, ◌/◌, ◌^◌, ◌<◌}
use mathlib.Core.Path.{refl}
use mathlib.Core.Bool.{Bool, not, cond}
use mathlib.Core.List.{List, [], ◌∷◌, ◌++◌}
use Rattle.std.specs.Prelude.{Err}
use native.Mathlib.Omega.{arith}
use lib.Dec.{eqb, leb}
use borrow.Author.Tests.{eq-eqb, ne_eqb}
use Rattle.laws.specs.Decides.{Decides}
use Rattle.laws.specs.Answering.{◌when◌, turn_of, Answers}
use Rattle.laws.proofs.Answering.{AllLater}
use Rattle.laws.proofs.Deciding.{decides_eq, decides_le}
use Rattle.masks.proofs.Bits.{names_test}
use Rattle.dispatcher.specs.Limits.{slot_limit}
use Rattle.dispatcher.specs.Slots.{task_at}
use Rattle.dispatcher.specs.Answers.{Answer, number_of}
use Rattle.dispatcher.specs.Unsound.{unsound_refusals}
use Rattle.dispatcher.specs.Reports.{still_of}
use Rattle.dispatcher.specs.Promise.{Answered}
use Rattle.dispatcher.specs.declared.Refusal.TheVariants.{SlotAbove, SlotInUse, SlotEmpty, PriorityZero, MaskEmpty, MissingCore}
use Rattle.dispatcher.specs.declared.Task.{Task}
use Rattle.dispatcher.specs.declared.Report.{Report}
use Rattle.dispatcher.specs.declared.Dispatcher.{Dispatcher}
use Rattle.dispatcher.specs.declared.Outcome.{Outcome}
use Rattle.dispatcher.proofs.Judging.{Test, test, first_of, JudgedBy, judged, judged_later}
use Rattle.dispatcher.proofs.Testing.{empty_test, empty_decides, used_decides}
use Rattle.dispatcher.proofs.Unsound.{checked_then, checked_then_lem}
use Rattle.tasks.specs.Table.{with_task, Settles}
use Rattle.tasks.specs.Named.{slot_refusals, named_refusals}
use Rattle.tasks.specs.Create.{entry_refusals, Creates}
use Rattle.tasks.proofs.Settling.{settles_promised}

-- ---- the answers

abbrev pub entry_tests : Dispatcher → ℕ → ℕ → ℕ → List Test
entry_tests d slot priority mask =
    test (leb slot_limit slot) (Err SlotAbove) ∷
    test (not (empty_test (task_at d slot))) (Err SlotInUse) ∷
    test (eqb priority 0) (Err PriorityZero) ∷
    test (eqb mask 0) (Err MaskEmpty) ∷
    test (not (eqb (mask / 2 ^ d.cores) 0)) (Err MissingCore) ∷ []

pub entry_judges : (d : Dispatcher) (slot priority mask : ℕ) → JudgedBy (entry_refusals d slot priority mask) (entry_tests d slot priority mask)
entry_judges d slot priority mask = (
  decides_le slot_limit slot,
  refl,
  omega arith,
  (
    used_decides (task_at d slot),
    refl,
    omega arith,
    (decides_eq priority 0, refl, omega arith, (decides_eq mask 0, refl, omega arith, (names_test d.cores mask, refl, omega arith, tt))),
  ),
)

pub entry_later : (d : Dispatcher) (slot priority mask : ℕ) → AllLater (entry_refusals d slot priority mask)
entry_later d slot priority mask = judged_later (entry_refusals d slot priority mask) (entry_tests d slot priority mask) (entry_judges d slot priority mask)

pub entry_answers : (d : Dispatcher) (slot priority mask : ℕ) → Answers (entry_refusals d slot priority mask) (number_of (first_of (entry_tests d slot priority mask)))
entry_answers d slot priority mask = judged (entry_refusals d slot priority mask) (entry_tests d slot priority mask) (entry_judges d slot priority mask)

-- the tests of every call on the task in a slot, and one more
abbrev pub slot_tests : Dispatcher → ℕ → List Test → List Test
slot_tests d slot more =
    test (leb slot_limit slot) (Err SlotAbove) ∷
    test (empty_test (task_at d slot)) (Err SlotEmpty) ∷ more

pub slot_judges : (d : Dispatcher) (slot : ℕ) → JudgedBy (slot_refusals d slot) (slot_tests d slot [])
slot_judges d slot = (decides_le slot_limit slot, refl, omega arith, (empty_decides (task_at d slot), refl, omega arith, tt))

pub slot_answers : (d : Dispatcher) (slot : ℕ) → Answers (slot_refusals d slot) (number_of (first_of (slot_tests d slot [])))
slot_answers d slot = judged (slot_refusals d slot) (slot_tests d slot []) (slot_judges d slot)

pub slot_later : (d : Dispatcher) (slot : ℕ) → AllLater (slot_refusals d slot)
slot_later d slot = judged_later (slot_refusals d slot) (slot_tests d slot []) (slot_judges d slot)

-- j is what the check of soundness says
pub named_and : {d : Dispatcher} (slot : ℕ) {P : Type 0} {f : Bool} (j a : Answer) → Answered (unsound_refusals d) d j → Decides P f → turn_of 5 < turn_of (number_of a)
    → Answered (named_refusals d slot ++ (number_of a when P ∷ [])) d (checked_then j (slot_tests d slot (test f a ∷ [])))
named_and {d} slot {P} {f} j a s p l =
    checked_then_lem j (slot_refusals d slot ++ (number_of a when P ∷ [])) (slot_tests d slot (test f a ∷ [])) s
    (decides_le slot_limit slot, refl, omega arith, (empty_decides (task_at d slot), refl, omega arith, (p, refl, l, tt)))

-- ---- the call

-- the dispatcher as it stood where the report is of a refusal, and the next one where it says done
abbrev pub settled_as : Report → Dispatcher → Dispatcher → Outcome
settled_as p d next = record { report = p; dispatcher = cond (eqb (number_of p.answer) 0) next d }

abbrev pub settled : Answer → Dispatcher → Dispatcher → Outcome
settled a = settled_as (still_of a)

pub settled_settles : {d : Dispatcher} {slot : ℕ} {t : Task} (p : Report) → Settles d slot t p (settled_as p d (with_task d slot t))
settled_settles p = record { report = refl; done = λ z. rw (eq-eqb (number_of p.answer) 0 z) refl; refused = λ z. rw (ne_eqb (number_of p.answer) 0 z) refl }

abbrev pub create_of : Answer → Dispatcher → ℕ → ℕ → ℕ → Outcome
create_of j d slot priority mask = settled (checked_then j (entry_tests d slot priority mask)) d (with_task d slot (record { priority = priority; mask = mask }))

pub create_creates : {d : Dispatcher} (j : Answer) (slot priority mask : ℕ) → Answered (unsound_refusals d) d j → Creates d slot priority mask (create_of j d slot priority mask)
create_creates {d} j slot priority mask s =
    settles_promised
    (checked_then_lem j (entry_refusals d slot priority mask) (entry_tests d slot priority mask) s (entry_judges d slot priority mask))
    (settled_settles (still_of (checked_then j (entry_tests d slot priority mask))))
