-- What accepted creates keep, a load keeps: a dispatcher stays sound. A slot that a load fills was not ready.
use Prim.Native.Nat.{ℕ, ◌≤◌, ◌<◌}
use mathlib.Core.Path.{◌≡◌, refl}
use mathlib.Core.Logic.{inl, inr}
use mathlib.Core.List.{List, [], ◌∷◌}
use native.Mathlib.Decide.{ℕ_discrete}
use lib.ListN.{length}
use Rattle.laws.specs.Lists.{All}
use Rattle.laws.proofs.Answering.{none_applies}
use Rattle.dispatcher.specs.Limits.{greatest_priority}
use Rattle.dispatcher.specs.Slots.{Ready, Shaped}
use Rattle.dispatcher.specs.Sound.{Sound}
use Rattle.dispatcher.specs.Answers.{number_of}
use Rattle.dispatcher.specs.declared.TaskRecord.{TaskRecord}
use Rattle.dispatcher.specs.declared.Dispatcher.{Dispatcher}
use Rattle.dispatcher.specs.declared.Outcome.{Outcome}
use Rattle.dispatcher.proofs.Ready.{ready_used}
use Rattle.tasks.proofs.Keeping.{create_keeps}
use Rattle.boot.specs.Load.{record_at, AllOrNone}
use Rattle.boot.specs.Creating.{CreatesRecord, CreatesAll}
use Rattle.boot.proofs.Refusing.{all_accepted}
use Rattle.boot.proofs.Creating.{load_creates}

-- what every accepted create keeps, the creates of a list keep
pub creates_all_keeps : (K : Dispatcher → Type 0)
    → ((d : Dispatcher) (t : TaskRecord) (r : Outcome) → Shaped d → Sound d → t.priority ≤ greatest_priority → CreatesRecord d t r → number_of r.report.answer ≡ 0 → K d → K r.dispatcher)
    → {d e : Dispatcher} (list : List TaskRecord) → Shaped d → Sound d → All (λ (t : TaskRecord). t.priority ≤ greatest_priority) list → CreatesAll d list e → K d → K e
creates_all_keeps K step [] L S bytes h k = rw h k
creates_all_keeps K step (t ∷ ts) L S bytes (r, C, z, rest) k =
    let kept = create_keeps L S bytes.0 C in
    creates_all_keeps K step ts kept.0 kept.1 bytes.1 rest (step _ t r L S bytes.0 C z k)

pub load_keeps : {d : Dispatcher} {list : List TaskRecord} {r : Outcome} → Shaped d → Sound d → All (λ (t : TaskRecord). t.priority ≤ greatest_priority) list → AllOrNone d list r
    → Shaped r.dispatcher × Sound r.dispatcher
load_keeps {d} {list} {r} L S bytes F = go (ℕ_discrete (number_of r.report.answer) 0)
  where
    go : Dec (number_of r.report.answer ≡ 0) → Shaped r.dispatcher × Sound r.dispatcher
    go (yes z) = creates_all_keeps (λ e. Shaped e × Sound e) (λ e t q M T byte C y k. create_keeps M T byte C) list L S bytes (load_creates L bytes F z) (L, S)
    go (no z) = rw (F.kept z) (L, S)

-- where a load is done, the slots that it names were empty, so they were not ready
pub loaded_off : {d : Dispatcher} {list : List TaskRecord} {r : Outcome} → Sound d → AllOrNone d list r → number_of r.report.answer ≡ 0
    → (i : ℕ) → i < length list → Ready d (record_at list i).slot → ⊥
loaded_off {d} {list} S F z i l q = none_applies (all_accepted {d = d} {list = list} (rw z at F.answer) i l) refl 4 (inr (inl (refl, inl (ready_used S q))))
