-- An accepted load is the creates one after the other, and a refused one stops at the record whose create is refused, with its number.
use Prim.Native.Nat.{ℕ, zero, suc, ◌+◌, ◌≤◌}
use mathlib.Core.Path.{◌≡◌, refl, ap}
use Rattle.std.specs.Prelude.{Ok}
use mathlib.Core.List.{List, [], ◌∷◌, ◌++◌}
use native.Mathlib.Numerals.{add-one}
use native.Mathlib.Omega.{arith}
use lib.ListN.{length, take, drop, length-drop}
use lib.Seq.{take-suc, take-length}
use Rattle.laws.specs.Lists.{All}
use Rattle.laws.specs.Answering.{Answers}
use Rattle.laws.proofs.Lists.{all_at}
use Rattle.laws.proofs.Answering.{applies_right, answers_by, answers_then, answers_same}
use Rattle.dispatcher.specs.Limits.{greatest_priority}
use Rattle.dispatcher.specs.Slots.{no_record, Shaped}
use Rattle.dispatcher.specs.Sound.{Sound}
use Rattle.dispatcher.specs.Answers.{number_of}
use Rattle.dispatcher.specs.Unsound.{unsound_refusals}
use Rattle.dispatcher.specs.Reports.{still_of}
use Rattle.dispatcher.specs.declared.TaskRecord.{TaskRecord}
use Rattle.dispatcher.specs.declared.Dispatcher.{Dispatcher}
use Rattle.dispatcher.specs.declared.Outcome.{Outcome}
use Rattle.dispatcher.proofs.Unsound.{sound_answers, sound_own, done_sound}
use Rattle.dispatcher.proofs.Promises.{accepted}
use Rattle.tasks.proofs.Keeping.{create_keeps}
use Rattle.boot.specs.Load.{record_at, FirstRefused, AllOrNone}
use Rattle.boot.specs.Creating.{CreatesRecord, CreatesAll}
use Rattle.boot.specs.Loading.{Filling}
use Rattle.boot.proofs.Refusing.{entry_of, entry_record, record_entry, Accepted, all_accepted}
use Rattle.boot.proofs.Filling.{with_record, created_filling, filling_none, filling_same, filling_alike, filling_next}
use Rattle.boot.proofs.Advancing.{Goes, goes_none, goes_next, comes_done, comes_loads, left_below, left_here, left_later}

-- a sound dispatcher refuses a task for the entry's causes alone
entry_of_create : {d : Dispatcher} {t : TaskRecord} {r : Outcome} → Sound d → CreatesRecord d t r → Answers (entry_of d t) (number_of r.report.answer)
entry_of_create {d} {t} S C = answers_by (sound_own d S (entry_of d t)) (applies_right (unsound_refusals d) (entry_of d t)) C.answer

-- ---- an accepted load, and the records before a refused one, by creates

creates_one_more : (d : Dispatcher) {e : Dispatcher} {t : TaskRecord} {r : Outcome} (ts : List TaskRecord) → CreatesAll d ts e → CreatesRecord e t r → number_of r.report.answer ≡ 0
    → CreatesAll d (ts ++ (t ∷ [])) r.dispatcher
creates_one_more d {r = r} [] h C z = (r, rw h at C, z, refl)
creates_one_more d (x ∷ ts) (q, c, y, rest) C z = (q, c, y, creates_one_more q.dispatcher ts rest C z)

-- what the creates of the first k records make of d
record Made (d : Dispatcher) (list : List TaskRecord) (k : ℕ) : Type 0 where
  dispatcher : Dispatcher
  creates : CreatesAll d (take k list) dispatcher
  filling : Filling d list k dispatcher
  shaped : Shaped dispatcher
  sound : Sound dispatcher

made : {d : Dispatcher} {list : List TaskRecord} → Shaped d → Sound d → All (λ (t : TaskRecord). t.priority ≤ greatest_priority) list
    → (k : ℕ) → k ≤ length list → Accepted d list k → Made d list k
made {d} {list} L S bytes zero l h = record { dispatcher = d; creates = refl; filling = filling_none d list; shaped = L; sound = S }
made {d} {list} L S bytes (suc k) l h = next (made L S bytes k (omega arith) (λ j m. h j (omega arith)))
  where
    next : Made d list k → Made d list (suc k)
    next m =
        let r : Outcome = record { report = still_of (Ok tt); dispatcher = with_record m.dispatcher (record_at list k) } in
        let entry = record_entry (filling_alike m.filling (λ j i. h j (omega arith))) (h k (omega arith)) in
        let answers = answers_then (unsound_refusals m.dispatcher) _ (sound_answers m.dispatcher m.sound) entry in
        let C : CreatesRecord m.dispatcher (record_at list k) r = accepted answers refl (record { written = refl; still = refl }) in
        let kept = create_keeps m.shaped m.sound (all_at (λ (t : TaskRecord). t.priority ≤ greatest_priority) list no_record bytes k l) C in
        record {
          dispatcher = r.dispatcher;
          creates = rw (take-suc list k no_record l) (creates_one_more d (take k list) m.creates C refl);
          filling = rw add-one at (filling_next L m.filling (h k (omega arith)));
          shaped = kept.0;
          sound = kept.1;
        }

pub load_creates : {d : Dispatcher} {list : List TaskRecord} {r : Outcome} → Shaped d → All (λ (t : TaskRecord). t.priority ≤ greatest_priority) list
    → AllOrNone d list r → number_of r.report.answer ≡ 0 → CreatesAll d list r.dispatcher
load_creates {d} {list} {r} L bytes F z =
    let S = done_sound d F.answer z in
    let m = made {list = list} L S bytes (length list) (omega arith) (all_accepted {d = d} {list = list} (rw z at F.answer)) in
    rw (take-length list, filling_same m.filling (created_filling (F.done z))) at m.creates

pub refused_create : {d : Dispatcher} {list : List TaskRecord} {i n : ℕ} → Shaped d → Sound d → All (λ (t : TaskRecord). t.priority ≤ greatest_priority) list
    → FirstRefused d list i n → (e : Dispatcher) × CreatesAll d (take i list) e × ((q : Outcome) → CreatesRecord e (record_at list i) q → number_of q.report.answer ≡ n)
refused_create {list = list} {i} L S bytes f =
    let m = made {list = list} L S bytes i (omega (arith, f.within)) f.earlier in
    (m.dispatcher, m.creates, λ q C. answers_same (entry_record (filling_alike m.filling f.earlier) (entry_of_create m.sound C)) f.number)

-- ---- accepted creates, by a load

creates_go : {d : Dispatcher} {list : List TaskRecord} (e f : Dispatcher) (ts : List TaskRecord) (i : ℕ) → Shaped d → drop i list ≡ ts → i ≤ length list → CreatesAll e ts f → Goes d list i e
    → Goes d list (length list) f
creates_go {d} {list} e f [] i L left l same g =
    let end : length list ≡ i = omega (arith, length-drop i list, ap length left) in
    rw (end, same) g
creates_go {d} {list} e f (t ∷ ts) i L left l (r, C, z, rest) g = creates_go r.dispatcher f ts (i + 1) L (left_later list ts i left) (omega (arith, left_below list ts i left)) rest next
  where
    entry : Answers (entry_of e (record_at list i)) 0
    entry = rw (left_here list ts i left) (rw z at (entry_of_create (done_sound e C.answer z) C))

    next : Goes d list (i + 1) r.dispatcher
    next = rw ((C.done z).written, ← left_here list ts i left) (goes_next g L entry)

pub creates_load : {d e : Dispatcher} {list : List TaskRecord} → Shaped d → Sound d → CreatesAll d list e → AllOrNone d list (record { report = still_of (Ok tt); dispatcher = e })
creates_load {d} {e} {list} L S C =
    (comes_loads (Ok tt) (comes_done (creates_go d e list 0 L refl (omega arith) C (goes_none list S))) (λ _. refl) (λ n. absurd (n refl))).all_or_none
