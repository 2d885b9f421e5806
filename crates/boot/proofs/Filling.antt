-- A dispatcher in which the first records of a list stand: it refuses the next record as the load does, and each accepted record is one more.
use Prim.Native.Nat.{ℕ, ◌+◌, ◌<◌}
use mathlib.Core.Path.{◌≡◌, refl, sym, ◌∙◌, subst}
use mathlib.Core.Logic.{◌⊎◌, inl, inr}
use mathlib.Core.List.{List}
use native.Mathlib.Decide.{ℕ_discrete, dec_lt}
use native.Mathlib.Omega.{arith}
use lib.ListN.{length, length-set}
use lib.Seq.{get_or-set_same, get_or-set_other, ext_get_or}
use Rattle.laws.specs.Answering.{Answers}
use Rattle.laws.proofs.Answering.{none_applies}
use Rattle.dispatcher.specs.Limits.{slot_limit}
use Rattle.dispatcher.specs.Slots.{no_task, task_at, task_of, Used, Shaped}
use Rattle.dispatcher.specs.Refusals.{IsInUse}
use Rattle.dispatcher.specs.Reports.{still_of}
use Rattle.dispatcher.specs.declared.TaskRecord.{TaskRecord}
use Rattle.dispatcher.specs.declared.Dispatcher.{Dispatcher}
use Rattle.dispatcher.specs.declared.Outcome.{Outcome}
use Rattle.tasks.specs.Table.{with_task}
use Rattle.boot.specs.Load.{record_at, record_refusals, AllCreated}
use Rattle.boot.specs.Loading.{NamedByNone, Filling}
use Rattle.boot.proofs.Refusing.{NamedBy, named_or_not, Alike, Accepted}

-- what a dispatcher makes of a record that it does not refuse
abbrev pub with_record : Dispatcher → TaskRecord → Dispatcher
with_record d t = with_task d t.slot (task_of t)

pub created_filling : {d : Dispatcher} {list : List TaskRecord} {r : Outcome} → AllCreated d list r → Filling d list (length list) r.dispatcher
created_filling f = record { cores = f.cores; size = f.size; named = f.named; others = f.others; order = f.order; seats = f.seats }

pub filling_created : {d : Dispatcher} {list : List TaskRecord} {r : Outcome} → Filling d list (length list) r.dispatcher → r.report ≡ still_of r.report.answer → AllCreated d list r
filling_created f own = record { cores = f.cores; size = f.size; named = f.named; others = f.others; order = f.order; seats = f.seats; still = own }

pub filling_none : (d : Dispatcher) (list : List TaskRecord) → Filling d list 0 d
filling_none d list = record { cores = refl; size = refl; named = λ i l. absurd (omega arith); others = λ s n. refl; order = refl; seats = refl }

pub filling_same : {d : Dispatcher} {list : List TaskRecord} {k : ℕ} {e f : Dispatcher} → Filling d list k e → Filling d list k f → e ≡ f
filling_same {d} {list} {k} {e} {f} a b = λ i. record { cores = (a.cores ∙ sym b.cores) i; tasks = tasks i; order = (a.order ∙ sym b.order) i; seats = (a.seats ∙ sym b.seats) i }
  where
    at : (s : ℕ) → NamedBy list k s ⊎ NamedByNone list k s → task_at e s ≡ task_at f s
    at s (inl (i, l, q)) = subst (λ (t : ℕ). task_at e t ≡ task_at f t) q (a.named i l ∙ sym (b.named i l))
    at s (inr n) = a.others s n ∙ sym (b.others s n)

    tasks : e.tasks ≡ f.tasks
    tasks = ext_get_or no_task e.tasks f.tasks (a.size ∙ sym b.size) (λ s l. at s (named_or_not list k s))

module _ {d : Dispatcher} {list : List TaskRecord} {k : ℕ} {e : Dispatcher} (F : Filling d list k e) (before : Accepted d list k) where
  -- a record that was not refused has a priority, so its slot is in use
  filled_used : (j : ℕ) → j < k → Used (task_at e (record_at list j).slot)
  filled_used j l = rw (F.named j l) (λ z. none_applies (before j l) refl 6 (inr (inr (inl (refl, z.0)))))

  in_use_since : (s : ℕ) → IsInUse e s → IsInUse d s ⊎ NamedBy list k s
  in_use_since s u = go (named_or_not list k s)
    where
      go : NamedBy list k s ⊎ NamedByNone list k s → IsInUse d s ⊎ NamedBy list k s
      go (inl named) = inr named
      go (inr never) = inl (rw (F.others s never) at u)

  since_in_use : (s : ℕ) → IsInUse d s ⊎ NamedBy list k s → IsInUse e s
  since_in_use s h = go (named_or_not list k s) h
    where
      go : NamedBy list k s ⊎ NamedByNone list k s → IsInUse d s ⊎ NamedBy list k s → IsInUse e s
      go (inl (j, l, q)) _ = subst (λ (t : ℕ). Used (task_at e t)) q (filled_used j l)
      go (inr never) (inl u) = rw (F.others s never) u
      go (inr never) (inr (j, l, q)) = absurd (never j l q)

  pub filling_alike : Alike d list k e
  filling_alike = record { cores = F.cores; since = in_use_since (record_at list k).slot; still = since_in_use (record_at list k).slot }

-- an accepted record more
module _ {d : Dispatcher} {list : List TaskRecord} {k : ℕ} {e : Dispatcher} (L : Shaped d) (F : Filling d list k e) (a : Answers (record_refusals d list k) 0) where
  free : (record_at list k).slot < length e.tasks
  free = go (dec_lt (record_at list k).slot slot_limit)
    where
      go : Dec ((record_at list k).slot < slot_limit) → (record_at list k).slot < length e.tasks
      go (yes l) = rw (F.size, L.tasks) l
      go (no l) = absurd (none_applies a refl 3 (inl (refl, omega arith)))

  named_next : (i : ℕ) → i < k + 1 → Dec (i ≡ k) → task_at (with_record e (record_at list k)) (record_at list i).slot ≡ task_of (record_at list i)
  named_next i l (yes q) = rw q (get_or-set_same e.tasks (record_at list k).slot (task_of (record_at list k)) no_task free)
  named_next i l (no q) =
      get_or-set_other e.tasks (record_at list k).slot (record_at list i).slot (task_of (record_at list k)) no_task (λ t. none_applies a refl 4 (inr (inl (refl, inr (i, omega arith, t)))))
      ∙ F.named i (omega arith)

  pub filling_next : Filling d list (k + 1) (with_record e (record_at list k))
  filling_next = record {
    cores = F.cores;
    size = length-set e.tasks (record_at list k).slot (task_of (record_at list k)) ∙ F.size;
    named = λ i l. named_next i l (ℕ_discrete i k);
    others = λ s n. get_or-set_other e.tasks (record_at list k).slot s (task_of (record_at list k)) no_task (λ q. n k (omega arith) (sym q)) ∙ F.others s (λ i l. n i (omega arith));
    order = F.order;
    seats = F.seats;
  }
