-- A dump means one dispatcher, and a file gets one verdict.
use Prim.Native.Nat.{ℕ}
use mathlib.Core.Path.{◌≡◌, sym, ap, ◌∙◌}
use mathlib.Core.List.{List}
use lib.Seq.{ext_get_or}
use Rattle.std.specs.Prelude.{Option, Some, None}
use Rattle.dispatcher.specs.Answers.{Answer}
use Rattle.dispatcher.specs.declared.Task.{Task}
use Rattle.dispatcher.specs.declared.Dispatcher.{Dispatcher}
use Rattle.dispatcher.proofs.Same.{answered_same}
use Rattle.unsound.specs.Dump.{TaskIn, Entries, Dumps}
use Rattle.unsound.specs.Judge.{Judges}

entries_same : {A : Type 0} {n : ℕ} {Is : ℕ → A → Type 0} {beyond : A} {l m : List A}
    → ((i : ℕ) (x y : A) → Is i x → Is i y → x ≡ y) → Entries n Is beyond l → Entries n Is beyond m → l ≡ m
entries_same {beyond = beyond} {l = l} {m = m} one a b =
    ext_get_or beyond l m (a.long ∙ sym b.long) (λ i h. one i _ _ (a.each i (rw a.long at h)) (b.each i (rw a.long at h)))

task_same : {b : List ℕ} {s : ℕ} {t u : Task} → TaskIn b s t → TaskIn b s u → t ≡ u
task_same p q = λ i. record { priority = (p.priority ∙ sym q.priority) i; mask = (p.mask ∙ sym q.mask) i }

pub dumps_same : {b : List ℕ} {d e : Dispatcher} → Dumps b d → Dumps b e → d ≡ e
dumps_same {b} {d} {e} p q = λ i. record { cores = (p.cores ∙ sym q.cores) i; tasks = tasks i; order = order i; seats = seats i }
  where
    tasks : d.tasks ≡ e.tasks
    tasks = entries_same (λ s t u. task_same) p.tasks q.tasks

    order : d.order ≡ e.order
    order = entries_same (λ k v w x y. x ∙ sym y) p.order q.order

    seats : d.seats ≡ e.seats
    seats = entries_same (λ c v w x y. x ∙ sym y) p.seats q.seats

pub judges_same : (b : List ℕ) (v w : Option Answer) → Judges b v → Judges b w → v ≡ w
judges_same b None None p q = cc
judges_same b None (Some a) p q = absurd (p q.dump)
judges_same b (Some a) None p q = absurd (q p.dump)
judges_same b (Some a) (Some c) p q =
    let e = dumps_same q.means p.means in
    ap Some (answered_same p.answer (rw e at q.answer))
