-- The tables that the search is given, filled core by core.
use Rattle.std.proofs.Common.{ℕ, ◌+◌, ◌≤◌, ◌<◌, ◌≡◌, refl, sym, ap, ◌∙◌, ◌≢◌, Bool, true, false, ◌||◌, List, arith, eqb, length, get_or, set, replicate}
use native.Mathlib.Decide.{ℕ_discrete}
use lib.ListN.{length-set, length-replicate}
use lib.Seq.{get_or-set_same, get_or-set_other}
use borrow.Author.Tests.{eq-eqb, ne_eqb, lt-ltb}
use Rattle.laws.proofs.Lists.{get_or_all, get_d_beyond}
use Rattle.masks.specs.Masks.{width, has, Added}
use Rattle.masks.proofs.Bits.{has_zero}
use Rattle.dispatcher.specs.Limits.{core_limit, slot_limit, none}
use Rattle.dispatcher.specs.Slots.{no_task, task_at, seat_at, Shaped}
use Rattle.dispatcher.specs.Sound.{Sound}
use Rattle.dispatcher.proofs.Reading.{seat_read}
use Rattle.dispatcher.specs.declared.Task.{Task}
use Rattle.dispatcher.specs.declared.Dispatcher.{Dispatcher}
use Rattle.search.specs.declared.Sitters.{Sitters}
use Rattle.shifting.specs.Tables.{SittersOf, IdleCores}

-- what is read on a core of the machine is a slot, or the mark
pub sitter_slot : {d : Dispatcher} {c : ℕ} → Shaped d → Sound d → c < d.cores → get_or d.seats c 0 ≢ none → get_or d.seats c 0 < slot_limit
sitter_slot {d} {c} L S l held = rw (← read) (S.seats c below (λ q. held (sym read ∙ q))).ready.slot
  where
    below : c < core_limit
    below = omega (arith, S.count.1)

    read : seat_at d c ≡ get_or d.seats c 0
    read = seat_read d c L.seats below

-- ---- the sitters' masks

pub record SittersTo (d : Dispatcher) (i : ℕ) (masks : List ℕ) : Type 0 where
  pub size : length masks ≡ core_limit
  pub done : (c : ℕ) → c < i → get_or masks c 0 ≡ (task_at d (seat_at d c)).mask
  pub rest : (c : ℕ) → i ≤ c → get_or masks c 0 ≡ 0

pub sitters_start : (d : Dispatcher) → SittersTo d 0 (replicate core_limit 0)
sitters_start d = record { size = length-replicate {A = ℕ} core_limit 0; done = λ c l. absurd (omega arith); rest = λ c l. get_or_all {A = ℕ} core_limit 0 c }

module _ {d : Dispatcher} {i : ℕ} {masks : List ℕ} (l : i < core_limit) (S : SittersTo d i masks) where
  pub sitters_held : {m : ℕ} → m ≡ (task_at d (seat_at d i)).mask → SittersTo d (i + 1) (set masks i m)
  sitters_held {m} q = record { size = length-set masks i m ∙ S.size; done = λ c k. go c k (ℕ_discrete c i); rest = λ c k. get_or-set_other masks i c m 0 (λ e. omega arith) ∙ S.rest c (omega arith) }
    where
      go : (c : ℕ) → c < i + 1 → Dec (c ≡ i) → get_or (set masks i m) c 0 ≡ (task_at d (seat_at d c)).mask
      go c k (yes e) = rw e (get_or-set_same masks i m 0 (rw S.size l) ∙ q)
      go c k (no e) = get_or-set_other masks i c m 0 e ∙ S.done c (omega arith)

  pub sitters_idle : length d.tasks ≡ slot_limit → slot_limit ≤ seat_at d i → SittersTo d (i + 1) masks
  sitters_idle long k = record { size = S.size; done = λ c h. go c h (ℕ_discrete c i); rest = λ c h. S.rest c (omega arith) }
    where
      go : (c : ℕ) → c < i + 1 → Dec (c ≡ i) → get_or masks c 0 ≡ (task_at d (seat_at d c)).mask
      go c h (yes e) = rw e (S.rest i (omega arith) ∙ sym (ap (λ (t : Task). t.mask) (get_d_beyond d.tasks (seat_at d i) no_task (rw long k))))
      go c h (no e) = S.done c (omega arith)

pub sitters_all : {d : Dispatcher} {i : ℕ} {s : Sitters} → s.count ≡ d.cores → d.cores ≤ i → SittersTo d i s.masks → SittersOf d s
sitters_all n l S = record { count = n; each = λ c k. S.done c (omega arith) }

-- ---- the idle cores

pub record IdleTo (d : Dispatcher) (i m : ℕ) : Type 0 where
  pub done : (c : ℕ) → c < i → has m c ≡ eqb (seat_at d c) none
  pub rest : (c : ℕ) → i ≤ c → has m c ≡ false

pub idle_start : (d : Dispatcher) → IdleTo d 0 0
idle_start d = record { done = λ c l. absurd (omega arith); rest = λ c l. has_zero c }

module _ {d : Dispatcher} {i m : ℕ} (l : i < core_limit) (I : IdleTo d i m) where
  pub idle_found : {r : ℕ} → seat_at d i ≡ none → Added m i r → IdleTo d (i + 1) r
  idle_found {r} q A = record { done = λ c k. go c k (ℕ_discrete c i); rest = λ c k. other c (λ e. omega arith) ∙ I.rest c (omega arith) }
    where
      or_false : (b : Bool) → b || false ≡ b
      or_false true = refl
      or_false false = refl

      other : (c : ℕ) → c ≢ i → has r c ≡ has m c
      other c e = A.each c ∙ rw (ne_eqb c i e) (or_false (has m c))

      go : (c : ℕ) → c < i + 1 → Dec (c ≡ i) → has r c ≡ eqb (seat_at d c) none
      go c k (yes e) = rw e (A.each i ∙ rw (I.rest i (omega arith), eq-eqb i i refl, lt-ltb i width l, eq-eqb (seat_at d i) none q) refl)
      go c k (no e) = other c e ∙ I.done c (omega arith)

  pub idle_held : seat_at d i ≢ none → IdleTo d (i + 1) m
  idle_held q = record { done = λ c k. go c k (ℕ_discrete c i); rest = λ c k. I.rest c (omega arith) }
    where
      go : (c : ℕ) → c < i + 1 → Dec (c ≡ i) → has m c ≡ eqb (seat_at d c) none
      go c k (yes e) = rw e (I.rest i (omega arith) ∙ sym (ne_eqb (seat_at d i) none q))
      go c k (no e) = I.done c (omega arith)

pub idle_all : {d : Dispatcher} {i m : ℕ} → d.cores ≤ i → IdleTo d i m → IdleCores d m
idle_all l I = record { each = λ c k. I.done c (omega arith) }
