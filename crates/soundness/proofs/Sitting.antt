-- The seats: the marks of the slots that sit on a lower core, the test of one core, and that the cores from the count on are kept.
use Prim.Native.Nat.{ℕ, ◌+◌, ◌≤◌, ◌<◌}
use mathlib.Core.Path.{◌≡◌, sym, ◌∙◌}
use mathlib.Core.Logic.{◌≢◌}
use mathlib.Core.Bool.{Bool, true, false}
use mathlib.Core.List.{List}
use native.Mathlib.Decide.{ℕ_discrete, dec_lt}
use native.Mathlib.Omega.{arith}
use lib.ListN.{length, take, get_or, set, replicate, length-set, length-replicate, get_or-replicate}
use lib.Seq.{get_or-set_same, get_or-set_other}
use borrow.Author.Count.{below_more}
use Rattle.std.proofs.lemmas.List.{get_or-take, length-take}
use Rattle.laws.specs.Decides.{Decides}
use Rattle.laws.specs.Lowest.{Lowest, Throughout}
use Rattle.laws.proofs.Deciding.{decides_same, decides_true, decides_false, decides_is, decides_by}
use Rattle.laws.proofs.Lists.{get_d_any}
use Rattle.masks.specs.Masks.{has}
use Rattle.dispatcher.specs.Limits.{core_limit, slot_limit, none}
use Rattle.dispatcher.specs.Slots.{task_at, seat_at}
use Rattle.dispatcher.specs.Sound.{CountLegal, MissingKept, MissingIdle, SeatKept, SeatsKept}
use Rattle.dispatcher.specs.declared.Dispatcher.{Dispatcher}
use Rattle.soundness.specs.Parts.{HeldBelow, Unused}
use Rattle.soundness.specs.Entries.{TellsReady}
use Rattle.dispatcher.proofs.Reading.{seat_read}
use Rattle.soundness.proofs.Holding.{held_none, held_here, held_on, held_before, later, later_unused, later_lowest}

-- ---- the marks

-- seated tells of each slot whether it sits on a core below c
pub record Marks (seats : List ℕ) (c : ℕ) (seated : List Bool) : Type 0 where
  pub long : length seated ≡ slot_limit
  pub each : (s : ℕ) → s < slot_limit → Decides (HeldBelow seats c s) (get_or seated s false)

pub marks_none : (seats : List ℕ) → Marks seats 0 (replicate slot_limit false)
marks_none seats = record {
  long = length-replicate slot_limit false;
  each = λ s h. decides_is (sym (get_or-replicate slot_limit s false false h)) (decides_false held_none);
}

-- all cores below c are kept, and the marks tell who sits there
pub record KeptBelow (d : Dispatcher) (c : ℕ) (seated : List Bool) : Type 0 where
  pub kept : Throughout c (SeatKept d)
  pub marks : Marks d.seats c seated

pub kept_none : (d : Dispatcher) → KeptBelow d 0 (replicate slot_limit false)
kept_none d = record { kept = λ b l. absurd (omega arith); marks = marks_none d.seats }

-- ---- a core that holds v

module _ {seats : List ℕ} {c v : ℕ} {seated : List Bool} (holds : get_or seats c none ≡ v) (m : Marks seats c seated) where
  still : {s : ℕ} {b : Bool} → s ≢ v → Decides (HeldBelow seats c s) b → Decides (HeldBelow seats (c + 1) s) b
  still n = decides_by (held_on c) (held_before c (λ q. n (sym q ∙ holds)))

  pub marks_slot : v < slot_limit → Marks seats (c + 1) (set seated v true)
  marks_slot small = record { long = length-set seated v true ∙ m.long; each = λ s h. go s h (ℕ_discrete s v) }
    where
      go : (s : ℕ) → s < slot_limit → Dec (s ≡ v) → Decides (HeldBelow seats (c + 1) s) (get_or (set seated v true) s false)
      go s h (yes e) = rw (e, get_or-set_same seated v true false (rw m.long small)) (decides_true (held_here c holds))
      go s h (no e) = rw (get_or-set_other seated v s true false e) (still e (m.each s h))

  pub marks_idle : slot_limit ≤ v → Marks seats (c + 1) seated
  marks_idle large = record { long = m.long; each = λ s h. still (λ e. omega arith) (m.each s h) }

pub seat_decides : {d : Dispatcher} {c v : ℕ} {seated : List Bool} {places : List ℕ} → seat_at d c ≡ v → Marks d.seats c seated → TellsReady d places → v < slot_limit
    → {r : Bool} → Decides ((get_or seated v false ≡ false) × (get_or places v none ≢ none) × (has (task_at d v).mask c ≡ true)) r → Decides (SeatKept d c) r
seat_decides {v} holds m t small = decides_by
    (λ h _. record {
      ready = rw holds (t.ready v small h.1);
      once = λ b l q. (m.each v small).no h.0 (record { place = b; below = l; holds = q ∙ holds });
      allowed = rw holds h.2;
    })
    (λ h. let f = h (λ q. omega (arith, q, holds)) in (
      decides_same (m.each v small) (decides_false (λ x. f.once x.place x.below (x.holds ∙ sym holds))),
      t.told v (rw holds at f.ready),
      rw holds at f.allowed,
    ))

pub seat_above : (d : Dispatcher) (c : ℕ) → slot_limit ≤ seat_at d c → seat_at d c ≢ none → SeatKept d c → ⊥
seat_above d c l n h = let f = h n in omega (arith, f.ready.slot)

pub seat_idle : (d : Dispatcher) (c : ℕ) → seat_at d c ≡ none → SeatKept d c
seat_idle d c e n = absurd (n e)

-- the next of the n cores of a dispatcher, as the machine reads it, holds v
module _ {d : Dispatcher} {n c v : ℕ} {seated : List Bool} {places : List ℕ} (long : length d.seats ≡ core_limit) (count : n ≡ d.cores) (within : c < length (take n d.seats))
    (reads : v ≡ get_or (take n d.seats) c 0) (asked : CountLegal d × TellsReady d places) (k : KeptBelow d c seated) where
  below : c < d.cores
  below = omega (arith, count, within, length-take n d.seats)

  holds : seat_at d c ≡ v
  holds = seat_read d c long (omega (arith, below, asked.0.1)) ∙ sym (reads ∙ get_or-take n d.seats c 0 (omega (arith, below)))

  decides : v < slot_limit → {r : Bool} → Decides ((get_or seated v false ≡ false) × (get_or places v 0 ≢ none) × (has (task_at d v).mask c ≡ true)) r → Decides (SeatKept d c) r
  decides small = rw (get_d_any places v 0 none (rw asked.1.long small)) (seat_decides holds k.marks asked.1 small)

  pub seat_breaks : v < slot_limit → {r : Bool} → Decides ((get_or seated v false ≡ false) × (get_or places v 0 ≢ none) × (has (task_at d v).mask c ≡ true)) r → r ≡ false
      → Lowest d.cores (SeatKept d) c
  seat_breaks small t f = record { below = below; fails = (decides small t).no f; lower = k.kept }

  pub seat_kept : v < slot_limit → {r : Bool} → Decides ((get_or seated v false ≡ false) × (get_or places v 0 ≢ none) × (has (task_at d v).mask c ≡ true)) r → r ≡ true
      → KeptBelow d (c + 1) (set seated v true)
  seat_kept small t f = record { kept = below_more _ _ k.kept ((decides small t).yes f); marks = marks_slot holds k.marks small }

  pub idle_kept : v ≡ none → KeptBelow d (c + 1) seated
  idle_kept idle = record { kept = below_more _ _ k.kept (seat_idle d c (holds ∙ idle)); marks = marks_idle holds k.marks (omega (arith, idle)) }

-- ---- all cores, where a search has gone over those below the count

pub seat_lowest : {d : Dispatcher} {c : ℕ} → CountLegal d → Lowest d.cores (SeatKept d) c → Lowest core_limit (SeatKept d) c
seat_lowest counted f = record { below = omega (arith, counted.1, f.below); fails = f.fails; lower = f.lower }

module _ (d : Dispatcher) {n : ℕ} (long : length d.seats ≡ core_limit) (count : n ≡ d.cores) where
  pub missing_lowest : {c : ℕ} → Lowest (length (later d.seats n)) (Unused (later d.seats n)) c → Lowest core_limit (MissingKept d) (n + c)
  missing_lowest {c} f = let g = later_lowest d.seats n long f in record {
    below = g.below;
    fails = λ h. g.fails (λ a. h (omega arith));
    lower = λ j b a. g.lower j b (omega arith);
  }

  -- the cores from the count on are idle
  pub missing_idle : Throughout (length (later d.seats n)) (Unused (later d.seats n)) → MissingIdle d
  missing_idle rest c l a = later_unused d.seats n long rest c l (omega arith)

pub seats_kept : {d : Dispatcher} → MissingIdle d → Throughout d.cores (SeatKept d) → SeatsKept d
seats_kept {d} idle kept c l = go (dec_lt c d.cores)
  where
    go : Dec (c < d.cores) → SeatKept d c
    go (yes b) = kept c b
    go (no b) = seat_idle d c (idle c l (omega arith))
