-- The entries of the wake order: the test of the next place, one entry more, what a surplus place after them means, and who is ready.
use Prim.Native.Nat.{ℕ, ◌+◌, ◌≤◌, ◌<◌}
use mathlib.Core.Path.{◌≡◌, sym, ◌∙◌}
use mathlib.Core.Logic.{◌≢◌, inl, inr}
use mathlib.Core.Bool.{Bool, true, false}
use mathlib.Core.List.{List}
use native.Mathlib.Decide.{ℕ_discrete, dec_lt}
use native.Mathlib.Omega.{arith}
use Rattle.std.specs.Prelude.{Option, Some, None}
use lib.ListN.{length, get_or, set, replicate, length-set, length-replicate, get_or-replicate}
use lib.Seq.{get_or-set_same, get_or-set_other}
use borrow.Author.Count.{below_more}
use Rattle.laws.specs.Decides.{Decides}
use Rattle.laws.specs.Lowest.{Lowest, Throughout}
use Rattle.laws.proofs.Deciding.{decides_by}
use Rattle.laws.proofs.Lists.{get_d_any}
use Rattle.dispatcher.specs.Limits.{slot_limit, none}
use Rattle.dispatcher.specs.Slots.{task_at, order_at, Ready}
use Rattle.dispatcher.specs.Sound.{SlotsLegal, Entered, PlaceKept, OrderKept}
use Rattle.dispatcher.specs.declared.Dispatcher.{Dispatcher}
use Rattle.soundness.specs.Finds.{Finds}
use Rattle.soundness.specs.Parts.{HeldBelow, Unused, UnusedFrom}
use Rattle.soundness.specs.Entries.{PlaceBelow, Entries, EntriesEnd, TellsReady}
use Rattle.dispatcher.proofs.Reading.{order_read}
use Rattle.soundness.proofs.Holding.{held_none, held_before, later, later_unused, later_lowest}

pub entries_none : (d : Dispatcher) → Entries d 0 (replicate slot_limit none)
entries_none d = record {
  within = omega arith;
  entered = λ j l. absurd (omega arith);
  long = length-replicate {A = ℕ} slot_limit none;
  each = λ s h. inr (held_none, get_or-replicate {A = ℕ} slot_limit s none none h);
}

-- a place in the table is below the mark, or the mark
pub place_most : {d : Dispatcher} {k : ℕ} {places : List ℕ} → Entries d k places → (s : ℕ) → s < slot_limit → get_or places s none ≤ none
place_most {d} {k} e s l = go (e.each s l)
  where
    go : {p : ℕ} → PlaceBelow d k s p → p ≤ none
    go (inl x) = omega (arith, x.0, e.within)
    go (inr x) = omega (arith, x.1)

-- ---- the place after the entries holds slot v

module _ {d : Dispatcher} {k v : ℕ} {places : List ℕ} (e : Entries d k places) (holds : order_at d k ≡ v) (small : v < slot_limit) where
  alone : {p : ℕ} → PlaceBelow d k v p → p ≡ none → HeldBelow d.order k v → ⊥
  alone (inl x) mark h = omega (arith, x.0, mark, e.within)
  alone (inr x) mark h = x.0 h

  unmet : {p : ℕ} → PlaceBelow d k v p → Entered d k → p ≡ none
  unmet {p} (inl x) h = absurd (h.not_twice p x.0 (x.1 ∙ sym holds))
  unmet (inr x) h = x.1

  pub entry_decides : SlotsLegal d → {r : Bool} → Decides (((task_at d v).mask ≢ 0) × (get_or places v none ≡ none)) r → Decides (Entered d k) r
  entry_decides legal = decides_by
      (λ h. record {
        slot = rw holds small;
        used = rw holds (λ x. h.0 x.1);
        not_twice = λ j l q. alone (e.each v small) h.1 (record { place = j; below = l; holds = q ∙ holds });
        no_gap = λ j l q. let x = (e.entered j l).slot in omega arith;
      })
      (λ h. ((legal v small (rw holds at h.used)).mask.not_empty, unmet (e.each v small) h))

  still : {s p : ℕ} → s ≢ v → PlaceBelow d k s p → PlaceBelow d (k + 1) s p
  still n (inl x) = inl (omega (arith, x.0), x.1)
  still n (inr x) = inr ((λ h. x.0 (held_before k (λ q. n (sym q ∙ holds)) h)), x.1)

  pub entry_more : k < slot_limit → Entered d k → Entries d (k + 1) (set places v k)
  entry_more below h = record {
    within = omega arith;
    entered = below_more _ _ e.entered h;
    long = length-set places v k ∙ e.long;
    each = λ s l. go s l (ℕ_discrete s v);
  }
    where
      go : (s : ℕ) → s < slot_limit → Dec (s ≡ v) → PlaceBelow d (k + 1) s (get_or (set places v k) s none)
      go s l (yes q) = rw (q, get_or-set_same places v k none (rw e.long small)) (inl (omega arith, holds))
      go s l (no q) = rw (get_or-set_other places v s k none q) (still q (e.each s l))

-- ---- and as the machine reads it

module _ {d : Dispatcher} {k v : ℕ} {places : List ℕ} (long : length d.order ≡ slot_limit) (below : k < slot_limit) (reads : v ≡ get_or d.order k 0) (e : Entries d k places) where
  holds : order_at d k ≡ v
  holds = order_read d k long below ∙ sym reads

  pub entry_above : slot_limit ≤ v → EntriesEnd d k places
  entry_above large = record { all = e; ends = λ _ h. omega (arith, h.slot, holds) }

  module _ (small : v < slot_limit) (legal : SlotsLegal d) {r : Bool} (t : Decides (((task_at d v).mask ≢ 0) × (get_or places v 0 ≡ none)) r) where
    decides : Decides (Entered d k) r
    decides = entry_decides e holds small legal (rw (get_d_any places v none 0 (rw e.long small)) t)

    pub entry_ends : r ≡ false → EntriesEnd d k places
    entry_ends f = record { all = e; ends = λ _. decides.no f }

    pub entry_goes : r ≡ true → Entries d (k + 1) (set places v k)
    entry_goes f = entry_more e holds small below (decides.yes f)

-- ---- the lowest surplus place after the entries is the lowest that breaks (c)

module _ {d : Dispatcher} {k : ℕ} {places : List ℕ} (e : EntriesEnd d k places) where
  kept : (j : ℕ) → UnusedFrom d.order k j → PlaceKept d j
  kept j u = go (dec_lt j k)
    where
      go : Dec (j < k) → PlaceKept d j
      go (yes l) n = e.all.entered j l
      go (no l) n = absurd (n (u (omega arith)))

  -- it is the place where the entries end, or stands after a gap there
  broken : (j : ℕ) → j < slot_limit → (UnusedFrom d.order k j → ⊥) → ((i : ℕ) → i < j → UnusedFrom d.order k i) → PlaceKept d j → ⊥
  broken j below f lower h = go (ℕ_discrete (order_at d j) none) (dec_lt j k) (ℕ_discrete j k)
    where
      go : Dec (order_at d j ≡ none) → Dec (j < k) → Dec (j ≡ k) → ⊥
      go (yes q) l m = f (λ _. q)
      go (no n) (yes l) m = f (λ g. absurd (omega arith))
      go (no n) (no l) (yes q) = e.ends (omega arith) (rw q at (h n))
      go (no n) (no l) (no q) = (h n).no_gap k (omega arith) (lower k (omega arith) (omega arith))

  pub order_finds : (r : Option ℕ) → Finds slot_limit (UnusedFrom d.order k) r → Finds slot_limit (PlaceKept d) r
  order_finds None f = λ i l. kept i (f i l)
  order_finds (Some j) f = record { below = f.below; fails = broken j f.below f.fails f.lower; lower = λ i l. kept i (f.lower i l) }

  pub order_lowest : {j : ℕ} → length d.order ≡ slot_limit → Lowest (length (later d.order k)) (Unused (later d.order k)) j → Lowest slot_limit (PlaceKept d) (k + j)
  order_lowest long f = order_finds (Some _) (later_lowest d.order k long f)

  pub order_kept : length d.order ≡ slot_limit → Throughout (length (later d.order k)) (Unused (later d.order k)) → OrderKept d
  order_kept long rest = order_finds None (later_unused d.order k long rest)

-- ---- where nothing but the mark stands after the entries, their places tell who is ready

pub tells_ready : {d : Dispatcher} {k : ℕ} {places : List ℕ} → Entries d k places → length d.order ≡ slot_limit → Throughout (length (later d.order k)) (Unused (later d.order k)) → TellsReady d places
tells_ready {d} {k} {places} e length-is none-later = record { long = e.long; ready = λ s l n. stands s l n (e.each s l); told = λ s r. met r (e.each s r.slot) }
  where
    rest : Throughout slot_limit (UnusedFrom d.order k)
    rest = later_unused d.order k length-is none-later

    stands : (s : ℕ) {p : ℕ} → s < slot_limit → p ≢ none → PlaceBelow d k s p → Ready d s
    stands s {p} l n (inl x) = record { slot = l; place = p; within = omega (arith, x.0, e.within); stands = x.1 }
    stands s l n (inr x) = absurd (n x.1)

    held : {s : ℕ} (r : Ready d s) → Dec (r.place < k) → HeldBelow d.order k s
    held r (yes b) = record { place = r.place; below = b; holds = r.stands }
    held r (no b) = let q = rest r.place r.within (omega arith) in absurd (omega (arith, r.slot, r.stands))

    met : {s p : ℕ} → Ready d s → PlaceBelow d k s p → p ≢ none
    met r (inl x) q = omega (arith, x.0, q, e.within)
    met r (inr x) q = x.0 (held r (dec_lt r.place k))
