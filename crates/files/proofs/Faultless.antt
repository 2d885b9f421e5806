-- A file is well formed exactly when it has no fault: each fault denies one demand on a well-formed file, and each demand can be tested.
use Prim.Native.Nat.{ℕ, ◌≤◌, ◌<◌}
use mathlib.Core.Path.{◌≡◌, refl}
use mathlib.Core.Logic.{inl, inr}
use mathlib.Core.List.{List}
use native.Mathlib.Decide.{dec_le, dec_lt}
use native.Mathlib.Omega.{arith}
use lib.ListN.{length}
use Rattle.std.specs.Prelude.{Result, Ok}
use Rattle.laws.specs.Answering.{Applies}
use Rattle.dispatcher.specs.Limits.{event_limit}
use Rattle.files.specs.Layout.{core_count, record_count_of, event_count, event_place, end_place}
use Rattle.files.specs.Faults.{WellFormed, faults_at}
use Rattle.files.specs.Reading.{Reads}
use Rattle.files.specs.declared.Layout.{Layout}
use Rattle.files.specs.declared.Fault.{Fault}
use Rattle.files.proofs.Same.{no_fault, reads_same}

pub well_formed_faultless : (b : List ℕ) → WellFormed b → (m p : ℕ) → Applies (faults_at b p) m → ⊥
well_formed_faultless b w = no_fault w

-- what is not outside the bounds is within them
within : {from to n : ℕ} → (((from ≤ n) × (n ≤ to) → ⊥) → ⊥) → (from ≤ n) × (n ≤ to)
within {from} {to} {n} h = go (dec_le from n) (dec_le n to)
  where
    go : Dec (from ≤ n) → Dec (n ≤ to) → (from ≤ n) × (n ≤ to)
    go (yes l) (yes u) = (l, u)
    go (yes l) (no u) = absurd (h (λ k. u k.1))
    go (no l) u = absurd (h (λ k. l k.0))

pub faultless_well_formed : (b : List ℕ) → ((m p : ℕ) → Applies (faults_at b p) m → ⊥) → WellFormed b
faultless_well_formed b none = go (dec_lt (length b) (end_place b)) (dec_lt (end_place b) (length b)) (dec_lt event_limit (event_count b))
  where
    go : Dec (length b < end_place b) → Dec (end_place b < length b) → Dec (event_limit < event_count b) → WellFormed b
    go (yes s) l m = absurd (none 12 (length b) (inr (inl (refl, record { at = refl; short = s }))))
    go (no s) (yes l) m = absurd (none 13 (end_place b) (inr (inr (inl (refl, record { at = refl; long = l })))))
    go (no s) (no l) (yes m) = absurd (none 16 _ (inr (inr (inr (inr (inl (refl, record { at = refl; there = omega arith; many = m })))))))
    go (no s) (no l) (no m) =
        record {
          count = within (λ bad. none 2 0 (inl (refl, record { at = refl; there = omega arith; bad = bad })));
          events = omega arith;
          kinds = λ i c. within (λ bad. none 14 (event_place b i) (inr (inr (inr (inl (refl, record { event = i; counted = c; at = refl; there = omega arith; bad = bad }))))));
          whole = omega arith;
        }

-- ---- the reader accepts exactly the well-formed files

abbrev pub layout_of : List ℕ → Layout
layout_of b = record { cores = core_count b; records = record_count_of b; events = event_count b }

pub accepted_well_formed : (b : List ℕ) (l : Layout) → Reads b (Ok l) → WellFormed b
accepted_well_formed b l h = h.0

pub well_formed_accepted : (b : List ℕ) (r : Result Layout Fault) → WellFormed b → Reads b r → r ≡ Ok (layout_of b)
well_formed_accepted b r w h = reads_same b r (Ok (layout_of b)) h (w, refl, refl, refl)
