-- A buffer of one byte more than the largest well-formed file decides every input: all that decides a longer file stands in its first bytes.
use Prim.Native.Nat.{ℕ, ◌+◌, ◌≤◌, ◌<◌}
use mathlib.Core.Path.{◌≡◌, refl, sym}
use mathlib.Core.Logic.{inl, inr}
use mathlib.Core.List.{List}
use native.Mathlib.Decide.{dec_lt}
use native.Mathlib.Omega.{arith}
use lib.ListN.{length, take}
use Rattle.std.specs.Prelude.{Result, Ok, Err}
use lib.Seq.{take_all, get_or-take, length-take-le}
use Rattle.laws.specs.Answering.{Applies}
use Rattle.dispatcher.specs.Limits.{event_limit}
use Rattle.files.specs.Layout.{byte, record_count_of, count_place, event_count, end_place, largest_file}
use Rattle.files.specs.Faults.{WellFormed, faults_at, FirstFault}
use Rattle.files.specs.Reading.{Reads}
use Rattle.files.specs.declared.Layout.{Layout}
use Rattle.files.specs.declared.Fault.{Fault}

pub largest : (b : List ℕ) → record_count_of b ≤ 255 → WellFormed b → length b ≤ largest_file
largest b small w = omega (arith, w.whole, w.events)

-- a layout has few records and events
pub few_calls : (b : List ℕ) (l : Layout) → record_count_of b ≤ 255 → Reads b (Ok l) → l.records + l.events ≤ 255 + event_limit
few_calls b l small h = omega (arith, h.0.events, h.2, h.3)

-- two files whose first m bytes are the same, their counts among them
record Agree (m : ℕ) (b c : List ℕ) : Type 0 where
  same : (o : ℕ) → o < m → byte b o ≡ byte c o
  counts : count_place b + 2 ≤ m
  long : m ≤ length b
  other_long : m ≤ length c

module _ {m : ℕ} {b c : List ℕ} (a : Agree m b c) where
  same_records : record_count_of b ≡ record_count_of c
  same_records = a.same 1 (omega arith)

  same_events : event_count b ≡ event_count c
  same_events = rw (← same_records) (omega (arith, a.same (count_place b) (omega arith), a.same (count_place b + 1) (omega arith)))

  agree_back : Agree m c b
  agree_back = record { same = λ o l. sym (a.same o l); counts = omega (arith, same_records); long = a.other_long; other_long = a.long }

  -- before m they have the same faults
  same_faults : {n o : ℕ} → o < m → Applies (faults_at b o) n → Applies (faults_at c o) n
  same_faults l (inl (n, f)) = inl (n, record { at = f.at; there = omega arith; bad = rw (a.same 0 (omega arith)) at f.bad })
  same_faults l (inr (inl (n, f))) = absurd (omega arith)
  same_faults l (inr (inr (inl (n, f)))) =
      let end : end_place b ≡ end_place c = omega (arith, same_records, same_events) in
      inr (inr (inl (n, record { at = omega arith; long = omega arith })))
  same_faults l (inr (inr (inr (inl (n, f))))) =
      inr (inr (inr (inl (
        n,
        record {
          event = f.event;
          counted = omega (arith, same_events);
          at = omega (arith, same_records);
          there = omega arith;
          bad = rw (a.same _ l) at f.bad;
        },
      ))))
  same_faults l (inr (inr (inr (inr (inl (n, f)))))) =
      inr (inr (inr (inr (inl (n, record { at = omega (arith, same_records); there = omega (arith, same_records); many = omega (arith, same_events) })))))
  same_faults l (inr (inr (inr (inr (inr n))))) = elim n [ ]

-- the first fault of a file that is longer than any well-formed one is before its end
first_early : (b : List ℕ) {n o : ℕ} → record_count_of b ≤ 255 → largest_file < length b → FirstFault b n o → o < length b
first_early b {n} {o} small large f = go f.there
  where
    go : Applies (faults_at b o) n → o < length b
    go (inl (n, f)) = omega arith
    go (inr (inl (n, e))) = omega (arith, f.first 16 (count_place b) (inr (inr (inr (inr (inl (refl, record { at = refl; there = omega arith; many = omega arith })))))))
    go (inr (inr (inl (n, f)))) = omega arith
    go (inr (inr (inr (inl (n, f))))) = omega arith
    go (inr (inr (inr (inr (inl (n, f)))))) = omega arith
    go (inr (inr (inr (inr (inr n))))) = elim n [ ]

module _ (b : List ℕ) (m : ℕ) (small : record_count_of b ≤ 255) (large : largest_file < m) where
  cut_longer : m < length b → (r : Result Layout Fault) → Reads (take m b) r → Reads b r
  cut_longer longer = elim [ Ok l ↦ λ h. absurd (omega (arith, long, largest (take m b) few h.0)) | Err f ↦ λ h. refused h ]
    where
      long : length (take m b) ≡ m
      long = length-take-le m b (omega arith)

      few : record_count_of (take m b) ≤ 255
      few = omega (arith, get_or-take m b 1 0 (omega arith))

      agree : Agree m (take m b) b
      agree = record { same = λ o. get_or-take m b o 0; counts = omega (arith, few); long = omega (arith, long); other_long = omega arith }

      refused : {n o : ℕ} → FirstFault (take m b) n o → FirstFault b n o
      refused {n} {o} f = record { there = same_faults agree early f.there; first = λ k p h. go k p h (dec_lt p m) }
        where
          early : o < m
          early = rw long at (first_early (take m b) few (omega (arith, long)) f)

          go : (k p : ℕ) → Applies (faults_at b p) k → Dec (p < m) → o ≤ p
          go k p h (yes l) = f.first k p (same_faults (agree_back agree) l h)
          go k p h (no l) = omega (arith, early)

  -- the verdict on the first m bytes is that on the whole file, however long it is
  pub cut_same : (r : Result Layout Fault) → Reads (take m b) r → Reads b r
  cut_same r h = go (dec_lt m (length b))
    where
      go : Dec (m < length b) → Reads b r
      go (yes l) = cut_longer l r h
      go (no l) = rw (take_all m b (omega arith)) at h
