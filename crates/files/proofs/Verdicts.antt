-- Why each verdict of the reader is right: which fault is the first, by the offsets and the file's length, and a file without one.
use Prim.Native.Nat.{ℕ, ◌+◌, ◌*◌, ◌≤◌, ◌<◌}
use mathlib.Core.Path.{◌≡◌, refl, sym, ◌∙◌}
use mathlib.Core.Logic.{inl, inr}
use mathlib.Core.List.{List}
use native.Mathlib.Decide.{dec_lt}
use native.Mathlib.Omega.{arith}
use lib.ListN.{length}
use Rattle.laws.specs.Answering.{Applies}
use Rattle.dispatcher.specs.Limits.{event_limit, LegalCount}
use Rattle.dispatcher.specs.Refusals.{IsBadCount}
use Rattle.files.specs.Layout.{core_count, record_place, count_place, event_count, event_place, end_place}
use Rattle.files.specs.Faults.{WellFormed, HasBadCount, EndsEarly, HasSurplus, HasBadKind, HasManyEvents, faults_at, FirstFault}
use Rattle.std.specs.Prelude.{Some, None}
use Rattle.files.specs.Events.{HeadRead, NoneBad, FirstBad}
use Rattle.files.specs.declared.Layout.{Layout}
use Rattle.files.proofs.Faultless.{faultless_well_formed}

-- what follows from each of the five faults follows from any
any_fault : (b : List ℕ) (n p : ℕ) {C : Type 0} → Applies (faults_at b p) n → (HasBadCount b p → C) → (EndsEarly b p → C) → (HasSurplus b p → C) → (HasBadKind b p → C) → (HasManyEvents b p → C) → C
any_fault b n p (inl (e, h)) count early long kind many = count h
any_fault b n p (inr (inl (e, h))) count early long kind many = early h
any_fault b n p (inr (inr (inl (e, h)))) count early long kind many = long h
any_fault b n p (inr (inr (inr (inl (e, h))))) count early long kind many = kind h
any_fault b n p (inr (inr (inr (inr (inl (e, h)))))) count early long kind many = many h
any_fault b n p (inr (inr (inr (inr (inr x))))) count early long kind many = absurd x

earliest : {b : List ℕ} {n o : ℕ} → Applies (faults_at b o) n
    → ((p : ℕ) → HasBadCount b p → o ≤ p)
    → ((p : ℕ) → EndsEarly b p → o ≤ p)
    → ((p : ℕ) → HasSurplus b p → o ≤ p)
    → ((p : ℕ) → HasBadKind b p → o ≤ p)
    → ((p : ℕ) → HasManyEvents b p → o ≤ p)
    → FirstFault b n o
earliest {b} there count early long kind many = record { there = there; first = λ m p a. any_fault b m p a (count p) (early p) (long p) (kind p) (many p) }

-- ---- before the events

pub bad_count : {b : List ℕ} → 0 < length b → IsBadCount (core_count b) → FirstFault b 2 0
bad_count l n =
    earliest (inl (refl, record { at = refl; there = l; bad = n })) (λ p h. omega arith) (λ p h. omega arith) (λ p h. omega arith) (λ p h. omega arith) (λ p h. omega arith)

-- the file ends before the events' count does
pub cut : {b : List ℕ} → (0 < length b → LegalCount (core_count b)) → length b < count_place b + 2 → FirstFault b 12 (length b)
cut legal l =
    earliest (inr (inl (refl, record { at = refl; short = omega arith })))
    (λ p h. absurd (h.bad (legal h.there)))
    (λ p h. omega arith)
    (λ p h. omega arith)
    (λ p h. omega arith)
    (λ p h. omega arith)

pub many_events : {b : List ℕ} → LegalCount (core_count b) → count_place b + 2 ≤ length b → event_limit < event_count b → FirstFault b 16 (count_place b)
many_events legal l m =
    earliest (inr (inr (inr (inr (inl (refl, record { at = refl; there = l; many = m }))))))
    (λ p h. absurd (h.bad legal))
    (λ p h. omega arith)
    (λ p h. omega arith)
    (λ p h. omega arith)
    (λ p h. omega arith)

-- ---- the events and the file's end

module _ {b : List ℕ} {l : Layout} (H : HeadRead b l) where
  place : (i : ℕ) → record_place b l.records + 2 + 2 * i ≡ event_place b i
  place i = omega (arith, H.records_is)

  end_is : record_place b l.records + 2 + 2 * l.events ≡ end_place b
  end_is = omega (arith, H.records_is, H.events_is)

  legal : IsBadCount (core_count b) → ⊥
  legal n = n (rw (← H.cores_is) H.count)

  few : event_limit < event_count b → ⊥
  few m = omega (arith, H.events_is, H.few)

  none_lower : {n : ℕ} → NoneBad b (record_place b l.records + 2) n → (p : ℕ) (h : HasBadKind b p) → h.event < n → ⊥
  none_lower lower p h m =
      let at : record_place b l.records + 2 + 2 * h.event ≡ p = place h.event ∙ sym h.at in
      lower h.event m (record { there = rw at h.there; bad = rw at h.bad })

  of_events : {n o : ℕ} → Applies (faults_at b o) n
      → ((p : ℕ) → EndsEarly b p → o ≤ p)
      → ((p : ℕ) → HasSurplus b p → o ≤ p)
      → ((p : ℕ) → HasBadKind b p → o ≤ p)
      → FirstFault b n o
  of_events there early long kind = earliest there (λ p h. absurd (legal h.bad)) early long kind (λ p h. absurd (few h.many))

  pub bad_kind : {bad : ℕ} → FirstBad b (record_place b l.records + 2) l.events (Some bad) → FirstFault b 14 (record_place b l.records + 2 + 2 * bad)
  bad_kind {bad} F =
      rw (place bad)
      (of_events (inr (inr (inr (inl (refl, found)))))
      (λ p h. omega (arith, found.there))
      (λ p h. omega (arith, found.counted))
      (λ p h. go p h (dec_lt h.event bad)))
    where
      found : HasBadKind b (event_place b bad)
      found = record {
        event = bad;
        counted = omega (arith, F.0, H.events_is);
        at = refl;
        there = rw (← place bad) F.1.there;
        bad = rw (← place bad) F.1.bad;
      }

      go : (p : ℕ) (h : HasBadKind b p) → Dec (h.event < bad) → event_place b bad ≤ p
      go p h (yes k) = absurd (none_lower F.2 p h k)
      go p h (no k) = omega (arith, h.at)

  module _ (F : FirstBad b (record_place b l.records + 2) l.events None) where
    no_bad_kind : (p : ℕ) → HasBadKind b p → ⊥
    no_bad_kind p h = none_lower F p h (omega (arith, h.counted, H.events_is))

    pub ends_early : length b < record_place b l.records + 2 + 2 * l.events → FirstFault b 12 (length b)
    ends_early s =
        of_events (inr (inl (refl, record { at = refl; short = rw (← end_is) s })))
        (λ p h. omega arith)
        (λ p h. omega (arith, end_is))
        (λ p h. absurd (no_bad_kind p h))

    pub surplus : record_place b l.records + 2 + 2 * l.events < length b → FirstFault b 13 (record_place b l.records + 2 + 2 * l.events)
    surplus s =
        of_events (inr (inr (inl (refl, record { at = end_is; long = rw (← end_is) s }))))
        (λ p h. omega arith)
        (λ p h. omega (arith, end_is))
        (λ p h. absurd (no_bad_kind p h))

    pub well_formed : length b ≡ record_place b l.records + 2 + 2 * l.events → WellFormed b
    well_formed e =
        faultless_well_formed b
        (λ n p a.
        any_fault b n p a (λ h. legal h.bad) (λ h. omega (arith, h.short, end_is)) (λ h. omega (arith, h.long, end_is)) (no_bad_kind p) (λ h. few h.many))
