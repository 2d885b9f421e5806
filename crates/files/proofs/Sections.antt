-- The three sections lie where the paper puts them: the file of a legal day is well formed and reads back, and each well-formed file is a day's.
use Prim.Native.Nat.{ℕ, zero, suc, ◌+◌, ◌*◌, ◌/◌, ◌%◌, ◌^◌, ◌≤◌, ◌<◌}
use mathlib.Core.Path.{◌≡◌, refl, sym, ap, ◌∙◌}
use mathlib.Core.List.{List, [], ◌∷◌, ◌++◌}
use native.Mathlib.Nat.{mod-add-div, pow-suc, add-zero}
use native.Mathlib.Numerals.{add-one}
use native.Mathlib.Omega.{arith}
use lib.ListN.{length, get_or, drop, length-append, length-drop}
use Rattle.std.specs.Prelude.{Some}
use lib.Seq.{get_or-append-add, get_or-drop, drop-cons, drop-drop, ext_get_or}
use Rattle.laws.specs.Lists.{All}
use Rattle.laws.proofs.Lists.{all_at}
use Rattle.dispatcher.specs.Slots.{no_record}
use Rattle.dispatcher.specs.declared.TaskRecord.{TaskRecord}
use Rattle.files.specs.Layout.{byte, lowest_first, mask_bytes, core_count, record_count_of, record_place, event_count, event_place, end_place}
use Rattle.files.specs.Faults.{IsEventKind, WellFormed}
use Rattle.files.specs.Reading.{ReadsRecord, ReadsEvent}
use Rattle.files.specs.Day.{Happening, Day, bytes_of, record_bytes, event_bytes, file_of, FitsByte, Bytes, FitsRecord, FitsEvent, no_event, LegalDay}

-- ---- numbers in bytes, lowest first

byte_after : (before b : List ℕ) (o p : ℕ) → p ≡ length before + o → byte (before ++ b) p ≡ byte b o
byte_after before b o p e = rw e (get_or-append-add before b o 0)

lowest_after : (k : ℕ) (before b : List ℕ) (o p : ℕ) → p ≡ length before + o → lowest_first k (before ++ b) p ≡ lowest_first k b o
lowest_after zero before b o p e = refl
lowest_after (suc k) before b o p e = rw (byte_after before b o p e, lowest_after k before b (o + 1) (p + 1) (omega arith)) refl

number_here : (k n : ℕ) (after : List ℕ) → n < 256 ^ k → lowest_first k (bytes_of k n ++ after) 0 ≡ n
number_here zero n after l = omega arith
number_here (suc k) n after l =
    rw (lowest_after k (n % 256 ∷ []) (bytes_of k (n / 256) ++ after) 0 1 refl, number_here k (n / 256) after less) (mod-add-div n 256)
  where
    less : n / 256 < 256 ^ k
    less = omega (arith, rw (pow-suc 256 k) at l)

pub number_back : (k n : ℕ) (before after : List ℕ) → n < 256 ^ k → lowest_first k (before ++ (bytes_of k n ++ after)) (length before) ≡ n
number_back k n before after l = lowest_after k before (bytes_of k n ++ after) 0 (length before) (omega arith) ∙ number_here k n after l

pub bytes_back : (k : ℕ) (b : List ℕ) (o : ℕ) → Bytes b → o + k ≤ length b → bytes_of k (lowest_first k b o) ++ drop (o + k) b ≡ drop o b
bytes_back zero b o s l = rw (add-zero o) refl
bytes_back (suc k) b o s l =
    rw (low, high, drop-cons b o 0 (omega arith), ← add-one o) (ap (λ (r : List ℕ). byte b o ∷ r) (rw next at (bytes_back k b (o + 1) s (omega arith))))
  where
    rest : ℕ
    rest = lowest_first k b (o + 1)

    low : (byte b o + 256 * rest) % 256 ≡ byte b o
    low = omega (arith, s o)

    high : (byte b o + 256 * rest) / 256 ≡ rest
    high = omega (arith, s o)

    next : o + 1 + k ≡ o + suc k
    next = omega arith

-- four bytes say what two numbers of two bytes say
pub four_by_two : (b : List ℕ) (o p : ℕ) → p ≡ o + 2 → lowest_first 4 b o ≡ lowest_first 2 b o + 65536 * lowest_first 2 b p
four_by_two b o p e =
    let third : byte b (o + 1 + 1) ≡ byte b p = ap (byte b) (omega arith) in
    let fourth : byte b (o + 1 + 1 + 1) ≡ byte b (p + 1) = ap (byte b) (omega arith) in
    omega arith

lowest_small : (k : ℕ) (b : List ℕ) (o : ℕ) → Bytes b → lowest_first k b o < 256 ^ k
lowest_small zero b o s = omega arith
lowest_small (suc k) b o s = rw (pow-suc 256 k) (omega (arith, s o, lowest_small k b (o + 1) s))

-- ---- the records

abbrev size : ℕ
size = 2 + mask_bytes

-- the record that stands from o on
abbrev read_record : List ℕ → ℕ → TaskRecord
read_record b o = record { slot = byte b o; priority = byte b (o + 1); mask = lowest_first mask_bytes b (o + 2) }

record_after : (before b : List ℕ) (o p : ℕ) → p ≡ length before + o → read_record (before ++ b) p ≡ read_record b o
record_after before b o p e =
    rw (byte_after before b o p e, byte_after before b (o + 1) (p + 1) (omega arith), lowest_after mask_bytes before b (o + 2) (p + 2) (omega arith)) refl

record_at_lem : (rs : List TaskRecord) (after : List ℕ) → All FitsRecord rs → (i : ℕ) → i < length rs → read_record (record_bytes rs ++ after) (size * i) ≡ get_or rs i no_record
record_at_lem [] after f i l = absurd (omega arith)
record_at_lem (r ∷ rs) after f zero l =
    ap (λ (m : ℕ). record { slot = r.slot; priority = r.priority; mask = m }) (number_back mask_bytes r.mask (r.slot ∷ r.priority ∷ []) (record_bytes rs ++ after) f.0.2)
record_at_lem (r ∷ rs) after f (suc i) l =
    record_after (record_bytes (r ∷ [])) (record_bytes rs ++ after) (size * i) (size * suc i) (omega arith) ∙ record_at_lem rs after f.1 i (omega arith)

records_long : (rs : List TaskRecord) → length (record_bytes rs) ≡ size * length rs
records_long [] = refl
records_long (r ∷ rs) = omega (arith, records_long rs)

record_there : (b : List ℕ) → Bytes b → size ≤ length b → record_bytes (read_record b 0 ∷ []) ++ drop size b ≡ b
record_there b s l = ap (λ (r : List ℕ). byte b 0 ∷ byte b 1 ∷ r) (bytes_back mask_bytes b 2 s l) ∙ sym (drop-cons b 0 0 (omega arith) ∙ ap (λ (r : List ℕ). byte b 0 ∷ r) (drop-cons b 1 0 (omega arith)))

-- n records stand from the start of b on
record Records (n : ℕ) (b : List ℕ) : Type 0 where
  records : List TaskRecord
  many : length records ≡ n
  fit : All FitsRecord records
  written : record_bytes records ++ drop (size * n) b ≡ b

records_there : (n : ℕ) (b : List ℕ) → Bytes b → size * n ≤ length b → Records n b
records_there zero b s l = record { records = []; many = refl; fit = tt; written = refl }
records_there (suc n) b s l = go (records_there n (drop size b) (λ o. rw get_or-drop (s (size + o))) (simp length-drop (omega arith)))
  where
    next : size + size * n ≡ size * suc n
    next = omega arith

    go : Records n (drop size b) → Records (suc n) b
    go r = record {
      records = read_record b 0 ∷ r.records;
      many = ap suc r.many;
      fit = ((s 0, s 1, lowest_small mask_bytes b 2 s), r.fit);
      written = ap (λ (t : List ℕ). record_bytes (read_record b 0 ∷ []) ++ t) (rw (drop-drop (size * n) size b, next) at r.written) ∙ record_there b s (omega arith);
    }

-- ---- the events

-- the event that stands from o on
abbrev read_event : List ℕ → ℕ → Happening
read_event b o = record { kind = byte b o; slot = byte b (o + 1) }

event_after : (before b : List ℕ) (o p : ℕ) → p ≡ length before + o → read_event (before ++ b) p ≡ read_event b o
event_after before b o p e = rw (byte_after before b o p e, byte_after before b (o + 1) (p + 1) (omega arith)) refl

event_at : (es : List Happening) (i : ℕ) → i < length es → read_event (event_bytes es) (2 * i) ≡ get_or es i no_event
event_at [] i l = absurd (omega arith)
event_at (e ∷ es) zero l = refl
event_at (e ∷ es) (suc i) l = event_after (event_bytes (e ∷ [])) (event_bytes es) (2 * i) (2 * suc i) (omega arith) ∙ event_at es i (omega arith)

events_long : (es : List Happening) → length (event_bytes es) ≡ 2 * length es
events_long [] = refl
events_long (e ∷ es) = omega (arith, events_long es)

-- b is n events
record Events (n : ℕ) (b : List ℕ) : Type 0 where
  events : List Happening
  many : length events ≡ n
  fit : All FitsEvent events
  written : event_bytes events ≡ b

events_there : (n : ℕ) (b : List ℕ) → Bytes b → length b ≡ 2 * n → ((i : ℕ) → i < n → IsEventKind (byte b (2 * i))) → Events n b
events_there zero [] s l k = record { events = []; many = refl; fit = tt; written = refl }
events_there zero (x ∷ b) s l k = absurd (omega arith)
events_there (suc n) [] s l k = absurd (omega arith)
events_there (suc n) (x ∷ []) s l k = absurd (omega arith)
events_there (suc n) (x ∷ y ∷ b) s l k =
    go (events_there n b (λ o. s (suc (suc o))) (omega arith) (λ i h. rw (byte_after (x ∷ y ∷ []) b (2 * i) (2 * suc i) (omega arith)) at (k (suc i) (omega arith))))
  where
    go : Events n b → Events (suc n) (x ∷ y ∷ b)
    go e = record {
      events = record { kind = x; slot = y } ∷ e.events;
      many = ap suc e.many;
      fit = ((k 0 (omega arith), s 1), e.fit);
      written = ap (λ (t : List ℕ). x ∷ y ∷ t) e.written;
    }

-- ---- a file with the records rs

abbrev front : ℕ → List TaskRecord → List ℕ
front cores rs = cores ∷ length rs ∷ record_bytes rs

module _ (cores : ℕ) (rs : List TaskRecord) where
  front_long : length (front cores rs) ≡ 2 + size * length rs
  front_long = omega (arith, records_long rs)

  count_after : (rest : List ℕ) → event_count (front cores rs ++ rest) ≡ lowest_first 2 rest 0
  count_after rest = lowest_after 2 (front cores rs) rest 0 (2 + size * length rs) (omega (arith, front_long))

-- ---- the file of a day

pub cores_counted : (d : Day) → core_count (file_of d) ≡ d.cores
cores_counted d = refl

pub records_counted : (d : Day) → record_count_of (file_of d) ≡ length d.records
records_counted d = refl

module _ (d : Day) (legal : LegalDay d) where
  pub events_counted : event_count (file_of d) ≡ length d.events
  events_counted =
      count_after d.cores d.records (bytes_of 2 (length d.events) ++ event_bytes d.events)
      ∙ number_here 2 (length d.events) (event_bytes d.events) (omega (arith, legal.many_events))

  file_long : length (file_of d) ≡ end_place (file_of d)
  file_long =
      omega (
        arith,
        length-append (record_bytes d.records) (bytes_of 2 (length d.events) ++ event_bytes d.events),
        records_long d.records,
        events_long d.events,
        events_counted,
      )

  record_is : (i : ℕ) → i < length d.records → read_record (file_of d) (record_place (file_of d) i) ≡ get_or d.records i no_record
  record_is i l =
      let rest : List ℕ = bytes_of 2 (length d.events) ++ event_bytes d.events in
      record_after (d.cores ∷ length d.records ∷ []) (record_bytes d.records ++ rest) (size * i) (record_place (file_of d) i) refl ∙ record_at_lem d.records rest legal.records i l

  event_is : (i : ℕ) → i < length d.events → read_event (file_of d) (event_place (file_of d) i) ≡ get_or d.events i no_event
  event_is i l =
      let count : List ℕ = bytes_of 2 (length d.events) in
      event_after (front d.cores d.records) (count ++ event_bytes d.events) (2 + 2 * i) (event_place (file_of d) i) (omega (arith, front_long d.cores d.records))
      ∙ event_after count (event_bytes d.events) (2 * i) (2 + 2 * i) refl
      ∙ event_at d.events i l

  pub day_well_formed : WellFormed (file_of d)
  day_well_formed = record {
    count = legal.count;
    events = rw events_counted legal.many_events;
    kinds = λ i l. let m : i < length d.events = rw events_counted at l in rw (ap (λ (e : Happening). e.kind) (event_is i m)) (all_at FitsEvent d.events no_event legal.events i m).0;
    whole = file_long;
  }

  pub record_back : (i : ℕ) → i < length d.records → ReadsRecord (file_of d) i (Some (get_or d.records i no_record))
  record_back i l =
      let e = sym (record_is i l) in (
        record { counted = l; there = omega (arith, file_long) },
        ap (λ (r : TaskRecord). r.slot) e,
        ap (λ (r : TaskRecord). r.priority) e,
        ap (λ (r : TaskRecord). r.mask) e,
      )

  pub event_back : (i : ℕ) → i < length d.events → (let e : Happening = get_or d.events i no_event in ReadsEvent (file_of d) i (Some (record { kind = e.kind; slot = e.slot })))
  event_back i l =
      let e = sym (event_is i l) in (
        record { counted = omega (arith, events_counted); there = omega (arith, file_long, events_counted) },
        ap (λ (h : Happening). h.kind) e,
        ap (λ (h : Happening). h.slot) e,
      )

pub day_same : {d e : Day} → LegalDay d → LegalDay e → file_of d ≡ file_of e → d ≡ e
day_same {d} {e} L M same = λ j. record { cores = byte (same j) 0; records = records j; events = events j }
  where
    records : d.records ≡ e.records
    records =
        let many : length d.records ≡ length e.records = ap record_count_of same in
        ext_get_or no_record d.records e.records many (λ i l. sym (record_is d L i l) ∙ ap (λ (b : List ℕ). read_record b (record_place b i)) same ∙ record_is e M i (omega arith))

    events : d.events ≡ e.events
    events =
        let many : length d.events ≡ length e.events = sym (events_counted d L) ∙ ap event_count same ∙ events_counted e M in
        ext_get_or no_event d.events e.events many (λ i l. sym (event_is d L i l) ∙ ap (λ (b : List ℕ). read_event b (event_place b i)) same ∙ event_is e M i (omega arith))

-- ---- the day of a file

abbrev IsDay : List ℕ → Type 0
IsDay b = (d : Day) × LegalDay d × (b ≡ file_of d)

front_day : (cores : ℕ) (rs : List TaskRecord) (rest : List ℕ) → All FitsRecord rs → FitsByte (length rs) → Bytes rest → WellFormed (front cores rs ++ rest) → IsDay (front cores rs ++ rest)
front_day cores rs rest fit few bytes w = go (events_there (lowest_first 2 rest 0) (drop 2 rest) (λ o. rw get_or-drop (bytes (2 + o))) (simp length-drop (omega (arith, long))) kinds)
  where
    long : length rest ≡ 2 + 2 * lowest_first 2 rest 0
    long = omega (arith, w.whole, length-append (front cores rs) rest, front_long cores rs, count_after cores rs rest)

    kinds : (i : ℕ) → i < lowest_first 2 rest 0 → IsEventKind (byte (drop 2 rest) (2 * i))
    kinds i l =
        rw (get_or-drop 2 rest (2 * i) 0)
        (rw (byte_after (front cores rs) rest (2 + 2 * i) (event_place (front cores rs ++ rest) i) (omega (arith, front_long cores rs))) at (w.kinds i (omega (arith, count_after cores rs rest))))

    go : Events (lowest_first 2 rest 0) (drop 2 rest) → IsDay (front cores rs ++ rest)
    go e = (
      record { cores = cores; records = rs; events = e.events },
      record { count = w.count; many_records = few; records = fit; many_events = omega (arith, e.many, w.events, count_after cores rs rest); events = e.fit },
      ap (λ (r : List ℕ). front cores rs ++ r) (sym (rw (e.many, e.written) (bytes_back 2 rest 0 bytes (omega (arith, long))))),
    )

pub well_formed_day : (b : List ℕ) → Bytes b → WellFormed b → (d : Day) × LegalDay d × (b ≡ file_of d)
well_formed_day [] s w = absurd (omega (arith, w.whole))
well_formed_day (cores ∷ []) s w = absurd (omega (arith, w.whole))
well_formed_day (cores ∷ n ∷ b) s w = go (records_there n b (λ o. s (suc (suc o))) (omega (arith, w.whole)))
  where
    go : Records n b → IsDay (cores ∷ n ∷ b)
    go r =
        let parts : front cores r.records ++ drop (size * n) b ≡ cores ∷ n ∷ b = λ j. cores ∷ r.many j ∷ r.written j in
        rw parts at (front_day cores r.records (drop (size * n) b) r.fit (omega (arith, s 1, r.many)) (λ o. rw get_or-drop (s (suc (suc (size * n + o))))) (rw (← parts) at w))
