-- Document 01, "Event file": a well-formed file, and the faults of any other, each with its number and its offset.
use Rattle.std.specs.Prelude.{ℕ, ◌+◌, ◌≤◌, ◌<◌, ◌≡◌, List, [], ◌∷◌, length}
use Rattle.laws.specs.Answering.{Refusal, ◌when◌, Applies}
use Rattle.dispatcher.specs.Limits.{event_limit, LegalCount}
use Rattle.dispatcher.specs.Refusals.{IsBadCount}
use Rattle.files.specs.Layout.{byte, core_count, count_place, event_count, event_place, end_place}

-- 1 wake, 2 block, 3 delete
abbrev pub IsEventKind : ℕ → Type 0
IsEventKind k = (1 ≤ k) × (k ≤ 3)

pub record WellFormed (b : List ℕ) : Type 0 where
  pub count : LegalCount (core_count b)
  pub events : event_count b ≤ event_limit
  pub kinds : (i : ℕ) → i < event_count b → IsEventKind (byte b (event_place b i))
  pub whole : length b ≡ end_place b

-- 2: core count not 1 to 32, at 0
pub record HasBadCount (b : List ℕ) (o : ℕ) : Type 0 where
  pub at : o ≡ 0
  pub there : 0 < length b
  pub bad : IsBadCount (core_count b)

-- 12: file ends too early, at the file's length
pub record EndsEarly (b : List ℕ) (o : ℕ) : Type 0 where
  pub at : o ≡ length b
  pub short : length b < end_place b

-- 13: bytes after the last event, at the first surplus byte
pub record HasSurplus (b : List ℕ) (o : ℕ) : Type 0 where
  pub at : o ≡ end_place b
  pub long : end_place b < length b

-- 14: event kind not 1, 2, 3, at the kind byte
pub record HasBadKind (b : List ℕ) (o : ℕ) : Type 0 where
  pub event : ℕ
  pub counted : event < event_count b
  pub at : o ≡ event_place b event
  pub there : o < length b
  pub bad : IsEventKind (byte b o) → ⊥

-- 16: more than 16,000 events, at the event count's first byte
pub record HasManyEvents (b : List ℕ) (o : ℕ) : Type 0 where
  pub at : o ≡ count_place b
  pub there : count_place b + 2 ≤ length b
  pub many : event_limit < event_count b

abbrev pub faults_at : List ℕ → ℕ → List Refusal
faults_at b o = 2 when HasBadCount b o ∷ 12 when EndsEarly b o ∷ 13 when HasSurplus b o ∷ 14 when HasBadKind b o ∷ 16 when HasManyEvents b o ∷ []

-- files are judged byte by byte from the start: of all faults the one at the lowest offset
pub record FirstFault (b : List ℕ) (n o : ℕ) : Type 0 where
  pub there : Applies (faults_at b o) n
  pub first : (m p : ℕ) → Applies (faults_at b p) m → o ≤ p
