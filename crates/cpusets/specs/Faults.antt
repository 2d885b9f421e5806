-- Request 2, refusals of a text: "the first met from the left: 17 unexpected character or end", and what else a format refuses.
use Rattle.std.specs.Prelude.{ℕ, ◌+◌, ◌<◌, ◌≡◌, ◌⊎◌, List, ◌++◌, length, take}
use Rattle.laws.specs.Answering.{Refusal, Applies}

-- some text of the format begins so
pub record Begins (Format : List ℕ → Type 0) (p : List ℕ) : Type 0 where
  pub rest : List ℕ
  pub whole : Format (p ++ rest)

-- 17: what stands before o begins some text of the format; with the character at o none begins, or the text ends at o and is none
pub record IsUnexpected (Format : List ℕ → Type 0) (t : List ℕ) (o : ℕ) : Type 0 where
  pub before : Begins Format (take o t)
  pub here : ((o < length t) × (Begins Format (take (o + 1) t) → ⊥)) ⊎ ((o ≡ length t) × (Format t → ⊥))

-- of all faults the one met first from the left: every other stands further right
pub record FirstFault (faults : ℕ → List Refusal) (n o : ℕ) : Type 0 where
  pub there : Applies (faults o) n
  pub first : (m p : ℕ) → Applies (faults p) m → (o < p) ⊎ ((o ≡ p) × (n ≡ m))

abbrev pub Faultless : (ℕ → List Refusal) → Type 0
Faultless faults = (n o : ℕ) → Applies (faults o) n → ⊥
