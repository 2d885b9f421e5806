-- How far a Mask text is read or written: what the steps of the reader and the writer promise one another.
use Rattle.std.specs.Prelude.{ℕ, ◌+◌, ◌-◌, ◌*◌, ◌/◌, ◌%◌, ◌^◌, ◌≤◌, ◌<◌, ◌≡◌, List, length, Option, SomeIff, Result, MatchResult}
use Rattle.laws.specs.Decides.{Decides}
use Rattle.masks.specs.Masks.{has}
use Rattle.texts.specs.Joined.{comma}
use Rattle.cpusets.specs.Answers.{number_of}
use Rattle.cpusets.specs.Faults.{FirstFault}
use Rattle.cpusets.specs.declared.Refusal.{Refusal}
use Rattle.cpumasks.specs.Mask.{IsHex, IsUpper, hex_value_of, IsCommaPlace, IsPlaced, place_of, HasCore}
use Rattle.cpumasks.specs.Faults.{mask_faults}

-- the lowest core of the digit at a place
abbrev pub lowest_core_of : ℕ → ℕ → ℕ
lowest_core_of words o = 32 * (words - 1 - o / 9) + 4 * (7 - o % 9)

-- what a character says as a hexadecimal digit, if it is one
abbrev pub SaysHex : ℕ → Option ℕ → Type 0
SaysHex c r = SomeIff r (IsHex c) (hex_value_of c)

-- the character that we write for a digit
pub record IsGlyph (d r : ℕ) : Type 0 where
  pub hex : IsHex r
  pub says : hex_value_of r ≡ d
  pub lower : IsUpper r → ⊥

-- the character that we write at a place
pub record IsWritten (words set o r : ℕ) : Type 0 where
  pub comma_there : IsCommaPlace o → r ≡ comma
  pub digit_there : (IsCommaPlace o → ⊥) → IsGlyph (set / 2 ^ lowest_core_of words o % 16) r

-- read up to a place: every place before it is as it should be, and the set has the cores of the digits before it, all of them below n
pub record MaskTo (n words : ℕ) (t : List ℕ) (at set : ℕ) : Type 0 where
  pub within : at ≤ length t
  pub each : (o : ℕ) → o < at → IsPlaced t o
  pub below : (c : ℕ) → HasCore words t c → place_of words c < at → c < n
  pub cores : (c : ℕ) → Decides (HasCore words t c × (place_of words c < at)) (has set c)

-- one place more, or the text's first fault
abbrev pub WalksMask : ℕ → ℕ → List ℕ → ℕ → Result ℕ Refusal → Type 0
WalksMask n words t at r = MatchResult r (MaskTo n words t (at + 1)) (λ refusal. FirstFault (mask_faults n words t) (number_of refusal) at)
