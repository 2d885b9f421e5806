-- Request 2, refusals of a List text: "17 unexpected character or end, 18 range that runs backward (at its second number's first digit), 19 core number at or
-- above the limit (at its first digit)".
use Rattle.std.specs.Prelude.{ℕ, ◌+◌, ◌≤◌, ◌<◌, ◌≡◌, List, [], ◌∷◌, length, take, drop}
use Rattle.laws.specs.Answering.{Refusal, ◌when◌}
use Rattle.decimals.specs.Decimal.{value}
use Rattle.texts.specs.Joined.{dash}
use Rattle.cpusets.specs.Characters.{character, IsDigit}
use Rattle.cpusets.specs.Faults.{IsUnexpected}
use Rattle.cpulists.specs.List.{IsNumber, IsListText}

-- a number of the text, its first digit at o: digits with no digit beside them
pub record NumberAt (t : List ℕ) (o : ℕ) (d : List ℕ) : Type 0 where
  pub is : take (length d) (drop o t) ≡ d
  pub number : IsNumber d
  pub begins : (k : ℕ) → o ≡ k + 1 → IsDigit (character t k) → ⊥
  pub ends : IsDigit (character t (o + length d)) → ⊥

-- 18: a number, a dash, and at o a lower number
pub record RunsBackward (t : List ℕ) (o : ℕ) : Type 0 where
  pub start : ℕ
  pub first : List ℕ
  pub second : List ℕ
  pub from : NumberAt t start first
  pub joint : character t (start + length first) ≡ dash
  pub at : o ≡ start + length first + 1
  pub to : NumberAt t o second
  pub backward : value second < value first

-- 19, n being how many cores there may be
pub record IsAbove (n : ℕ) (t : List ℕ) (o : ℕ) : Type 0 where
  pub number : List ℕ
  pub there : NumberAt t o number
  pub above : n ≤ value number

-- the faults at a place
abbrev pub list_faults : ℕ → List ℕ → ℕ → List Refusal
list_faults n t o = 17 when IsUnexpected IsListText t o ∷ 18 when RunsBackward t o ∷ 19 when IsAbove n t o ∷ []
