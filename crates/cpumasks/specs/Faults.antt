-- Request 2, refusals of a Mask text: "17 unexpected character or end", "19 core number at or above the limit", at the digit that holds its bit.
use Rattle.std.specs.Prelude.{ℕ, ◌≤◌, ◌≡◌, List, [], ◌∷◌}
use Rattle.laws.specs.Answering.{Refusal, ◌when◌}
use Rattle.cpusets.specs.Faults.{IsUnexpected}
use Rattle.cpumasks.specs.Mask.{place_of, HasCore, IsMaskText}

-- 19: a digit has the bit of a core at or above the limit
pub record HasAbove (n words : ℕ) (t : List ℕ) (o : ℕ) : Type 0 where
  pub core : ℕ
  pub there : HasCore words t core
  pub at : o ≡ place_of words core
  pub above : n ≤ core

-- the faults at a place, n being how many cores there may be
abbrev pub mask_faults : ℕ → ℕ → List ℕ → ℕ → List Refusal
mask_faults n words t o = 17 when IsUnexpected (IsMaskText words) t o ∷ 19 when HasAbove n words t o ∷ []
