-- Marks: for each core the number of steps from it to a core of `target`.
use Rattle.std.specs.Prelude.{ℕ, Bool, List, leb, get_or}

-- the mark of a core from which no way to the target is found yet, and the largest that is a number of steps
abbrev pub far : ℕ
far = 255

abbrev pub farthest : ℕ
farthest = 254

abbrev pub mark : List ℕ → ℕ → ℕ
mark marks c = get_or marks c 0

-- the target is at most k steps away from core c
abbrev pub within : List ℕ → ℕ → ℕ → Bool
within marks k c = leb (mark marks c) k
