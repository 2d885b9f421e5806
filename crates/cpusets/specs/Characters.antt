-- Characters in ASCII.
use Rattle.std.specs.Prelude.{ℕ, ◌≤◌, List, get_or}

-- the character at a place, 0 past the end
abbrev pub character : List ℕ → ℕ → ℕ
character t o = get_or t o 0

abbrev pub IsDigit : ℕ → Type 0
IsDigit c = (48 ≤ c) × (c ≤ 57)
