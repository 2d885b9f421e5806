-- Texts joined by a character, and the characters that join or end them.
use Rattle.std.specs.Prelude.{ℕ, List, [], ◌∷◌, ◌++◌}

abbrev pub newline : ℕ
newline = 10

abbrev pub space : ℕ
space = 32

abbrev pub comma : ℕ
comma = 44

abbrev pub dash : ℕ
dash = 45

-- each text after a character
abbrev pub each_after : ℕ → List (List ℕ) → List ℕ
each_after c [] = []
each_after c (t ∷ ts) = c ∷ (t ++ each_after c ts)

-- texts with a character between each and the next
abbrev pub joined : ℕ → List (List ℕ) → List ℕ
joined c [] = []
joined c (t ∷ ts) = t ++ each_after c ts
