-- The line of a refused text or file, `refused N at OFFSET`.
use Rattle.std.specs.Prelude.{ℕ, List, [], ◌∷◌, ◌++◌}
use Rattle.texts.specs.Joined.{newline, space, joined}
use Rattle.decimals.specs.Decimal.{decimal}

abbrev pub refused_word : List ℕ
refused_word = 114 ∷ 101 ∷ 102 ∷ 117 ∷ 115 ∷ 101 ∷ 100 ∷ []

abbrev pub at_word : List ℕ
at_word = 97 ∷ 116 ∷ []

unfoldable pub fault_text : ℕ → ℕ → List ℕ
fault_text n offset = joined space (refused_word ∷ decimal n ∷ at_word ∷ decimal offset ∷ []) ++ (newline ∷ [])
