-- What is said after each line of a day and at its end, as text in ASCII.
use Rattle.std.specs.Prelude.{ℕ, List, [], ◌∷◌, ◌++◌, Option, Some, None}
use Rattle.texts.specs.Joined.{newline, space, comma, joined}
use Rattle.decimals.specs.Decimal.{decimal}
use Rattle.bench.specs.declared.Difference.{Difference}
use Rattle.bench.specs.declared.Tally.{Tally}

abbrev pub agree_word : List ℕ
agree_word = 97 ∷ 103 ∷ 114 ∷ 101 ∷ 101 ∷ []

abbrev pub differ_word : List ℕ
differ_word = 100 ∷ 105 ∷ 102 ∷ 102 ∷ 101 ∷ 114 ∷ []

abbrev pub of_word : List ℕ
of_word = 111 ∷ 102 ∷ []

abbrev pub first_word : List ℕ
first_word = 102 ∷ 105 ∷ 114 ∷ 115 ∷ 116 ∷ []

abbrev pub difference_word : List ℕ
difference_word = 100 ∷ 105 ∷ 102 ∷ 102 ∷ 101 ∷ 114 ∷ 101 ∷ 110 ∷ 99 ∷ 101 ∷ []

abbrev pub line_word : List ℕ
line_word = 108 ∷ 105 ∷ 110 ∷ 101 ∷ []

abbrev pub slot_word : List ℕ
slot_word = 115 ∷ 108 ∷ 111 ∷ 116 ∷ []

-- words and numbers, one space apart
abbrev pub said : List (List ℕ) → List ℕ
said words = joined space words ++ (newline ∷ [])

-- `agree`, or `differ SLOT`
abbrev pub verdict_text : Option ℕ → List ℕ
verdict_text None = said (agree_word ∷ [])
verdict_text (Some slot) = said (differ_word ∷ decimal slot ∷ [])

-- `line L slot S`
abbrev pub place_text : Difference → List ℕ
place_text d = joined space (line_word ∷ decimal d.line ∷ slot_word ∷ decimal d.slot ∷ [])

-- `agree M of N, first difference line L slot S`
abbrev pub difference_text : ℕ → ℕ → Difference → List ℕ
difference_text agree lines first =
    said
    (agree_word
    ∷ decimal agree
    ∷ of_word
    ∷ (decimal lines ++ (comma ∷ []))
    ∷ first_word
    ∷ difference_word
    ∷ place_text first
    ∷ [])

abbrev pub last_with : ℕ → ℕ → Option Difference → List ℕ
last_with agree lines None = said (agree_word ∷ decimal agree ∷ [])
last_with agree lines (Some first) = difference_text agree lines first

-- `agree N` where no line differs
abbrev pub last_text : Tally → ℕ → List ℕ
last_text t lines = last_with t.agree lines t.first
