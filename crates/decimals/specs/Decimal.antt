-- Numbers in plain decimal, in ASCII, and what such a text says.
use Rattle.std.specs.Prelude.{ℕ, zero, suc, ◌+◌, ◌-◌, ◌*◌, ◌/◌, ◌%◌, cond, List, [], ◌∷◌, ◌++◌, ltb}

-- the character of a digit
abbrev pub digit : ℕ → ℕ
digit d = 48 + d

-- the text of n, if k digits are enough for it: that of its tenth, and then its last digit
unfoldable pub spelled : ℕ → ℕ → List ℕ
spelled zero n = []
spelled (suc k) n = cond (ltb n 10) (digit n ∷ []) (spelled k (n / 10) ++ (digit (n % 10) ∷ []))

-- n + 1 digits are always enough
unfoldable pub decimal : ℕ → List ℕ
decimal n = spelled (suc n) n

-- the number that digits say, read from the left, v being what stands before them
abbrev pub value_after : ℕ → List ℕ → ℕ
value_after v [] = v
value_after v (c ∷ t) = value_after (10 * v + (c - 48)) t

abbrev pub value : List ℕ → ℕ
value t = value_after 0 t
