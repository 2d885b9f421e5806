-- Lists: who stands in one, that none stands in it twice, a claim on each and on one, and the last of one that is not empty.
use Rattle.std.specs.Prelude.{ℕ, ◌≡◌, ◌⊎◌, List, [], ◌∷◌}

abbrev pub In : ℕ → List ℕ → Type 0
In a [] = ⊥
In a (b ∷ l) = (a ≡ b) ⊎ In a l

abbrev pub Distinct : List ℕ → Type 0
Distinct [] = Unit {0}
Distinct (c ∷ p) = (In c p → ⊥) × Distinct p

-- a claim holds of each of a list
abbrev pub All : {A : Type 0} → (A → Type 0) → List A → Type 0
All P [] = Unit {0}
All P (x ∷ xs) = P x × All P xs

-- a claim holds of one of a list
abbrev pub Any : {A : Type 0} → (A → Type 0) → List A → Type 0
Any P [] = ⊥
Any P (x ∷ xs) = P x ⊎ Any P xs

-- the last of c ∷ p
abbrev pub last : ℕ → List ℕ → ℕ
last c [] = c
last c (d ∷ p) = last d p
