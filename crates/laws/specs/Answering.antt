-- Document 01, "Refusal numbers", and document 02, request 3: a table of refusals, and which number a call gives where several apply.
use Rattle.std.specs.Prelude.{ℕ, suc, ◌≤◌, ◌<◌, ◌≡◌, ◌≢◌, ◌⊎◌, cond, List, [], ◌∷◌, eqb}

infix 80 ◌when◌
-- a row of the table: a number, and when it is given
pub record Refusal : Type 1 where
  pub number : ℕ
  pub cause : Type 0

abbrev pub ◌when◌ : ℕ → Type 0 → Refusal
n when P = record { number = n; cause = P }

-- n is the number of a row whose cause holds
abbrev pub Applies : List Refusal → ℕ → Type 0
Applies [] n = ⊥
Applies (r ∷ rs) n = ((n ≡ r.number) × r.cause) ⊎ Applies rs n

-- the numbers that are checked before all others, in this order: why a dispatcher is not sound
abbrev pub checked_first : List ℕ
checked_first = 21 ∷ 22 ∷ 23 ∷ 24 ∷ 25 ∷ []

-- the turn of a number: first come those of the list in its order, then the others from the lowest on
abbrev pub turn_after : List ℕ → ℕ → ℕ
turn_after [] n = n
turn_after (k ∷ ks) n = let later = turn_after ks n in cond (eqb n k) 0 (suc later)

abbrev pub turn_of : ℕ → ℕ
turn_of n = turn_after checked_first n

-- the number that a call answers: a refusal has a listed cause that holds; of several the one whose turn comes first is given, and 0 only
-- where none applies
pub record Answers (rs : List Refusal) (n : ℕ) : Type 0 where
  pub listed : n ≢ 0 → Applies rs n
  pub first : (m : ℕ) → Applies rs m → (0 < n) × (turn_of n ≤ turn_of m)
