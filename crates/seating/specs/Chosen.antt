-- Document 01, "What each call does": a call takes a shortest chain; among shortest chains, the one with the smaller core at the first place where they
-- differ, read from the newcomer. Where the chain must end is a test of its last core.
use Rattle.std.specs.Prelude.{ℕ, ◌<◌, ◌≡◌, ◌⊎◌, Bool, true, List, [], ◌∷◌, length}
use Rattle.laws.specs.Lists.{last}
use Rattle.seating.specs.Chain.{Chain}

-- p goes on in q, or has the smaller core at the first place where they differ
abbrev pub NotAfter : List ℕ → List ℕ → Type 0
NotAfter [] q = Unit {0}
NotAfter (c ∷ p) [] = ⊥
NotAfter (c ∷ p) (d ∷ q) = (c < d) ⊎ ((c ≡ d) × NotAfter p q)

-- of the chains from x that end in the target, c ∷ p is the one that a call takes
pub record Chosen (n e : ℕ) (may : ℕ → ℕ → Bool) (s : ℕ → ℕ) (x : ℕ) (Target : ℕ → Bool) (c : ℕ) (p : List ℕ) : Type 0 where
  pub chain : Chain n e may s x c p
  pub hits : Target (last c p) ≡ true
  pub best : (d : ℕ) (q : List ℕ) → Chain n e may s x d q → Target (last d q) ≡ true → (length p < length q) ⊎ ((length p ≡ length q) × NotAfter (c ∷ p) (d ∷ q))

-- no chain from x ends in the target
pub record Unreached (n e : ℕ) (may : ℕ → ℕ → Bool) (s : ℕ → ℕ) (x : ℕ) (Target : ℕ → Bool) : Type 0 where
  pub none : (d : ℕ) (q : List ℕ) → Chain n e may s x d q → Target (last d q) ≡ true → ⊥
