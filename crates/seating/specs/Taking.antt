-- Document 01, "What each call does": taking a chain, each task on a chain core but the last goes to the next core, and the newcomer to the first. A
-- chain of k cores moves k - 1 tasks.
use Rattle.std.specs.Prelude.{ℕ, ◌≡◌, Bool, List, [], ◌∷◌, length}
use Rattle.laws.specs.Lists.{In}
use Rattle.seating.specs.Chosen.{Chosen}

-- each task on c ∷ p but the last goes to the next core
abbrev pub Passes : (ℕ → ℕ) → (ℕ → ℕ) → ℕ → List ℕ → Type 0
Passes s s' c [] = Unit {0}
Passes s s' c (d ∷ p) = (s' d ≡ s c) × Passes s s' d p

-- s' is s after x took the chain c ∷ p
pub record Takes (s s' : ℕ → ℕ) (x c : ℕ) (p : List ℕ) : Type 0 where
  pub first : s' c ≡ x
  pub next : Passes s s' c p
  pub others : (a : ℕ) → (In a (c ∷ p) → ⊥) → s' a ≡ s a

-- x takes the chosen chain to the target, which moves so many tasks
pub record Goes (n e : ℕ) (may : ℕ → ℕ → Bool) (s : ℕ → ℕ) (x : ℕ) (Target : ℕ → Bool) (s' : ℕ → ℕ) (moves : ℕ) : Type 0 where
  pub c : ℕ
  pub p : List ℕ
  pub chosen : Chosen n e may s x Target c p
  pub takes : Takes s s' x c p
  pub count : moves ≡ length p

-- nobody moves
pub record Stays (s s' : ℕ → ℕ) (moves : ℕ) : Type 0 where
  pub seats : (a : ℕ) → s' a ≡ s a
  pub count : moves ≡ 0
