-- The cores that a task with the mask `start` reaches, as a mask.
use Rattle.std.specs.Prelude.{ℕ, ◌≡◌, true, List}
use Rattle.masks.specs.Masks.{has}
use Rattle.seating.specs.Reached.{Reached}
use Rattle.search.specs.Sitters.{mask_on}

pub record ReachedCores (n : ℕ) (masks : List ℕ) (start r : ℕ) : Type 0 where
  pub only : (c : ℕ) → has r c ≡ true → Reached n 0 has (mask_on masks) start c
  pub all : (c : ℕ) → Reached n 0 has (mask_on masks) start c → has r c ≡ true
