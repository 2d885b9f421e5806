-- The cores that lead to a core of `target`, as a mask: a task that may use one of them reaches the target, and no other task does.
use Rattle.std.specs.Prelude.{ℕ, ◌<◌, ◌^◌, ◌≡◌, true, false, List}
use Rattle.masks.specs.Masks.{has}
use Rattle.seating.specs.Chosen.{Unreached}
use Rattle.search.specs.Sitters.{mask_on}

pub record Leading (n : ℕ) (masks : List ℕ) (target r : ℕ) : Type 0 where
  pub small : r < 2 ^ n
  pub some : (start c : ℕ) → has start c ≡ true → has r c ≡ true → Unreached n 0 has (mask_on masks) start (has target) → ⊥
  pub none : (start : ℕ) → ((c : ℕ) → has start c ≡ true → has r c ≡ false) → Unreached n 0 has (mask_on masks) start (has target)
