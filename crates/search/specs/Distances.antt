-- What the rounds of marking find: marks that are right for at most `limit` steps, by fewer than which no core of `start` is marked.
use Rattle.std.specs.Prelude.{ℕ, ◌≡◌, List}
use Rattle.std.specs.Int.Bits.{bit_and}
use Rattle.masks.specs.Masks.{has}
use Rattle.seating.proofs.Near.{Levels, Missed}
use Rattle.search.specs.Sitters.{leads}
use Rattle.search.specs.Marks.{farthest, within}
use Rattle.search.specs.Rounds.{Gathered}
use Rattle.search.specs.declared.Marks.{Marks}

-- the marks are right for any number of steps, and near has every core that leads to the target
pub record Complete (n : ℕ) (masks : List ℕ) (target : ℕ) (marks : List ℕ) (near : ℕ) : Type 0 where
  pub levels : Levels n (leads masks) (has target) (within marks) farthest
  pub gathered : Gathered marks farthest n near

pub record Distances (n : ℕ) (masks : List ℕ) (start target : ℕ) (m : Marks) : Type 0 where
  pub levels : Levels n (leads masks) (has target) (within m.marks) m.limit
  pub gathered : Gathered m.marks m.limit n m.near
  pub missed : Missed n (has start) (within m.marks) m.limit
  pub complete : bit_and start m.near ≡ 0 → Complete n masks target m.marks m.near
