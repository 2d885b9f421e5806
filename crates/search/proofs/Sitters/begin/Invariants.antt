-- `begin` meets its promise: the cores below the loop's have their first mark, and the others none.
use Rattle.std.proofs.Common.{◌≡◌, ℕ, ◌<◌, ◌≤◌}
use Rattle.masks.specs.Masks.{width}
use Rattle.search.specs.Marks.{far, mark}
use Rattle.search.specs.Rounds.{first_mark_of, Filled}
use Rattle.search.proofs.Sitters.begin.Given as goal

abbrev pub invariant-loop-core : goal.invariant-loop-core
invariant-loop-core l = Filled (first_mark_of l.target) l.core l.marks × ((k : ℕ) → l.core ≤ k → k < width → mark l.marks k ≡ far)
