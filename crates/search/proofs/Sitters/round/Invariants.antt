-- `round` meets its promise: the cores below the loop's have their next mark, and the others the mark that they had.
use Rattle.std.proofs.Common.{◌≡◌, ℕ, ◌≤◌, get_or}
use Rattle.search.specs.Marks.{mark}
use Rattle.search.specs.Rounds.{next_mark_of, Filled}
use Rattle.search.proofs.Sitters.round.Given as goal

abbrev pub invariant-loop-core : goal.invariant-loop-core
invariant-loop-core l =
    Filled (λ k. next_mark_of (mark l.initial.marks k) (get_or l.self.masks k 0) l.near l.limit) l.core l.marks
    × ((k : ℕ) → l.core ≤ k → mark l.marks k ≡ mark l.initial.marks k)
