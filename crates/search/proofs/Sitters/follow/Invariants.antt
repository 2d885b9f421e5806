-- `follow` meets its promise: the cores so far and the walk that is left make the whole route.
use Rattle.std.proofs.Common.{suc, take}
use Rattle.search.specs.Taken.{Spelled}
use Rattle.search.specs.Marks.{within}
use Rattle.search.proofs.Following.{Going, onward}
use Rattle.search.proofs.Sitters.follow.Given as goal

abbrev pub invariant-loop-limit : goal.invariant-loop-limit
invariant-loop-limit l =
    Going l.self.count l.self.masks (within l.m.marks) (onward l.self.count l.self.masks (within l.m.marks) (suc l.m.limit) l.start) (take l.len l.cores) l.mask l.limit
    × Spelled l.cores l.len
