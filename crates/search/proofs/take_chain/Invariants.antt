-- `take_chain` meets its promise: what is left of the chain is taken by the task that is without a core.
use Rattle.std.proofs.Common.{◌≡◌, drop}
use Rattle.search.specs.Taken.{take_list}
use Rattle.search.proofs.take_chain.Given as goal

abbrev pub invariant-loop-core : goal.invariant-loop-core
invariant-loop-core l = take_list l.seats l.pushed (drop l.core-index l.cores) ≡ take_list l.fn.seats l.newcomer l.cores
