-- `first_places` meets its promise: going down the list, the table has the first place of each slot among the places passed.
use mathlib.Core.Path.{◌≡◌}
use Rattle.order.proofs.Placing.{Passed}
use Rattle.order.proofs.first_places.Given as goal

abbrev pub invariant-loop-i : goal.invariant-loop-i
invariant-loop-i l = (l.i-iterator.iter.count ≡ 0) × Passed l.list l.i-iterator.iter.iter.rest.now l.places
