-- `entries` meets its promise: all places below the loop's are entered, and the table tells where among them each slot stands.
use mathlib.Core.Path.{◌≡◌}
use Rattle.dispatcher.specs.Limits.{slot_limit}
use Rattle.soundness.specs.Entries.{Entries}
use Rattle.soundness.proofs.entries.Given as goal

abbrev pub invariant-loop-k : goal.invariant-loop-k
invariant-loop-k l = (l.woken.end ≡ slot_limit) × Entries l.d l.k l.woken.places
