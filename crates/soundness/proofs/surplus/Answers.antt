-- `surplus` meets its promise: the first number that is not the mark stands at the lowest place that is used.
use Prim.Native.Nat.{ℕ, ◌<◌}
use mathlib.Core.Path.{◌≡◌}
use mathlib.Core.Logic.{◌≢◌}
use mathlib.Core.List.{List}
use native.Mathlib.Omega.{arith}
use lib.ListN.{length}
use borrow.Author.Rules.{rules}
use borrow.Author.Tests.{tests}
use Rattle.std.specs.Prelude.{Option, Some, None, MatchOption}
use Rattle.std.specs.List.{AllWithin, HoldsAt}
use Rattle.std.proofs.lemmas.Iterator.{IsFirst-from_position, YieldsList-from_slice}
use Rattle.dispatcher.specs.Limits.{none}
use Rattle.soundness.specs.Finds.{Finds}
use Rattle.soundness.specs.Parts.{Unused}
use Rattle.soundness.proofs.surplus.Goals as goal

finds_first : (l : List ℕ) (r : Option ℕ) → MatchOption r (AllWithin (λ held. held ≡ none) l 0 (length l)) (λ i. (i < length l) × HoldsAt (λ held. held ≢ none) l i × AllWithin (λ held. held ≡ none) l 0 i)
    → Finds (length l) (Unused l) r
finds_first l None all = λ k b. all k none (omega arith) b
finds_first l (Some i) first = record { below = first.0; fails = first.1 none; lower = λ k b. first.2 k none (omega arith) b }

pub returns : goal.returns
returns c =
    finds_first c.args.list.now c.position.result
    (IsFirst-from_position _ _ _ (λ held. held ≢ none) (λ held. held ≡ none) c.position.ensures.ran (YieldsList-from_slice c.args.list.now cc) (λ x q k. search (rules, tests)) (λ x q k. search (rules, tests)))
