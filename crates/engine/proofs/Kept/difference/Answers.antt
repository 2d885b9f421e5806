-- `Kept::difference` meets its promise: it is the first pair of a mark and a core that are not alike.
use mathlib.Core.Path.{◌≡◌}
use borrow.Author.Rules.{rules}
use borrow.Author.Tests.{tests}
use Rattle.std.proofs.lemmas.Iterator.{YieldsList-from_slice, YieldsList-from_zip, IsFirst-from_position}
use Rattle.engine.specs.Difference.{HasCore}
use Rattle.engine.proofs.Comparing.{counted, difference_told}
use Rattle.engine.proofs.Kept.difference.Goals as goal

pub returns : goal.returns
returns c =
    let same : c.map.result ≡ c.position.result = search rules in
    rw same
    (difference_told {d = c.args.d.now} {n = c.min-n.result} c.requires.seats (counted (search rules)) c.first_places-cores.ensures c.args.self.now.tasks (search rules) c.position.result
    (IsFirst-from_position c.position.new.self _ c.position.result (λ p. HasCore p.0 p.1 → ⊥) (λ p. HasCore p.0 p.1) c.position.ensures.ran
    (YieldsList-from_zip (YieldsList-from_slice c.args.self.now.tasks cc) (YieldsList-from_slice c.first_places-cores.result cc)) (λ x q k. search (rules, tests)) (λ x q k. search (rules, tests))))
