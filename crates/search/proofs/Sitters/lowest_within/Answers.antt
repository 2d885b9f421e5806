-- `lowest_within` meets its promise: `find` gives the first core that passes.
use Rattle.std.proofs.Common.{◌≡◌, true, false, ◌&&◌, rules}
use Rattle.std.proofs.lemmas.Iterator.{first_from_Range}
use Rattle.masks.specs.Masks.{has}
use Rattle.search.specs.Marks.{within}
use Rattle.search.proofs.Lowest.{lowest_found}
use Rattle.search.proofs.Sitters.lowest_within.Goals as goal

pub returns : goal.returns
returns c = lowest_found _ _ _ _ _ (
    first_from_Range _ _ _ _ (λ i. (has c.args.mask i && within c.args.marks.now c.args.limit i) ≡ true) (λ i. (has c.args.mask i && within c.args.marks.now c.args.limit i) ≡ false) c.find.ensures.ran
    (λ i q h. search rules) (λ i q h. search rules)
    )
