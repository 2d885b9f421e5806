-- `stands_before` meets its promise: the first of the two slots that is found is the earlier one.
use Rattle.std.proofs.Common.{eqb, ◌||◌, rules, tests}
use Rattle.std.proofs.lemmas.Iterator.{YieldsList-from_slice}
use Rattle.std.proofs.lemmas.Iterator.Search.{find_from_yields_List}
use Rattle.shifting.proofs.Standing.{found_tells}
use Rattle.shifting.proofs.stands_before.Goals as goal

pub returns-in-Some : goal.returns-in-Some
returns-in-Some c =
    let found = find_from_yields_List (λ h. eqb h c.args.slot || eqb h c.args.other) _ _ c.find.result c.find.ensures.ran (YieldsList-from_slice c.args.order.now cc) (λ x b q k. search (rules, tests)) in
    rw c.in-Some.is at (found_tells c.args.order.now c.args.slot c.args.other _ c.find.result found)

pub returns-in-None : goal.returns-in-None
returns-in-None c =
    let found = find_from_yields_List (λ h. eqb h c.args.slot || eqb h c.args.other) _ _ c.find.result c.find.ensures.ran (YieldsList-from_slice c.args.order.now cc) (λ x b q k. search (rules, tests)) in
    rw c.in-None.is at (found_tells c.args.order.now c.args.slot c.args.other _ c.find.result found)
