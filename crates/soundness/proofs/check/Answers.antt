-- `check` meets its promise: each search finds the lowest that breaks its condition, relying on what the earlier ones have found kept.
use borrow.Author.Rules.{rules}
use Rattle.dispatcher.proofs.Unsound.{sound_answered}
use Rattle.soundness.proofs.Entering.{order_lowest, order_kept, tells_ready}
use Rattle.soundness.proofs.Sitting.{missing_lowest, missing_idle, seats_kept, seat_lowest}
use Rattle.soundness.proofs.Telling.{tells_place, tells_missing, tells_seat}
use Rattle.soundness.proofs.check.Goals as goal

pub returns-in-Some-surplus : goal.returns-in-Some-surplus
returns-in-Some-surplus c =
    let counted = c.legal_count.ensures.yes c.if-not-legal_count.false in
    tells_place counted c.in_default.ensures (order_lowest c.entries-woken.ensures (search rules) c.in-Some-surplus.ensures)

pub returns-in-Some-surplus-2 : goal.returns-in-Some-surplus-2
returns-in-Some-surplus-2 c =
    let counted = c.legal_count.ensures.yes c.if-not-legal_count.false in
    let ordered = order_kept c.entries-woken.ensures (search rules) c.in_default-surplus.ensures in
    tells_missing counted c.in_default.ensures ordered (missing_lowest c.args.d (search rules) c.from-count.ensures c.in-Some-surplus-2.ensures)

pub misseated-requires : goal.misseated-requires
misseated-requires c = (c.legal_count.ensures.yes c.if-not-legal_count.false, tells_ready c.entries-woken.ensures.all (search rules) c.in_default-surplus.ensures)

pub returns-in-Some-misseated : goal.returns-in-Some-misseated
returns-in-Some-misseated c =
    let counted = c.legal_count.ensures.yes c.if-not-legal_count.false in
    let ordered = order_kept c.entries-woken.ensures (search rules) c.in_default-surplus.ensures in
    let idle = missing_idle c.args.d (search rules) c.from-count.ensures c.in_default-surplus-2.ensures in
    tells_seat counted c.in_default.ensures ordered idle (seat_lowest counted c.in-Some-misseated.ensures)

pub returns : goal.returns
returns c =
    let ordered = order_kept c.entries-woken.ensures (search rules) c.in_default-surplus.ensures in
    let idle = missing_idle c.args.d (search rules) c.from-count.ensures c.in_default-surplus-2.ensures in
    sound_answered (record {
      count = c.legal_count.ensures.yes c.if-not-legal_count.false;
      slots = c.in_default.ensures;
      order = ordered;
      missing = idle;
      seats = seats_kept idle c.in_default-misseated.ensures;
    })
