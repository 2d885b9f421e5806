-- `write` meets its promise: the bytes that it makes a line in are enough for every line of a sound dispatcher.
use Rattle.std.proofs.Common.{◌≡◌, refl, length-take-le, arith, rules}
use Rattle.dispatcher.specs.Sound.{Sound}
use Rattle.dispatcher.proofs.Unsound.{done_sound}
use Rattle.lines.proofs.Longest.{Wide, line_longest}
use Rattle.lines.specs.Line.{text_of}
use Rattle.lines.proofs.Standing.{writes_handed}
use Rattle.lines.proofs.write.Goals as goal

pub shared_ref_as_front-seats : goal.shared_ref_as_front-seats
shared_ref_as_front-seats c = let S : Sound c.args.d = done_sound c.args.d c.in_ok-check.ensures.answer refl in omega (arith, S.count)

pub put_line-requires : goal.put_line-requires
put_line-requires c =
    let S : Sound c.args.d = done_sound c.args.d c.in_ok-check.ensures.answer refl in
    let wide : Wide c.args.line = record { number = omega arith; slot = omega arith; answer = omega arith; moves = omega arith; started = omega arith; stopped = omega arith } in
    let longest = line_longest c.args.line c.args.d wide S (search rules) in
    rw (c.new-text.ensures, c.from.ensures) (omega arith, omega (arith, S.count, length-take-le c.args.d.cores c.args.d.seats (search rules)), omega arith)

-- what it hands over is the line that it has made in its own bytes,
-- with the seats of the dispatcher's cores
pub returns : goal.returns
returns c =
    let told : c.deref.result.now ≡ text_of c.args.line c.args.d = rw (c.deref.ensures.0, c.put_line.ensures, c.new-text.ensures, c.from.ensures) refl in
    writes_handed _ _ c.hand_over.ensures told c.ok_or.ensures.value c.in_ok-check.ensures (omega arith)
