-- `step` meets its promise: the place is past the end, has the wrong character, or is read.
use native.Mathlib.Omega.{arith}
use Rattle.std.proofs.Common.{◌≤◌, length}
use Rattle.cpumasks.proofs.Steps.{got, refused, fault_end, fault_character, fault_above, past_comma, digit_read, bits_above, past_digit}
use Rattle.cpumasks.proofs.Form.step.Goals as goal

pub returns-in_err-c : goal.returns-in_err-c
returns-in_err-c c =
    let l : length c.args.text.now ≤ c.args.at = grind arith in
    refused _ _ _ c.from_residual.ensures.1 c.in_err-c.ensures.value (fault_end c.requires.1 (omega (arith, c.requires.0)) c.requires.0 l)

pub returns-then-c-eq44 : goal.returns-then-c-eq44
returns-then-c-eq44 c =
    let g = got _ _ c.get.ensures.lookup c.in_ok-c.ensures.ok_part in
    past_comma c.requires.1 g.0 c.if-at-eq8.true (rw g.1 c.if-c-eq44.true)

pub returns-else-c-eq44 : goal.returns-else-c-eq44
returns-else-c-eq44 c =
    let g = got _ _ c.get.ensures.lookup c.in_ok-c.ensures.ok_part in
    fault_character c.requires.1 (omega (arith, c.requires.0)) g.0 (λ p. c.if-c-eq44.false (rw g.1 at (p.comma_there c.if-at-eq8.true)))

pub returns-in_err-digit : goal.returns-in_err-digit
returns-in_err-digit c =
    let g = got _ _ c.get.ensures.lookup c.in_ok-c.ensures.ok_part in
    let none = rw c.in_err-digit.ensures.ok_part at c.hex_value.ensures in
    refused _ _ _ c.from_residual-in_err-digit.ensures.1 c.in_err-digit.ensures.value
    (fault_character c.requires.1 (omega (arith, c.requires.0)) g.0 (λ p. none (rw g.1 at (p.digit_there c.if-at-eq8.false))))

pub returns-then-names_missing : goal.returns-then-names_missing
returns-then-names_missing c =
    let g = got _ _ c.get.ensures.lookup c.in_ok-c.ensures.ok_part in
    let d = digit_read c.args.text.now _ (omega (arith, c.requires.0)) c.requires.0 c.if-at-eq8.false g.1 c.hex_value.ensures c.in_ok-digit.ensures.ok_part c.lowest_core.ensures in
    fault_above c.requires.1 (omega (arith, c.requires.0))
    (bits_above c.args.self.words c.args.at c.args.text.now c.requires.0 c.if-at-eq8.false d.0 (rw (c.from.ensures, d.1) at (c.names_missing.ensures.yes c.if-names_missing.true)))

pub returns-else-names_missing : goal.returns-else-names_missing
returns-else-names_missing c =
    let g = got _ _ c.get.ensures.lookup c.in_ok-c.ensures.ok_part in
    let d = digit_read c.args.text.now _ (omega (arith, c.requires.0)) c.requires.0 c.if-at-eq8.false g.1 c.hex_value.ensures c.in_ok-digit.ensures.ok_part c.lowest_core.ensures in
    rw (c.from.ensures, d.1) (past_digit c.args.self.words c.args.at c.args.text.now c.requires.0 c.if-at-eq8.false d.0 c.requires.1 (rw (c.from.ensures, d.1) at (c.names_missing.ensures.no c.if-names_missing.false)))
