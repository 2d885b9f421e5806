-- The parts of a line: what they are one after the other, and how long they are together.
use Prim.Native.Nat.{ℕ, ◌+◌}
use mathlib.Core.Path.{◌≡◌, ◌∙◌, ap}
use mathlib.Core.Logic.{◌≢◌}
use mathlib.Core.List.{List, [], ◌∷◌, ◌++◌, append_assoc, append-nil}
use native.Mathlib.Omega.{arith}
use borrow.Author.Tests.{eq-eqb, ne_eqb}
use lib.ListN.{length, length-append}
use Rattle.texts.specs.Joined.{space, newline, dash, each_after, joined}
use Rattle.decimals.specs.Decimal.{decimal}
use Rattle.dispatcher.specs.Limits.{none}
use Rattle.dispatcher.specs.declared.PlainReport.{PlainReport}
use Rattle.lines.specs.declared.Line.{Line}
use Rattle.lines.specs.Text.{event_fields, report_fields, slot_text, seats_text, line_text}

pub slot_dash : (slot : ℕ) → slot ≡ none → slot_text slot ≡ dash ∷ []
unfolding slot_text
slot_dash slot e = rw (eq-eqb slot none e)

pub slot_number : (slot : ℕ) → slot ≢ none → slot_text slot ≡ decimal slot
unfolding slot_text
slot_number slot n = rw (ne_eqb slot none n)

-- a slot put behind a character
pub slot_put_dash : (text : List ℕ) {t all : List ℕ} (c slot : ℕ) → slot ≡ none → t ≡ text ++ c ∷ [] → all ≡ t ++ dash ∷ [] → all ≡ text ++ c ∷ slot_text slot
slot_put_dash text c slot e a b = simp (b, a, slot_dash slot e, append_assoc)

pub slot_put_number : (text : List ℕ) {t all : List ℕ} (c slot : ℕ) → slot ≢ none → t ≡ text ++ c ∷ [] → all ≡ t ++ decimal slot → all ≡ text ++ c ∷ slot_text slot
slot_put_number text c slot n a b = simp (b, a, slot_number slot n, append_assoc)

pub event_length : (l : Line) → length (joined space (event_fields l)) ≡ 3 + (length (decimal l.number) + length (decimal l.slot))
event_length l = simp (length-append, append-nil) (omega arith)

pub report_length : (r : PlainReport)
    → length (each_after space (report_fields r)) ≡ 4 + (length (decimal r.number) + (length (decimal r.moves) + (length (slot_text r.started) + length (slot_text r.stopped))))
report_length r = simp (length-append, append-nil) (omega arith)

pub line_pieces : (l : Line) (seats : List ℕ)
    → line_text l seats ≡ joined space (event_fields l) ++ (each_after space (report_fields l.report) ++ ((space ∷ seats_text seats) ++ (newline ∷ [])))
unfolding line_text
line_pieces l seats = simp (append_assoc, append-nil)

four_length : (a b c d : List ℕ) → length (a ++ (b ++ (c ++ d))) ≡ length a + (length b + (length c + length d))
four_length a b c d = simp length-append

pub line_length : (l : Line) (seats : List ℕ)
    → length (line_text l seats) ≡ length (joined space (event_fields l)) + (length (each_after space (report_fields l.report)) + (length (space ∷ seats_text seats) + 1))
line_length l seats = ap length (line_pieces l seats) ∙ four_length (joined space (event_fields l)) (each_after space (report_fields l.report)) (space ∷ seats_text seats) (newline ∷ [])

-- the parts, put one after the other behind a text
pub line_put : (text : List ℕ) {t1 t2 t3 all : List ℕ} (l : Line) (seats : List ℕ) → t1 ≡ text ++ joined space (event_fields l)
    → t2 ≡ t1 ++ each_after space (report_fields l.report) → t3 ≡ t2 ++ space ∷ seats_text seats → all ≡ t3 ++ newline ∷ [] → all ≡ text ++ line_text l seats
line_put text l seats a b c d = rw (d, c, b, a, line_pieces l seats) (simp append_assoc)
