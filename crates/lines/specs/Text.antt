-- Document 01, "Event file": what one line says, as text in ASCII.
use Rattle.std.specs.Prelude.{ℕ, cond, List, [], ◌∷◌, ◌++◌, map, eqb, get_or}
use Rattle.texts.specs.Joined.{newline, space, comma, dash, joined}
use Rattle.decimals.specs.Decimal.{decimal}
use Rattle.dispatcher.specs.Limits.{none}
use Rattle.dispatcher.specs.declared.PlainReport.{PlainReport}
use Rattle.lines.specs.declared.Line.{Line}

-- C, W, B or D for kinds 0 to 3
abbrev pub letter_of : ℕ → ℕ
letter_of kind = get_or (67 ∷ 87 ∷ 66 ∷ 68 ∷ []) kind 0

-- `-` for none
unfoldable pub slot_text : ℕ → List ℕ
slot_text slot = cond (eqb slot none) (dash ∷ []) (decimal slot)

-- running number; letter; slot
abbrev pub event_fields : Line → List (List ℕ)
event_fields l = decimal l.number ∷ (letter_of l.kind ∷ []) ∷ decimal l.slot ∷ []

-- answer's number; moves; started; stopped
abbrev pub report_fields : PlainReport → List (List ℕ)
report_fields r = decimal r.number ∷ decimal r.moves ∷ slot_text r.started ∷ slot_text r.stopped ∷ []

abbrev pub fields_of : Line → List (List ℕ)
fields_of l = event_fields l ++ report_fields l.report

-- for each core the slot or `-`, joined by commas
abbrev pub seats_text : List ℕ → List ℕ
seats_text seats = joined comma (map slot_text seats)

-- fields one space apart, the seats last
unfoldable pub line_text : Line → List ℕ → List ℕ
line_text l seats = joined space (fields_of l ++ (seats_text seats ∷ [])) ++ (newline ∷ [])
