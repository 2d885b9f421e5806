-- Seats written one after the other: behind the first, each is a comma and a slot.
use Rattle.std.proofs.Common.{ℕ, ◌+◌, ◌-◌, ◌≤◌, ◌<◌, ◌≡◌, List, [], ◌∷◌, ◌++◌, length, take, drop, get_or, map, refl, append_assoc, length-append, take_all, arith}
use Rattle.std.specs.Prelude.{flat_map}
use Rattle.std.proofs.lemmas.List.Folds.{length-flat_map-take}
use Rattle.texts.specs.Joined.{space, comma, each_after}
use Rattle.lines.specs.Text.{slot_text, seats_text}

abbrev pub behind_comma : ℕ → List ℕ
behind_comma seat = comma ∷ slot_text seat

abbrev pub commas : List ℕ → List ℕ
commas seats = flat_map behind_comma seats

commas_are : (seats : List ℕ) → each_after comma (map slot_text seats) ≡ commas seats
commas_are [] = refl
commas_are (s ∷ seats) = rw (commas_are seats) refl

-- all but the first, as the loop goes over them
abbrev pub rest_of : List ℕ → List ℕ
rest_of seats = take (length seats - 1) (drop 1 seats)

pub seats_are : (seats : List ℕ) → 1 ≤ length seats → seats_text seats ≡ slot_text (get_or seats 0 0) ++ commas (rest_of seats)
seats_are [] some = absurd (omega arith)
seats_are (s ∷ seats) some = rw (commas_are seats, take_all (length (s ∷ seats) - 1) seats (omega arith)) refl

-- the room for what follows a seat
pub seats_room : (seats before : List ℕ) {first text : List ℕ} (i : ℕ) → text ≡ first ++ commas (take i (rest_of seats))
    → first ≡ before ++ space ∷ slot_text (get_or seats 0 0) → i < length (rest_of seats) → 1 ≤ length seats
    → length text + length (behind_comma (get_or (rest_of seats) i 0)) ≤ length before + length (space ∷ seats_text seats)
seats_room seats before i t f l some =
    rw (t, f, seats_are seats some) (simp length-append (omega (arith, length-flat_map-take behind_comma (rest_of seats) i 0 l)))

-- all are written
pub seats_end : (seats before : List ℕ) {first text : List ℕ} (i : ℕ) → text ≡ first ++ commas (take i (rest_of seats))
    → first ≡ before ++ space ∷ slot_text (get_or seats 0 0) → length (rest_of seats) ≤ i → 1 ≤ length seats → text ≡ before ++ space ∷ seats_text seats
seats_end seats before i t f l some =
    rw (t, take_all i (rest_of seats) l, f, seats_are seats some) (append_assoc before (space ∷ slot_text (get_or seats 0 0)) (commas (rest_of seats)))

pub seats_length : (seats before : List ℕ) {first text : List ℕ} (i : ℕ) → text ≡ first ++ commas (take i (rest_of seats))
    → first ≡ before ++ space ∷ slot_text (get_or seats 0 0) → length (rest_of seats) ≤ i → 1 ≤ length seats → length text ≡ length before + length (space ∷ seats_text seats)
seats_length seats before i t f l some = rw (seats_end seats before i t f l some) (length-append before (space ∷ seats_text seats))
