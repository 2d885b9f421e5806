-- No line is longer than the bytes it is made in: so many digits has a number of each width, and so many seats are there.
use Prim.Native.Nat.{ℕ, suc, ◌*◌, ◌^◌, ◌≤◌, ◌<◌}
use mathlib.Core.Path.{◌≡◌}
use mathlib.Core.List.{List, [], ◌∷◌, map}
use native.Mathlib.Decide.{ℕ_discrete}
use native.Mathlib.Omega.{arith}
use lib.ListN.{length, take, get_or, length-append}
use lib.Seq.{length-take-le, get_or-take}
use Rattle.laws.proofs.Lists.{get_d_any}
use Rattle.texts.specs.Joined.{space, comma, each_after}
use Rattle.decimals.proofs.Spelling.{decimal_length}
use Rattle.dispatcher.specs.Limits.{core_limit, none}
use Rattle.dispatcher.specs.Slots.{seat_at}
use Rattle.dispatcher.specs.Sound.{Sound}
use Rattle.dispatcher.specs.declared.Dispatcher.{Dispatcher}
use Rattle.lines.specs.declared.Line.{Line}
use Rattle.lines.specs.Text.{slot_text, seats_text}
use Rattle.lines.specs.Line.{text_of}
use Rattle.lines.proofs.Parts.{slot_dash, slot_number, line_length, event_length, report_length}

-- a slot's text is one dash or at most as long as its number
slot_longest : (k slot : ℕ) → 1 ≤ k → slot < 10 ^ k → length (slot_text slot) ≤ k
slot_longest k slot p l = go (ℕ_discrete slot none)
  where
    go : Dec (slot ≡ none) → length (slot_text slot) ≤ k
    go (yes e) = rw (slot_dash slot e) p
    go (no e) = rw (slot_number slot e) (decimal_length k slot p l)

-- a character and five digits for each
commas_longest : (xs : List ℕ) → ((c : ℕ) → c < length xs → get_or xs c 0 < 10 ^ 5) → length (each_after comma (map slot_text xs)) ≤ 6 * length xs
commas_longest [] small = omega arith
commas_longest (x ∷ xs) small =
    let rest = commas_longest xs (λ c l. small (suc c) (omega arith)) in
    omega (arith, slot_longest 5 x (omega arith) (small 0 (omega arith)), length-append (slot_text x) (each_after comma (map slot_text xs)))

seats_longest : (xs : List ℕ) → length xs ≤ 32 → ((c : ℕ) → c < length xs → get_or xs c 0 < 10 ^ 5) → length (space ∷ seats_text xs) ≤ 192
seats_longest [] many small = omega arith
seats_longest (x ∷ xs) many small = omega (arith, commas_longest (x ∷ xs) small)

-- the numbers of a line are those of its fields' widths
pub record Wide (l : Line) : Type 0 where
  pub number : l.number < 2 ^ 32
  pub slot : l.slot < 2 ^ 16
  pub answer : l.report.number < 2 ^ 8
  pub moves : l.report.moves < 2 ^ 8
  pub started : l.report.started < 2 ^ 16
  pub stopped : l.report.stopped < 2 ^ 16

-- a seat of a sound dispatcher is a slot or the mark
seats_small : (d : Dispatcher) → Sound d → length d.seats ≡ core_limit → (c : ℕ)
    → c < length (take d.cores d.seats) → get_or (take d.cores d.seats) c 0 < 10 ^ 5
seats_small d sound all c l =
    let below : c < d.cores = omega (arith, length-take-le d.cores d.seats (omega (arith, sound.count.1))) in
    rw (get_or-take d.cores d.seats c 0 below, get_d_any d.seats c 0 none (omega (arith, sound.count.1)))
    (go (ℕ_discrete (seat_at d c) none) (omega (arith, sound.count.1)))
  where
    go : Dec (seat_at d c ≡ none) → c < core_limit → seat_at d c < 10 ^ 5
    go (yes e) k = omega arith
    go (no n) k = omega (arith, (sound.seats c k n).ready.slot)

pub line_longest : (l : Line) (d : Dispatcher) → Wide l → Sound d → length d.seats ≡ core_limit → length (text_of l d) ≤ 231
line_longest l d w sound all =
    let seats = take d.cores d.seats in
    let many : length seats ≤ 32 = omega (arith, sound.count.1, length-take-le d.cores d.seats (omega (arith, sound.count.1))) in
    let number = decimal_length 10 l.number (omega arith) (omega arith) in
    let slot = decimal_length 5 l.slot (omega arith) (omega arith) in
    let answer = decimal_length 3 l.report.number (omega arith) (omega arith) in
    let moves = decimal_length 3 l.report.moves (omega arith) (omega arith) in
    let started = slot_longest 5 l.report.started (omega arith) (omega arith) in
    let stopped = slot_longest 5 l.report.stopped (omega arith) (omega arith) in
    omega (arith, line_length l seats, event_length l, report_length l.report, seats_longest seats many (seats_small d sound all))
