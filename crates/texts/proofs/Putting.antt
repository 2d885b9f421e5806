-- A text put into bytes: they stay as many, two texts one after the other are put as one, and there is one result. All by where the bytes are cut.
-- And a text put behind another is put at its end: no byte before it changes.
use Prim.Native.Nat.{ℕ, ◌+◌, ◌≤◌, ◌<◌}
use mathlib.Core.Path.{◌≡◌, refl, sym, ◌∙◌}
use mathlib.Core.List.{List, [], ◌∷◌, ◌++◌, append_assoc, append-nil}
use native.Mathlib.Nat.{zero-add, add_assoc, add-zero}
use native.Mathlib.Numerals.{add-one}
use native.Mathlib.Omega.{arith}
use lib.ListN.{length, take, drop, set, take-append-drop, length-append, length-drop, drop_of_length-le}
use lib.Seq.{length-take-le, take_at, take-length, drop-append-add, drop-drop, set_split}
use borrow.Rule.Slice.PartMut.{put_mid}
use Rattle.texts.specs.Put.{put_at, Puts}

-- the bytes up to the end of the text
front_length : (bytes : List ℕ) (at : ℕ) (t : List ℕ) → at + length t ≤ length bytes → length (take at bytes ++ t) ≡ at + length t
front_length bytes at t room = rw (length-append, length-take-le at bytes (omega arith))

drop_past : (front rest : List ℕ) (n k : ℕ) → length front ≡ n → drop (n + k) (front ++ rest) ≡ drop k rest
drop_past front rest n k e = rw (← e) (drop-append-add front rest k)

pub put_length : (bytes : List ℕ) (at : ℕ) (t : List ℕ) → at + length t ≤ length bytes → length (put_at bytes at t) ≡ length bytes
unfolding put_at
put_length bytes at t room = rw (← append_assoc (take at bytes) t, length-append, front_length bytes at t room, length-drop) (omega arith)

pub put_one : (bytes : List ℕ) (at c : ℕ) → at < length bytes → set bytes at c ≡ put_at bytes at (c ∷ [])
unfolding put_at
put_one bytes at c room = rw (add-one, set_split bytes at c room)

pub put_put : (bytes : List ℕ) (at : ℕ) (a b : List ℕ) → at + length a + length b ≤ length bytes
    → put_at (put_at bytes at a) (at + length a) b ≡ put_at bytes at (a ++ b)
unfolding put_at
put_put bytes at a b room =
    let e = front_length bytes at a (omega arith) in
    rw (← append_assoc (take at bytes) a, take_at _ _ _ e, drop_past _ _ _ _ e, drop-drop) (simp (append_assoc, length-append, add_assoc))

pub puts_length : {t : List ℕ} {at r : ℕ} {x y : List ℕ} → Puts t at x y r → at + length t ≤ length x → length y ≡ length x
puts_length {t} {at} {x = x} p room = rw p.bytes (put_length x at t room)

-- what is left of the room is left after the text
pub puts_room : {t : List ℕ} {at r : ℕ} {x y : List ℕ} → Puts t at x y r → (k : ℕ) → at + length t + k ≤ length x → r + k ≤ length y
puts_room p k room = omega (arith, puts_length p (omega arith))

pub puts_none : (x : List ℕ) (at : ℕ) → Puts [] at x x at
unfolding put_at
puts_none x at = record { bytes = sym (rw add-zero (take-append-drop at x)); next = omega arith }

pub puts_one : (x : List ℕ) (at c : ℕ) → at < length x → Puts (c ∷ []) at x (set x at c) (at + 1)
puts_one x at c room = record { bytes = put_one x at c room; next = refl }

-- a text after a text
pub puts_then : {a b : List ℕ} {at m r : ℕ} {x y z : List ℕ} → Puts a at x y m → Puts b m y z r → at + length a + length b ≤ length x → Puts (a ++ b) at x z r
puts_then {a} {b} {at} {x = x} p q room =
    record {
      bytes = q.bytes ∙ rw (p.bytes, p.next) (put_put x at a b room);
      next = rw (q.next, p.next, length-append, add_assoc);
    }

-- the room for what follows a text
pub room_left : {a : List ℕ} {at m : ℕ} {x y : List ℕ} → Puts a at x y m → (b : List ℕ) → at + length (a ++ b) ≤ length x → m + length b ≤ length y
room_left {a} p b room = puts_room p (length b) (omega (arith, length-append a b))

-- a text after a text, where the second is known to be put once there is room for it
pub puts_piece : {a b : List ℕ} {at m r : ℕ} {x y z : List ℕ} → Puts a at x y m → (m + length b ≤ length y → Puts b m y z r) → at + length (a ++ b) ≤ length x
    → Puts (a ++ b) at x z r
puts_piece {a} {b} p q room = puts_then p (q (room_left p b room)) (omega (arith, length-append a b))

-- it stands behind what stood before its place
pub puts_taken : {t : List ℕ} {at r : ℕ} {x y : List ℕ} → Puts t at x y r → at + length t ≤ length x → take r y ≡ take at x ++ t
unfolding put_at
puts_taken {t} {at} {x = x} p room =
    rw (p.bytes, p.next, ← append_assoc (take at x) t) (take_at (take at x ++ t) (drop (at + length t) x) (at + length t) (front_length x at t room))

-- at the start
pub puts_front : {t x y : List ℕ} → y ≡ t ++ drop (length t) x → Puts t 0 x y (length t)
unfolding put_at
puts_front {t} e = record { bytes = rw (zero-add (length t)) e; next = omega arith }

pub puts_read : {t x y : List ℕ} {r : ℕ} → Puts t 0 x y r → take r y ≡ t
unfolding put_at
puts_read {t} {x} p = rw (p.bytes, p.next) (take_at t (drop (0 + length t) x) (0 + length t) (omega arith))

pub puts_same : {t : List ℕ} {at r q : ℕ} {x y z : List ℕ} → Puts t at x y r → Puts t at x z q → (y ≡ z) × (r ≡ q)
puts_same p q = (p.bytes ∙ sym q.bytes, p.next ∙ sym q.next)

-- behind a text
pub puts_behind : {before t after : List ℕ} → after ≡ before ++ t → Puts t (length before) before after (length after)
unfolding put_at
puts_behind {before} {t} e =
    let past : length before ≤ length before + length t = omega arith in
    record {
      bytes = e ∙ sym (rw (take-length before, drop_of_length-le before past, append-nil t) refl);
      next = rw (e, length-append before t) refl;
    }

-- what a part of the bytes is written over with, where it has as many
pub puts_part : (bytes : List ℕ) {piece part : List ℕ} (at : ℕ) {k : ℕ} → part ≡ piece → k ≡ length piece → Puts piece at bytes (put_mid at k bytes part) (at + length piece)
unfolding put_at
puts_part bytes {piece} at same many = record { bytes = rw (same, many, drop-drop (length piece) at bytes) refl; next = refl }
