-- The steps of seating a task and of freeing a core, each by the theory of the search for a place; and why each call has fewer cores left to ask.
use Prim.Native.Nat.{ℕ, suc, ◌<◌}
use mathlib.Core.Path.{◌≡◌, refl, ap, ◌∙◌, fun_ext}
use mathlib.Core.Logic.{◌≢◌}
use mathlib.Core.Bool.{Bool, true, false, ◌&&◌, ◌||◌}
use mathlib.Core.List.{List}
use native.Mathlib.Omega.{arith}
use lib.Dec.{eqb}
use lib.ListN.{get_or, length, set}
use borrow.Author.Tests.{lt-ltb}
use Rattle.laws.proofs.Lists.{get_d_any}
use Rattle.laws.proofs.Testing.{and_true}
use Rattle.masks.specs.Masks.{width, has, Added, NextCore}
use Rattle.seating.proofs.Update.{upd}
use Rattle.seating.proofs.Take.{seats, set_upd}
use Rattle.seating.proofs.Place.{mark, left_more, left_mark}
use Rattle.seating.proofs.Seeking as seeking
use Rattle.dispatcher.specs.Limits.{slot_limit, none}
use Rattle.engine.specs.Seats.{seat_in, Seats}
use Rattle.engine.specs.Search.{allowed, tried, Sought, Asks, Asked, unasked}
use Rattle.engine.specs.declared.places.Board.{Board}
use Rattle.engine.specs.declared.places.Seeking.{Seeking}

marked : {m c r : ℕ} → c < width → Added m c r → has r ≡ mark (has m) c
unfolding mark
marked {m} {c} l A = fun_ext λ k. A.each k ∙ ap (λ (b : Bool). has m k || (eqb k c && b)) (lt-ltb c width l) ∙ ap (λ (b : Bool). has m k || b) (and_true (eqb k c))

seat_set : (xs : List ℕ) (c t : ℕ) → c < length xs → seat_in (set xs c t) ≡ upd (seat_in xs) c t
unfolding seats
seat_set xs c t l = set_upd none xs c t l

-- ---- a core is asked: with it the cores asked are m

module _ {b : Board} {s : Seeking} {c m : ℕ} (A : Asks b s c) (M : Added s.asked c m) where
  abbrev with_it : Seats s.seats → Seeking
  with_it slots = record { asked = m; seats = s.seats; slots = slots }

  has_it : has m ≡ mark (has s.asked) c
  has_it = marked (let few = b.few in let below = A.below in omega arith) M

  occupant : seat_in s.seats c ≡ get_or s.seats c 0
  occupant = get_d_any s.seats c none 0 (omega (arith, b.few, A.below, s.slots.size))

  -- its occupant seeks another place
  pub fewer_unasked : suc (unasked b.cores (with_it s.slots)) < unasked b.cores s
  fewer_unasked = rw has_it (let u = left_mark b.cores (has s.asked) c A.below A.not_yet in omega arith)

  module _ (held : get_or s.seats c 0 ≢ none) where
    pub occupant_below : get_or s.seats c 0 < slot_limit
    occupant_below = rw (← occupant) (s.slots.slots c (rw occupant held))

    pub asked_held : {slots : Seats s.seats} {found : Bool} {r : Seeking} → Sought b (with_it slots) (get_or s.seats c 0) found r → Asked b s c found r
    asked_held {found = found} {r} S = record { asked = seeking.asked_held A.below A.not_yet (rw occupant held) again }
      where
        again : seeking.Sought b.cores none (allowed b.masks) (seat_in s.seats) (mark (has s.asked) c) (seat_in s.seats c) (tried found r)
        again = rw (occupant, ← has_it) S.sought

-- ---- a task asks its next core

module _ (b : Board) (s : Seeking) (t : ℕ) {c : ℕ} (N : NextCore (get_or b.masks t 0) s.asked c) where
  module _ (l : c < b.cores) where
    may_ask : (has (get_or b.masks t 0) c ≡ true) × (has s.asked c ≡ false)
    may_ask = N.unmarked (let few = b.few in omega arith)

    module _ (r : Seeking) where
      room : c < length r.seats
      room = omega (arith, b.few, r.slots.size)

      -- it sits there
      pub sought_here : {here : Seats (set r.seats c t)} → Asked b s c true r → Sought b s t true (record { asked = r.asked; seats = set r.seats c t; slots = here })
      sought_here A = record { sought = rw sits (seeking.sought_here (l, may_ask.0) A.asked refl) }
        where
          sits : seat_in (set r.seats c t) ≡ upd (seat_in r.seats) c t
          sits = seat_set r.seats c t room

      -- or asks on: the core has been asked, and whatever was asked before it
      pub fewer_left : Asked b s c false r → suc (unasked b.cores r) < suc (unasked b.cores s)
      fewer_left A =
          let u = left_mark b.cores (has s.asked) c l may_ask.1 in
          let v = left_more b.cores (mark (has s.asked) c) (has r.asked) (A.asked.kept refl).none.more in
          omega arith

pub sought_on : {b : Board} {s r r' : Seeking} {t c : ℕ} {found : Bool} → Asked b s c false r → Sought b r t found r' → Sought b s t found r'
sought_on A S = record { sought = seeking.sought_on A.asked refl S.sought }
