-- What is unsound: that number and place are one answer, that a dispatcher which nothing is said against is sound, and the rows of a call after those of soundness.
use Prim.Native.Nat.{ℕ, ◌≤◌, ◌<◌}
use mathlib.Core.Path.{◌≡◌, refl, sym, ◌∙◌}
use mathlib.Core.Logic.{◌≢◌, inl, inr}
use mathlib.Core.Bool.{cond}
use Rattle.std.specs.Prelude.{Ok, Err}
use mathlib.Core.List.{List, [], ◌∷◌, ◌++◌}
use native.Mathlib.Decide.{ℕ_discrete}
use native.Mathlib.Omega.{arith}
use lib.ListN.{length}
use lib.Dec.{eqb}
use borrow.Author.Tests.{eq-eqb, ne_eqb}
use Rattle.laws.specs.Lists.{In}
use Rattle.laws.specs.Answering.{Refusal, Applies, checked_first, turn_of, Answers}
use Rattle.laws.proofs.Lists.{in_or_not}
use Rattle.laws.proofs.Lowering.{lowest_same}
use Rattle.laws.proofs.Answering.{first_turn, turn_first, AllLater, from_applies, none_applies, applies_left, applies_split, answers_first, answers_then, answers_rest}
use Rattle.dispatcher.specs.Sound.{Sound}
use Rattle.dispatcher.specs.Answers.{Answer, number_of, place_of}
use Rattle.dispatcher.specs.Unsound.{Condition, conditions, unsound_refusals, PlaceWith, Points}
use Rattle.dispatcher.specs.Promise.{Answered}
use Rattle.dispatcher.specs.declared.Refusal.TheVariants.{UnsoundCount, UnsoundSlot, UnsoundPlace, UnsoundMissingCore, UnsoundSeat}
use Rattle.dispatcher.specs.declared.Dispatcher.{Dispatcher}
use Rattle.dispatcher.proofs.Stable.{count_stable, slots_stable, order_stable, missing_stable, seats_stable}
use Rattle.dispatcher.proofs.Judging.{Test, first_of, JudgedBy, judged, judged_later}

-- ---- a number has one place

-- each condition allows one place
abbrev OneEach : List Condition → Type 0
OneEach [] = Unit {0}
OneEach (c ∷ cs) = ((p q : ℕ) → c.place p → c.place q → p ≡ q) × OneEach cs

place_same : (cs : List Condition) (n p q : ℕ) → OneEach cs → PlaceWith cs n p → PlaceWith cs n q → p ≡ q
place_same [] n p q one a b = a ∙ sym b
place_same (c ∷ cs) n p q one a b = elim (ℕ_discrete n c.number) [ yes e ↦ one.0 p q (a.0 e) (b.0 e) | no z ↦ place_same cs n p q one.1 (a.1 z) (b.1 z) ]

pub points_same : {d : Dispatcher} {n p q : ℕ} → Points d n p → Points d n q → p ≡ q
points_same {d} {n} {p} {q} a b =
    place_same (conditions d) n p q ((λ i j x y. x ∙ sym y), ((λ i j. lowest_same), ((λ i j. lowest_same), ((λ i j. lowest_same), ((λ i j. lowest_same), tt))))) a.told b.told

-- ---- an answer that is not checked first tells no place

abbrev pub IsLater : ℕ → Type 0
IsLater n = length checked_first ≤ turn_of n

pub not_first : (n : ℕ) → IsLater n → In n checked_first → ⊥
not_first n l i = let k = first_turn checked_first n i in omega arith

pub later_place : (a : Answer) → IsLater (number_of a) → place_of a ≡ 0
later_place (Ok done) l = refl
later_place (Err (UnsoundCount p)) l = absurd (omega arith)
later_place (Err (UnsoundSlot p)) l = absurd (omega arith)
later_place (Err (UnsoundPlace p)) l = absurd (omega arith)
later_place (Err (UnsoundMissingCore p)) l = absurd (omega arith)
later_place (Err (UnsoundSeat p)) l = absurd (omega arith)
later_place (Err r) l = refl

-- n is the number of no condition
abbrev IsNone : List Condition → ℕ → Type 0
IsNone [] n = Unit {0}
IsNone (c ∷ cs) n = (n ≢ c.number) × IsNone cs n

place_none : (cs : List Condition) (n p : ℕ) → IsNone cs n → p ≡ 0 → PlaceWith cs n p
place_none [] n p out z = z
place_none (c ∷ cs) n p out z = ((λ e. absurd (out.0 e)), λ _. place_none cs n p out.1 z)

pub later_points : (d : Dispatcher) (a : Answer) → IsLater (number_of a) → Points d (number_of a) (place_of a)
later_points d a l = record { told = place_none (conditions d) (number_of a) (place_of a) (grind arith) (later_place a l) }

-- done, or refused by a row that is not checked first
pub later_answer : (rs : List Refusal) (n : ℕ) → AllLater rs → Answers rs n → IsLater n
later_answer rs n later h = elim (ℕ_discrete n 0) [ yes z ↦ rw z (omega arith) | no z ↦ from_applies (length checked_first) rs n later (h.listed z) ]

-- ---- sound, and not

module _ (d : Dispatcher) where
  -- nothing is said against a sound dispatcher
  sound_none : Sound d → (m : ℕ) → Applies (unsound_refusals d) m → ⊥
  sound_none S m a = grind arith

  pub sound_answers : Sound d → Answers (unsound_refusals d) 0
  sound_answers S = record { listed = λ z. absurd (z refl); first = λ m a. absurd (sound_none S m a) }

  -- what refuses a call on it is one of the call's own rows
  pub sound_own : Sound d → (rs : List Refusal) (m : ℕ) → Applies (unsound_refusals d ++ rs) m → Applies rs m
  sound_own S rs m a = elim (applies_split (unsound_refusals d) rs m a) [ inl bad ↦ absurd (sound_none S m bad) | inr own ↦ own ]

  -- and a dispatcher that nothing is said against is sound
  none_sound : ((m : ℕ) → Applies (unsound_refusals d) m → ⊥) → Sound d
  none_sound none = record {
    count = count_stable d (λ bad. none 21 (inl (refl, bad)));
    slots = slots_stable d (λ bad. none 22 (inr (inl (refl, bad))));
    order = order_stable d (λ bad. none 23 (inr (inr (inl (refl, bad)))));
    missing = missing_stable d (λ bad. none 24 (inr (inr (inr (inl (refl, bad))))));
    seats = seats_stable d (λ bad. none 25 (inr (inr (inr (inr (inl (refl, bad)))))));
  }

  -- where a call is done, its dispatcher was sound
  pub done_sound : {rs : List Refusal} {n : ℕ} → Answers (unsound_refusals d ++ rs) n → n ≡ 0 → Sound d
  done_sound {rs} h z = none_sound (λ m a. none_applies h z m (applies_left (unsound_refusals d) rs m a))

  -- and nothing of its own rows applies
  pub done_own : (rs : List Refusal) {n : ℕ} → Answers (unsound_refusals d ++ rs) n → n ≡ 0 → Answers rs 0
  done_own rs = answers_rest (unsound_refusals d) rs

  first_applies : (n : ℕ) → Applies (unsound_refusals d) n → In n checked_first
  first_applies n a = grind arith

  pub unsound_turn : (n : ℕ) → Applies (unsound_refusals d) n → turn_of n < length checked_first
  unsound_turn n a = first_turn checked_first n (first_applies n a)

  pub unsound_is_first : {n : ℕ} → Answers (unsound_refusals d) n → n ≢ 0 → In n checked_first
  unsound_is_first {n} h z = first_applies n (h.listed z)

-- whatever else refuses a call, an unsound dispatcher is what it says: a condition that is broken has its turn before all others
pub unsound_told : (d : Dispatcher) {rs : List Refusal} {n : ℕ} → Answers (unsound_refusals d ++ rs) n → (Sound d → ⊥) → In n checked_first
unsound_told d {rs} {n} h bad = elim (in_or_not n checked_first) [ inl i ↦ i | inr out ↦ absurd (bad (none_sound d (λ m a. out (turn m a)))) ]
  where
    turn : (m : ℕ) → Applies (unsound_refusals d) m → In n checked_first
    turn m a = turn_first checked_first n (omega (arith, h.first m (applies_left (unsound_refusals d) rs m a), unsound_turn d m a))

-- an answer of 0
pub done_answered : (d : Dispatcher) {rs : List Refusal} → Answers rs 0 → Answered rs d (Ok tt)
done_answered d h = record { answer = h; place = later_points d (Ok tt) (omega arith) }

-- ---- rows and then more rows

module _ {d : Dispatcher} (rs more : List Refusal) where
  -- one of the first rows applies, and the turns of the others come later
  pub answered_first : {a : Answer} → Answered rs d a → number_of a ≢ 0 → ((m : ℕ) → Applies more m → turn_of (number_of a) < turn_of m) → Answered (rs ++ more) d a
  answered_first h z above = record { answer = answers_first rs more h.answer z above; place = h.place }

  -- none of the first rows applies
  pub answered_then : {a : Answer} → Answers rs 0 → AllLater more → Answers more (number_of a) → Answered (rs ++ more) d a
  answered_then {a} none later h = record { answer = answers_then rs more none h; place = later_points d a (later_answer more (number_of a) later h) }

-- ---- the rows of a call after those of soundness

module _ {d : Dispatcher} (rs : List Refusal) (later : AllLater rs) where
  pub unsound_first : {a : Answer} → Answered (unsound_refusals d) d a → number_of a ≢ 0 → Answered (unsound_refusals d ++ rs) d a
  unsound_first {a} h z =
      answered_first (unsound_refusals d) rs h z (λ m x. omega (arith, from_applies (length checked_first) rs m later x, unsound_turn d (number_of a) (h.answer.listed z)))

  pub sound_then : {a : Answer} → Sound d → Answers rs (number_of a) → Answered (unsound_refusals d ++ rs) d a
  sound_then S h = answered_then (unsound_refusals d) rs (sound_answers d S) later h

-- ---- the same, as a function that computes: what the check of soundness says, and the first of the tests that is true where it says nothing

abbrev pub checked_then : Answer → List Test → Answer
checked_then a ts = let rest = first_of ts in cond (eqb (number_of a) 0) rest a

pub checked_then_lem : {d : Dispatcher} (a : Answer) (rs : List Refusal) (ts : List Test) → Answered (unsound_refusals d) d a → JudgedBy rs ts → Answered (unsound_refusals d ++ rs) d (checked_then a ts)
checked_then_lem {d} a rs ts h j = elim (ℕ_discrete (number_of a) 0) [
  | yes z ↦ rw (eq-eqb (number_of a) 0 z) (sound_then rs (judged_later rs ts j) (done_sound d {rs = []} h.answer z) (judged rs ts j))
  | no z ↦ rw (ne_eqb (number_of a) 0 z) (unsound_first rs (judged_later rs ts j) h z)
]

pub sound_answered : {d : Dispatcher} → Sound d → Answered (unsound_refusals d) d (Ok tt)
sound_answered {d} S = done_answered d (sound_answers d S)
