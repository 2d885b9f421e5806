-- Any two results that a promise allows are the same.
use Prim.Native.Nat.{ℕ}
use mathlib.Core.Path.{◌≡◌, refl, sym, ap, ◌∙◌}
use mathlib.Core.Logic.{◌≢◌}
use mathlib.Core.Bool.{cond}
use Rattle.std.specs.Prelude.{Ok, Err}
use mathlib.Core.List.{List}
use native.Mathlib.Decide.{ℕ_discrete}
use native.Mathlib.Omega.{arith}
use lib.Dec.{eqb}
use Rattle.laws.specs.Lists.{All}
use Rattle.laws.specs.Answering.{Refusal, Answers}
use Rattle.laws.proofs.Answering.{AllLater, answers_same}
use Rattle.dispatcher.specs.Answers.{Answer, refusal_number, number_of, place_of, unused_numbers}
use Rattle.dispatcher.specs.Reports.{still_of}
use Rattle.dispatcher.specs.Promise.{Answered, Promised}
use Rattle.dispatcher.specs.Fresh.{fresh_refusals, Freshly}
use Rattle.dispatcher.specs.declared.Refusal.{Refusal as Reason}
use Rattle.dispatcher.specs.declared.Refusal.TheVariants.{UnsoundCount, UnsoundSlot, UnsoundPlace, UnsoundMissingCore, UnsoundSeat, CoreCount, SlotAbove, SlotInUse, SlotEmpty, PriorityZero, MaskEmpty, MissingCore, AlreadyReady, NotReady, FileShort, BytesAfter, BadKind, LineLong, EventCount}
use Rattle.dispatcher.specs.declared.Dispatcher.{Dispatcher}
use Rattle.dispatcher.specs.declared.Outcome.{Outcome}
use Rattle.dispatcher.proofs.Unsound.{IsLater, points_same, later_place, later_answer}

-- ---- a number belongs to one answer, but for the place

refusal_of : ℕ → ℕ → Reason
refusal_of n p =
    cond (eqb n 21) (UnsoundCount p) (cond (eqb n 22) (UnsoundSlot p) (cond (eqb n 23) (UnsoundPlace p)
    (cond (eqb n 24) (UnsoundMissingCore p) (cond (eqb n 25) (UnsoundSeat p) (cond (eqb n 2) CoreCount (cond (eqb n 3) SlotAbove
    (cond (eqb n 4) SlotInUse (cond (eqb n 5) SlotEmpty (cond (eqb n 6) PriorityZero (cond (eqb n 7) MaskEmpty
    (cond (eqb n 8) MissingCore (cond (eqb n 9) AlreadyReady (cond (eqb n 10) NotReady (cond (eqb n 12) FileShort
    (cond (eqb n 13) BytesAfter (cond (eqb n 14) BadKind (cond (eqb n 15) LineLong EventCount)))))))))))))))))

answer_of : ℕ → ℕ → Answer
answer_of n p = cond (eqb n 0) (Ok tt) (Err (refusal_of n p))

answer_back : (a : Answer) → answer_of (number_of a) (place_of a) ≡ a
unfolding answer_of refusal_of
answer_back (Ok done) = refl
answer_back (Err (UnsoundCount p)) = refl
answer_back (Err (UnsoundSlot p)) = refl
answer_back (Err (UnsoundPlace p)) = refl
answer_back (Err (UnsoundMissingCore p)) = refl
answer_back (Err (UnsoundSeat p)) = refl
answer_back (Err CoreCount) = refl
answer_back (Err SlotAbove) = refl
answer_back (Err SlotInUse) = refl
answer_back (Err SlotEmpty) = refl
answer_back (Err PriorityZero) = refl
answer_back (Err MaskEmpty) = refl
answer_back (Err MissingCore) = refl
answer_back (Err AlreadyReady) = refl
answer_back (Err NotReady) = refl
answer_back (Err FileShort) = refl
answer_back (Err BytesAfter) = refl
answer_back (Err BadKind) = refl
answer_back (Err LineLong) = refl
answer_back (Err EventCount) = refl

pub answer_is : {a b : Answer} → number_of a ≡ number_of b → place_of a ≡ place_of b → a ≡ b
answer_is {a} {b} e p = sym (answer_back a) ∙ rw (e, p) (answer_back b)

-- no refusal has the number of done
pub refusal_positive : (r : Reason) → refusal_number r ≢ 0
unfolding answer_of
refusal_positive r z = let e = rw z at (answer_back (Err r)) in cc

-- done, or refused for another reason than that the dispatcher is not sound
pub number_same : {a b : Answer} → IsLater (number_of a) → number_of a ≡ number_of b → a ≡ b
number_same {a} {b} l e = answer_is e (later_place a l ∙ sym (later_place b (rw (← e) l)))

pub done_is : {a : Answer} → number_of a ≡ 0 → a ≡ Ok tt
done_is {a = Ok done} z = refl
done_is {a = Err r} z = absurd (refusal_positive r z)

-- an unused number belongs to none
pub unused_never : (a : Answer) → All (λ n. number_of a ≢ n) unused_numbers
unfolding answer_of refusal_of
unused_never a = (off _ (omega arith) (λ p. refl), (off _ (omega arith) (λ p. refl), tt))
  where
    off : (n : ℕ) → n ≢ 16 → ((p : ℕ) → answer_of n p ≡ Err EventCount) → number_of a ≢ n
    off n other out e = let k = ap number_of (sym (answer_back a) ∙ ap (λ m. answer_of m (place_of a)) e ∙ out (place_of a)) in other (sym e ∙ k)

-- ---- a list of refusals allows one answer

pub answered_same : {rs : List Refusal} {d : Dispatcher} {a b : Answer} → Answered rs d a → Answered rs d b → a ≡ b
answered_same {d = d} {a} {b} p q = let e = answers_same p.answer q.answer in answer_is e (points_same p.place (rw (← e) at q.place))

-- where none of the rows is checked first the number is enough
pub answer_same : (rs : List Refusal) {a b : Answer} → AllLater rs → Answers rs (number_of a) → Answers rs (number_of b) → a ≡ b
answer_same rs {a} later p q = number_same (later_answer rs (number_of a) later p) (answers_same p q)

-- ---- fresh

pub outcome_same : {r q : Outcome} → r.report ≡ q.report → r.dispatcher ≡ q.dispatcher → r ≡ q
outcome_same p q = λ i. record { report = p i; dispatcher = q i }

pub freshly_same : {cores : ℕ} {r q : Outcome} → Freshly cores r → Freshly cores q → r ≡ q
freshly_same {cores} {r} {q} a b = outcome_same (a.still ∙ ap still_of same ∙ sym b.still) (elim (ℕ_discrete (number_of r.report.answer) 0) [
  | yes z ↦ a.done z ∙ sym (b.done (rw (← same) z))
  | no z ↦ a.refused z ∙ sym (b.refused (rw (← same) z))
])
  where
    same : r.report.answer ≡ q.report.answer
    same = answer_same (fresh_refusals cores) (omega arith, tt) a.answer b.answer

-- ---- a call on a dispatcher, where what it does when accepted allows one result

pub promised_same : {rs : List Refusal} {d : Dispatcher} {Does : Outcome → Type 0} {r q : Outcome}
    → (r.report.answer ≡ q.report.answer → Does r → Does q → r ≡ q) → Promised rs d Does r → Promised rs d Does q → r ≡ q
promised_same {rs} {d} {r = r} {q = q} done a b = elim (ℕ_discrete (number_of r.report.answer) 0) [
  | yes z ↦ done same (a.done z) (b.done (rw (← same) z))
  | no z ↦ let y : number_of q.report.answer ≢ 0 = rw (← same) z in outcome_same (a.still z ∙ ap still_of same ∙ sym (b.still y)) (a.kept z ∙ sym (b.kept y))
]
  where
    same : r.report.answer ≡ q.report.answer
    same = answered_same {rs = rs} {d = d} (record { answer = a.answer; place = a.place }) (record { answer = b.answer; place = b.place })
