-- The number whose turn comes first, found by tests: the first of a list of tests that is true names the answer.
use Prim.Native.Nat.{ℕ, zero, suc, ◌≤◌, ◌<◌}
use mathlib.Core.Path.{◌≡◌, refl}
use mathlib.Core.Logic.{inl, inr}
use mathlib.Core.Bool.{Bool, cond}
use Rattle.std.specs.Prelude.{Ok}
use mathlib.Core.List.{List, [], ◌∷◌}
use native.Mathlib.Omega.{arith}
use lib.ListN.{length}
use Rattle.laws.specs.Decides.{Decides}
use Rattle.laws.specs.Answering.{Refusal, Applies, checked_first, turn_of, Answers}
use Rattle.laws.proofs.Deciding.{cases}
use Rattle.laws.proofs.Answering.{AllLater}
use Rattle.dispatcher.specs.Answers.{Answer, number_of}

pub record Test : Type 0 where
  pub found : Bool
  pub gives : Answer

abbrev pub test : Bool → Answer → Test
test b a = record { found = b; gives = a }

unfoldable pub first_of : List Test → Answer
first_of [] = Ok tt
first_of (t ∷ ts) = let rest = first_of ts in cond t.found t.gives rest

-- the tests are those of the rows, in the rows' order, and the rows' turns come one after the other, after b
abbrev Judges : ℕ → List Refusal → List Test → Type 0
Judges b [] [] = Unit {0}
Judges b [] (t ∷ ts) = ⊥
Judges b (r ∷ rs) [] = ⊥
Judges b (r ∷ rs) (t ∷ ts) = (Decides r.cause t.found) × (r.number ≡ number_of t.gives) × (b < turn_of r.number) × Judges (turn_of r.number) rs ts

applies_above : (b : ℕ) (rs : List Refusal) (ts : List Test) (n : ℕ) → Judges b rs ts → Applies rs n → b < turn_of n
applies_above b [] ts n j a = absurd a
applies_above b (r ∷ rs) [] n j a = absurd j
applies_above b (r ∷ rs) (t ∷ ts) n j (inl (e, c)) = rw e j.2
applies_above b (r ∷ rs) (t ∷ ts) n j (inr a) = omega (arith, j.2, applies_above (turn_of r.number) rs ts n j.3 a)

-- the first row's cause holds, and the turns of the later rows come later; or it does not hold
taken : {r : Refusal} {rs : List Refusal} → r.cause → 0 < r.number → ((m : ℕ) → Applies rs m → turn_of r.number < turn_of m) → Answers (r ∷ rs) r.number
taken {r} c p above = record { listed = λ _. inl (refl, c); first = λ m a. (p, elim a [ inl e ↦ rw e.0 (omega arith) | inr b ↦ omega (arith, above m b) ]) }

passed : {r : Refusal} {rs : List Refusal} {n : ℕ} → (r.cause → ⊥) → Answers rs n → Answers (r ∷ rs) n
passed fails h = record { listed = λ z. inr (h.listed z); first = λ m a. elim a [ inl e ↦ absurd (fails e.1) | inr b ↦ h.first m b ] }

-- a turn that comes after the first ones is no turn of 0
positive : (n : ℕ) → length checked_first < turn_of n → 0 < n
positive zero l = absurd (omega arith)
positive (suc n) l = omega arith

judged_after : (b : ℕ) (rs : List Refusal) (ts : List Test) → length checked_first ≤ b → Judges b rs ts → Answers rs (number_of (first_of ts))
unfolding first_of
judged_after b [] [] later j = record { listed = λ n. absurd (n refl); first = λ m a. absurd a }
judged_after b [] (t ∷ ts) later j = absurd j
judged_after b (r ∷ rs) [] later j = absurd j
judged_after b (r ∷ rs) (t ∷ ts) later j = elim (cases t.found) [
  | inl y ↦ rw (y, ← j.1) (taken (j.0.yes y) (positive r.number (omega (arith, later, j.2))) (λ m a. applies_above (turn_of r.number) rs ts m j.3 a))
  | inr n ↦ rw n (passed (j.0.no n) (judged_after (turn_of r.number) rs ts (omega (arith, later, j.2)) j.3))
]

-- rows of which none is checked first, judged by their tests
abbrev pub JudgedBy : List Refusal → List Test → Type 0
JudgedBy rs ts = Judges (length checked_first) rs ts

pub judged : (rs : List Refusal) (ts : List Test) → JudgedBy rs ts → Answers rs (number_of (first_of ts))
judged rs ts j = judged_after (length checked_first) rs ts (omega arith) j

judges_later : (b : ℕ) (rs : List Refusal) (ts : List Test) → length checked_first ≤ b → Judges b rs ts → AllLater rs
judges_later b [] ts later j = tt
judges_later b (r ∷ rs) [] later j = absurd j
judges_later b (r ∷ rs) (t ∷ ts) later j = (omega (arith, later, j.2), judges_later (turn_of r.number) rs ts (omega (arith, later, j.2)) j.3)

pub judged_later : (rs : List Refusal) (ts : List Test) → JudgedBy rs ts → AllLater rs
judged_later rs ts j = judges_later (length checked_first) rs ts (omega arith) j
