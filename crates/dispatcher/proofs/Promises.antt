-- What is known where a call is done.
use Prim.Native.Nat.{ℕ, ◌<◌}
use mathlib.Core.Path.{◌≡◌, refl}
use mathlib.Core.Logic.{◌≢◌, inl}
use Rattle.std.specs.Prelude.{Err}
use mathlib.Core.List.{List, ◌∷◌, ◌++◌}
use native.Mathlib.Decide.{dec_lt}
use native.Mathlib.Omega.{arith}
use Rattle.laws.specs.Answering.{Refusal, ◌when◌, Answers}
use Rattle.laws.proofs.Answering.{none_applies}
use Rattle.dispatcher.specs.Limits.{slot_limit}
use Rattle.dispatcher.specs.Answers.{Answer, number_of}
use Rattle.dispatcher.specs.Refusals.{IsAbove}
use Rattle.dispatcher.specs.Unsound.{unsound_refusals}
use Rattle.dispatcher.specs.Reports.{still_of}
use Rattle.dispatcher.specs.Promise.{Answered, Promised}
use Rattle.dispatcher.specs.declared.Refusal.{Refusal as Reason}
use Rattle.dispatcher.specs.declared.Dispatcher.{Dispatcher}
use Rattle.dispatcher.specs.declared.Outcome.{Outcome}
use Rattle.dispatcher.proofs.Unsound.{later_points, done_own}
use Rattle.dispatcher.proofs.Same.{refusal_positive}

-- where a slot that is named is not refused, there is such a slot
pub slot_below : {slot : ℕ} {rs : List Refusal} {n : ℕ} → Answers (3 when IsAbove slot ∷ rs) n → n ≡ 0 → slot < slot_limit
slot_below {slot} h z = elim (dec_lt slot slot_limit) [ yes l ↦ l | no l ↦ absurd (none_applies h z 3 (inl (refl, omega arith))) ]

-- and so where a call that names it is done
pub called_below : (d : Dispatcher) {slot : ℕ} {rs : List Refusal} {n : ℕ} → Answers (unsound_refusals d ++ (3 when IsAbove slot ∷ rs)) n → n ≡ 0 → slot < slot_limit
called_below d {slot} {rs} h z = slot_below (done_own d (3 when IsAbove slot ∷ rs) h z) refl

-- ---- the two ends of a call

pub refused : {rs : List Refusal} {d : Dispatcher} {Does : Outcome → Type 0} {r : Outcome} (a : Answer) → Answered rs d a → number_of a ≢ 0 → r ≡ record { report = still_of a; dispatcher = d }
    → Promised rs d Does r
refused a h z q = rw q (record { answer = h.answer; place = h.place; done = λ y. absurd (z y); kept = λ _. refl; still = λ _. refl })

pub refused_for : {rs : List Refusal} {d : Dispatcher} {Does : Outcome → Type 0} {o : Outcome} (r : Reason) → Answered rs d (Err r) → o ≡ record { report = still_of (Err r); dispatcher = d }
    → Promised rs d Does o
refused_for r h q = refused (Err r) h (refusal_positive r) q

pub accepted : {rs : List Refusal} {d : Dispatcher} {Does : Outcome → Type 0} {r : Outcome} → Answers rs 0 → number_of r.report.answer ≡ 0 → Does r → Promised rs d Does r
accepted {d = d} {r = r} h z q = record { answer = rw z h; place = later_points d r.report.answer (rw z (omega arith)); done = λ _. q; kept = λ n. absurd (n z); still = λ n. absurd (n z) }
