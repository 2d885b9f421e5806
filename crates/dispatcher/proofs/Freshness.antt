-- What fresh returns, as a function of the test of its count; and that it is sound, so usable, refused or not.
use Prim.Native.Nat.{ℕ}
use mathlib.Core.Path.{◌≡◌, refl}
use mathlib.Core.Logic.{inl, inr}
use mathlib.Core.Bool.{Bool, true, false}
use Rattle.std.specs.Prelude.{Ok, Err}
use mathlib.Core.List.{[], ◌∷◌}
use native.Mathlib.Decide.{ℕ_discrete}
use native.Mathlib.Omega.{arith}
use lib.ListN.{length-replicate, get_or-replicate}
use Rattle.laws.specs.Decides.{Decides}
use Rattle.laws.proofs.Deciding.{cases, decides_not}
use Rattle.laws.proofs.Answering.{none_applies}
use Rattle.dispatcher.specs.Limits.{core_limit, slot_limit, none, LegalCount}
use Rattle.dispatcher.specs.Slots.{no_task, Shaped}
use Rattle.dispatcher.specs.Sound.{Sound}
use Rattle.dispatcher.specs.Answers.{number_of}
use Rattle.dispatcher.specs.Reports.{still_of}
use Rattle.dispatcher.specs.Fresh.{empty_of, fresh_refusals, Freshly}
use Rattle.dispatcher.specs.declared.Refusal.TheVariants.{CoreCount}
use Rattle.dispatcher.specs.declared.Outcome.{Outcome}
use Rattle.dispatcher.proofs.Judging.{test, first_of, judged}
use Rattle.dispatcher.proofs.Testing.{count_test, count_decides}

abbrev pub fresh_of : Bool → ℕ → Outcome
fresh_of true n = record { report = still_of (Ok tt); dispatcher = empty_of n }
fresh_of false n = record { report = still_of (Err CoreCount); dispatcher = empty_of 1 }

pub freshly : {b : Bool} {n : ℕ} → Decides (LegalCount n) b → Freshly n (fresh_of b n)
unfolding first_of
freshly {b = true} {n} l = record {
  answer = judged (fresh_refusals n) (test false (Err CoreCount) ∷ []) (decides_not l, refl, omega arith, tt);
  still = refl;
  done = λ _. refl;
  refused = λ z. absurd (z refl);
}
freshly {b = false} {n} l = record {
  answer = judged (fresh_refusals n) (test true (Err CoreCount) ∷ []) (decides_not l, refl, omega arith, tt);
  still = refl;
  done = λ z. let y : ◌≡◌ {A = ℕ} 2 0 = z in absurd (omega arith);
  refused = λ _. refl;
}

pub empty_sound : {n : ℕ} → LegalCount n → Sound (empty_of n)
empty_sound {n} l = record {
  count = l;
  slots = λ s h u. absurd (u (rw (get_or-replicate slot_limit s no_task no_task h) (refl, refl)));
  order = λ k h o. absurd (o (get_or-replicate slot_limit k none none h));
  missing = λ c h m. get_or-replicate core_limit c none none h;
  seats = λ c h o. absurd (o (get_or-replicate core_limit c none none h));
}

pub empty_shaped : (n : ℕ) → Shaped (empty_of n)
empty_shaped n = record { tasks = length-replicate slot_limit no_task; order = length-replicate slot_limit none; seats = length-replicate core_limit none }

pub freshly_keeps : {cores : ℕ} {r : Outcome} → Freshly cores r → Shaped r.dispatcher × Sound r.dispatcher
freshly_keeps {cores} {r} f = elim (ℕ_discrete (number_of r.report.answer) 0) [
  | yes z ↦ rw (f.done z) (empty_shaped cores, empty_sound (legal z))
  | no z ↦ rw (f.refused z) (empty_shaped 1, empty_sound (omega arith))
]
  where
    legal : number_of r.report.answer ≡ 0 → LegalCount cores
    legal z = elim (cases (count_test cores)) [ inl y ↦ (count_decides cores).yes y | inr n ↦ absurd (none_applies f.answer z 2 (inl (refl, (count_decides cores).no n))) ]
