-- Demands 2 and 3 after any sequence of calls on a fresh dispatcher; and that a refusal has its listed cause.
use Prim.Native.Nat.{ℕ}
use mathlib.Core.Path.{◌≡◌}
use mathlib.Core.Logic.{◌≢◌, ◌↔◌}
use mathlib.Core.List.{List, [], ◌∷◌, ◌++◌}
use native.Mathlib.Omega.{arith}
use lib.ListN.{length}
use Rattle.laws.specs.Lists.{In}
use Rattle.laws.specs.Answering.{Refusal, ◌when◌, Applies, checked_first}
use Rattle.laws.proofs.Answering.{AllLater, from_applies}
use Rattle.seating.specs.Running.{Running}
use Rattle.seating.proofs.Ranks.{keeps_same}
use Rattle.dispatcher.specs.Limits.{none}
use Rattle.dispatcher.specs.Slots.{seat_at, Ready, Shaped}
use Rattle.dispatcher.specs.Sound.{Sound}
use Rattle.dispatcher.specs.Answers.{number_of}
use Rattle.dispatcher.specs.Fresh.{Freshly}
use Rattle.dispatcher.specs.Refusals.{IsAlreadyReady, IsNotReady}
use Rattle.dispatcher.specs.Unsound.{unsound_refusals}
use Rattle.dispatcher.specs.declared.Dispatcher.{Dispatcher}
use Rattle.dispatcher.specs.declared.Outcome.{Outcome}
use Rattle.dispatcher.proofs.Unsound.{not_first, sound_own, unsound_told}
use Rattle.dispatcher.proofs.Freshness.{freshly_keeps}
use Rattle.shifting.specs.Rule.{KeepsIn, LeastIn}
use Rattle.shifting.proofs.Board.{ranked}
use Rattle.tasks.specs.Named.{slot_refusals}
use Rattle.tasks.specs.Create.{entry_refusals}
use Rattle.tasks.proofs.Model.{entry_later, slot_later}
use Rattle.boot.specs.Load.{list_refusals}
use Rattle.boot.proofs.Refusing.{list_later}
use Rattle.calls.specs.Call.{Call, create, delete, load, wake, block, Does, refusals_of}
use Rattle.calls.specs.Sequence.{Step, After}
use Rattle.calls.specs.Woken.{WokenSince}
use Rattle.calls.specs.Demands.{Demand2}
use Rattle.calls.proofs.Calling.{does_keeps}
use Rattle.calls.proofs.Ruling.{fresh_ready, fresh_rule, does_rule}
use Rattle.calls.proofs.Since.{none_since, since_ready}

-- ---- after any sequence

pub sound_after : (n : ℕ) (l : List Step) (d : Dispatcher) → After n l d → Shaped d × Sound d
sound_after n [] d (r, f, e) = rw e (freshly_keeps f)
sound_after n (s ∷ l) d (b, h, fits, does, e) = let k = sound_after n l b h in rw e (does_keeps s.call s.outcome fits k.0 k.1 does)

rule_after : (n : ℕ) (l : List Step) (d : Dispatcher) → After n l d → KeepsIn d (seat_at d)
rule_after n [] d (r, f, e) = rw e (fresh_rule f)
rule_after n (s ∷ l) d (b, h, fits, does, e) = let k = sound_after n l b h in rw e (does_rule s.call s.outcome k.0 k.1 (rule_after n l b h) does).0

ready_first : {n : ℕ} (d : Dispatcher) (t : ℕ) (r : Outcome) → Freshly n r → d ≡ r.dispatcher → Ready d t ↔ WokenSince [] t
ready_first d t r f e = rw e ((λ q. absurd (fresh_ready f t q)), λ w. absurd (none_since t w))

ready_next : (s : Step) (l : List Step) (b d : Dispatcher) (t : ℕ) → Shaped b → Sound b → Does s.call b s.outcome → d ≡ s.outcome.dispatcher → Ready b t ↔ WokenSince l t
    → Ready d t ↔ WokenSince (s ∷ l) t
ready_next s l b d t L S does e same = rw e (since_ready s l b t L S does same)

ready_after : (n : ℕ) (l : List Step) (d : Dispatcher) → After n l d → (t : ℕ) → Ready d t ↔ WokenSince l t
ready_after n [] d h t = ready_first d t h.0 h.1 h.2
ready_after n (s ∷ l) d h t = let k = sound_after n l h.0 h.1 in ready_next s l h.0 d t k.0 k.1 h.3 h.4 (ready_after n l h.0 h.1 t)

pub demand_2 : (n : ℕ) (l : List Step) (d : Dispatcher) → After n l d → Demand2 l d
demand_2 n l d h = record { ready = ready_after n l d h; seats = rule_after n l d h }

pub demand_3 : (n : ℕ) (l : List Step) (d : Dispatcher) (c : Call) (r : Outcome) → After n l d → Does c d r → number_of r.report.answer ≡ 0
    → LeastIn r.dispatcher (seat_at d) (seat_at r.dispatcher) r.report.moves
demand_3 n l d c r h does = let k = sound_after n l d h in (does_rule c r k.0 k.1 (rule_after n l d h) does).1

-- ---- refusals

pub refused_with_cause : (c : Call) (d : Dispatcher) (r : Outcome) → Does c d r → number_of r.report.answer ≢ 0 → Applies (refusals_of c d) (number_of r.report.answer)
refused_with_cause (create slot priority mask) d r h = h.answer.listed
refused_with_cause (delete slot) d r h = h.answer.listed
refused_with_cause (load list) d r h = h.answer.listed
refused_with_cause (wake slot) d r h = h.answer.listed
refused_with_cause (block slot) d r h = h.answer.listed

-- whatever else applies, a dispatcher that is not sound is refused for that
pub unsound_before_all : (c : Call) (d : Dispatcher) (r : Outcome) → Does c d r → (Sound d → ⊥) → In (number_of r.report.answer) checked_first
unsound_before_all (create slot priority mask) d r h = unsound_told d h.answer
unsound_before_all (delete slot) d r h = unsound_told d h.answer
unsound_before_all (load list) d r h = unsound_told d h.answer
unsound_before_all (wake slot) d r h = unsound_told d h.answer
unsound_before_all (block slot) d r h = unsound_told d h.answer

-- on a sound dispatcher none of the numbers that are checked first applies
unsound_never : {d : Dispatcher} (rs : List Refusal) → AllLater rs → Sound d → (n : ℕ) → In n checked_first → Applies (unsound_refusals d ++ rs) n → ⊥
unsound_never {d} rs later S n i a = not_first n (from_applies (length checked_first) rs n later (sound_own d S rs n a)) i

pub never_unsound : (n : ℕ) (l : List Step) (d : Dispatcher) (c : Call) (r : Outcome) → After n l d → Does c d r → In (number_of r.report.answer) checked_first → ⊥
never_unsound n l d c r h does i = go c (refused_with_cause c d r does (λ z. not_first 0 (omega arith) (rw z at i)))
  where
    S : Sound d
    S = (sound_after n l d h).1

    go : (c : Call) → Applies (refusals_of c d) (number_of r.report.answer) → ⊥
    go (create slot priority mask) = unsound_never (entry_refusals d slot priority mask) (entry_later d slot priority mask) S _ i
    go (delete slot) = unsound_never (slot_refusals d slot) (slot_later d slot) S _ i
    go (load list) = unsound_never (list_refusals d list) (list_later d list) S _ i
    go (wake slot) = unsound_never (slot_refusals d slot ++ (9 when IsAlreadyReady d slot ∷ [])) (grind arith) S _ i
    go (block slot) = unsound_never (slot_refusals d slot ++ (10 when IsNotReady d slot ∷ [])) (grind arith) S _ i

-- ---- who runs is fixed by who is ready

pub same_running : (d : Dispatcher) → Shaped d → Sound d → (s s' : ℕ → ℕ) → KeepsIn d s → KeepsIn d s' → (t : ℕ) → Running d.cores none s t ↔ Running d.cores none s' t
same_running d L S s s' K K' t = (keeps_same (ranked L S) K' K t, keeps_same (ranked L S) K K' t)
