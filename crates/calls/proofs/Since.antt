-- Who was woken and not since blocked nor deleted, by the latest call and those before it; and who is ready after one call.
use Prim.Native.Nat.{ℕ}
use mathlib.Core.Path.{◌≡◌, refl, ap, subst}
use mathlib.Core.Logic.{◌⊎◌, inl, inr, ◌↔◌}
use mathlib.Core.List.{List, [], ◌∷◌, ◌++◌}
use native.Mathlib.Decide.{ℕ_discrete}
use native.Mathlib.Omega.{arith}
use Rattle.laws.specs.Answering.{Refusal}
use Rattle.dispatcher.specs.Slots.{Ready, Shaped}
use Rattle.dispatcher.specs.Sound.{Sound}
use Rattle.dispatcher.specs.Answers.{number_of}
use Rattle.dispatcher.specs.Promise.{Promised}
use Rattle.dispatcher.specs.declared.Dispatcher.{Dispatcher}
use Rattle.dispatcher.specs.declared.Outcome.{Outcome}
use Rattle.readiness.proofs.Keeping.{wake_ready, block_ready}
use Rattle.calls.specs.Call.{Call, create, delete, load, wake, block, Does}
use Rattle.calls.specs.Sequence.{Step}
use Rattle.calls.specs.Woken.{Woke, DidBlock, DidDelete, Among, WokenSince}
use Rattle.calls.proofs.Ruling.{create_ready, delete_ready, load_ready}

-- ---- the calls that were made

pub none_since : (t : ℕ) → WokenSince [] t → ⊥
none_since t W = go W.later W.split
  where
    go : (later : List Step) → [] ≡ later ++ (W.waking ∷ W.earlier) → ⊥
    go [] e = cc
    go (a ∷ later) e = cc

-- the call blocked t or deleted it
abbrev DidEnd : Step → ℕ → Type 0
DidEnd s t = DidBlock s t ⊎ DidDelete s t

-- the latest call woke t; or t was woken before it, and it did not end t
module _ (s : Step) (l : List Step) (t : ℕ) where
  since_split : WokenSince (s ∷ l) t → Woke s t ⊎ (WokenSince l t × (DidEnd s t → ⊥))
  since_split W = go W.later W.split W.not_since
    where
      go : (later : List Step) → s ∷ l ≡ later ++ (W.waking ∷ W.earlier) → ((a : Step) → Among a later → DidEnd a t → ⊥) → Woke s t ⊎ (WokenSince l t × (DidEnd s t → ⊥))
      go [] e free = let same : W.waking ≡ s = cc e in inl (subst (λ (a : Step). Woke a t) same W.woken)
      go (a ∷ later) e free =
          let rest : l ≡ later ++ (W.waking ∷ W.earlier) = cc e in
          let same : s ≡ a = cc e in
          inr (record { later = later; waking = W.waking; earlier = W.earlier; split = rest; woken = W.woken; not_since = λ b i. free b (inr i) }, free s (inl same))

  since_join : Woke s t ⊎ (WokenSince l t × (DidEnd s t → ⊥)) → WokenSince (s ∷ l) t
  since_join (inl w) = record { later = []; waking = s; earlier = l; split = refl; woken = w; not_since = λ a i. absurd i }
  since_join (inr (W, free)) = record { later = s ∷ W.later; waking = W.waking; earlier = W.earlier; split = ap (λ (x : List Step). s ∷ x) W.split; woken = W.woken; not_since = none }
    where
      none : (a : Step) → Among a (s ∷ W.later) → DidEnd a t → ⊥
      none a (inl e) = rw e free
      none a (inr i) = W.not_since a i

-- ---- who is ready after one call

abbrev step : Call → Outcome → Step
step c r = record { call = c; outcome = r }

-- ready after the call s on d are the slot that it woke, and those who were ready and that it did not end
abbrev ReadyAfter : Step → Dispatcher → ℕ → Type 0
ReadyAfter s d t = Ready s.outcome.dispatcher t ↔ (Woke s t ⊎ (Ready d t × (DidEnd s t → ⊥)))

ended_done : (s : Step) {t : ℕ} → DidEnd s t → number_of s.outcome.report.answer ≡ 0
ended_done s (inl b) = b.1
ended_done s (inr b) = b.1

-- a refused call leaves who is ready
done_or_refused : {rs : List Refusal} {d : Dispatcher} {P : Outcome → Type 0} (s : Step) (t : ℕ) → Promised rs d P s.outcome → (number_of s.outcome.report.answer ≡ 0 → ReadyAfter s d t)
    → ReadyAfter s d t
done_or_refused s t h done = elim (ℕ_discrete (number_of s.outcome.report.answer) 0) [
  | yes z ↦ done z
  | no z ↦ rw (h.kept z) ((λ r. inr (r, λ b. z (ended_done s b))), λ b. elim b [ inl w ↦ absurd (z w.1) | inr r ↦ r.0 ])
]

does_ready : (c : Call) {d : Dispatcher} (r : Outcome) → Shaped d → Sound d → Does c d r → (t : ℕ) → ReadyAfter (step c r) d t
does_ready (create slot priority mask) r L S h t = let same = create_ready S h t in grind arith
does_ready (load list) r L S h t = let same = load_ready S h t in grind arith
does_ready (wake slot) r L S h t = done_or_refused (step (wake slot) r) t h (λ z. let same = wake_ready L S h z t in grind arith)
does_ready (block slot) r L S h t = done_or_refused (step (block slot) r) t h (λ z. let same = block_ready L S h z t in grind arith)
does_ready (delete slot) r L S h t = done_or_refused (step (delete slot) r) t h (λ z. let same = delete_ready L S h z t in grind arith)

pub since_ready : (s : Step) (l : List Step) (d : Dispatcher) (t : ℕ) → Shaped d → Sound d → Does s.call d s.outcome → Ready d t ↔ WokenSince l t
    → Ready s.outcome.dispatcher t ↔ WokenSince (s ∷ l) t
since_ready s l d t L S h same =
    let after : ReadyAfter s d t = does_ready s.call s.outcome L S h t in
    ((λ q. since_join s l t (elim (after.0 q) [ inl w ↦ inl w | inr r ↦ inr (same.0 r.0, r.1) ])), λ w. after.1 (elim (since_split s l t w) [ inl v ↦ inl v | inr r ↦ inr (same.1 r.0, r.1) ]))
