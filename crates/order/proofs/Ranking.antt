-- Who comes before whom, as one number: of two ready tasks the one of lower rank comes before, and no two have the same rank.
use Prim.Native.Nat.{ℕ, ◌≤◌, ◌<◌}
use mathlib.Core.Path.{◌≡◌, sym, ◌∙◌}
use mathlib.Core.Logic.{◌⊎◌, inl, inr}
use native.Mathlib.Decide.{ℕ_discrete, dec_lt}
use native.Mathlib.Omega.{arith}
use Rattle.dispatcher.specs.Limits.{slot_limit, greatest_priority}
use Rattle.dispatcher.specs.Slots.{Ready, Shaped}
use Rattle.dispatcher.specs.Sound.{Sound}
use Rattle.dispatcher.specs.declared.Dispatcher.{Dispatcher}
use Rattle.order.specs.ComesBefore.{priority_of, woke_at, ComesBefore}
use Rattle.order.specs.Ranks.{rank_by}
use Rattle.order.proofs.Waking.{woke_stands, ready_priority}

abbrev pub rank_of : Dispatcher → ℕ → ℕ
rank_of d t = rank_by (priority_of d t) (woke_at d t)

-- ---- of two priorities p and q and two places j and k

lower : (p q j k : ℕ) → p ≤ greatest_priority → j < slot_limit → (q < p) ⊎ ((p ≡ q) × (j < k)) → rank_by p j < rank_by q k
lower p q j k byte small (inl h) = omega arith
lower p q j k byte small (inr (e, h)) = omega arith

higher : (p q j k : ℕ) → q ≤ greatest_priority → k < slot_limit → rank_by p j < rank_by q k → (q < p) ⊎ ((p ≡ q) × (j < k))
higher p q j k byte small h = go (dec_lt q p) (ℕ_discrete p q)
  where
    go : Dec (q < p) → Dec (p ≡ q) → (q < p) ⊎ ((p ≡ q) × (j < k))
    go (yes l) e = inl l
    go (no l) (yes e) = inr (e, omega arith)
    go (no l) (no e) = absurd (omega arith)

same : (p q j k : ℕ) → p ≤ greatest_priority → q ≤ greatest_priority → j < slot_limit → k < slot_limit → rank_by p j ≡ rank_by q k → j ≡ k
same p q j k a b c d h = omega arith

-- ---- of two tasks

module _ {d : Dispatcher} {t u : ℕ} (S : Sound d) (L : Shaped d) (rt : Ready d t) (ru : Ready d u) where
  pub rank_before : ComesBefore d t u → rank_of d t < rank_of d u
  rank_before = lower (priority_of d t) (priority_of d u) (woke_at d t) (woke_at d u) (ready_priority S rt).1 (woke_stands L rt).0

  pub before_rank : rank_of d t < rank_of d u → ComesBefore d t u
  before_rank = higher (priority_of d t) (priority_of d u) (woke_at d t) (woke_at d u) (ready_priority S ru).1 (woke_stands L ru).0

  pub rank_once : rank_of d t ≡ rank_of d u → t ≡ u
  rank_once h = sym (woke_stands L rt).1 ∙ rw together (woke_stands L ru).1
    where
      together : woke_at d t ≡ woke_at d u
      together = same (priority_of d t) (priority_of d u) (woke_at d t) (woke_at d u) (ready_priority S rt).1 (ready_priority S ru).1 (woke_stands L rt).0 (woke_stands L ru).0 h

pub before_not_back : (d : Dispatcher) (t u : ℕ) → ComesBefore d t u → ComesBefore d u t → ⊥
before_not_back d t u (inl a) (inl b) = omega arith
before_not_back d t u (inl a) (inr (e, b)) = omega arith
before_not_back d t u (inr (e, a)) (inl b) = omega arith
before_not_back d t u (inr (e, a)) (inr (f, b)) = omega arith
