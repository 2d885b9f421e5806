-- Of the tasks that are left in the wake order, the first by priority along it is the one that comes before the rest.
use Prim.Native.Nat.{ℕ, ◌≤◌, ◌<◌}
use mathlib.Core.Path.{◌≡◌}
use mathlib.Core.Logic.{◌≢◌, ◌⊎◌, inl, inr}
use mathlib.Core.List.{List}
use Rattle.std.specs.Prelude.{Option, Some, None, MatchOption}
use native.Mathlib.Decide.{ℕ_discrete, dec_lt}
use native.Mathlib.Omega.{arith}
use lib.ListN.{get_or}
use Rattle.dispatcher.specs.Limits.{slot_limit, none}
use Rattle.dispatcher.specs.Slots.{order_at, Ready}
use Rattle.dispatcher.specs.declared.Dispatcher.{Dispatcher}
use Rattle.order.specs.ComesBefore.{priority_of, ComesBefore}
use Rattle.order.proofs.Waking.{ready_priority}
use Rattle.order.proofs.Ranking.{before_rank}
use Rattle.shifting.specs.Picking.{rank_at}
use Rattle.shifting.proofs.Along.{stands_ready, stays_ahead, falls_behind}
use Rattle.engine.specs.Turns.{LeftOf, FirstLeft}

abbrev pub left_at : List ℕ → ℕ → ℕ
left_at left k = get_or left k none

-- of the places below k that are in use, the first with the highest priority; none and 0 where none is in use
pub record FirstTo (d : Dispatcher) (left : List ℕ) (k : ℕ) (first : Option ℕ) (highest : ℕ) : Type 0 where
  pub upto : k ≤ slot_limit
  pub found : MatchOption first (highest ≡ 0) (λ f. (f < k) × (left_at left f ≢ none) × (priority_of d (left_at left f) ≡ highest))
  pub most : (j : ℕ) → j < k → left_at left j ≢ none → (priority_of d (left_at left j) < highest) ⊎ ((priority_of d (left_at left j) ≡ highest) × MatchOption first ⊥ (λ f. f ≤ j))

module _ {d : Dispatcher} {left : List ℕ} (F : LeftOf d left) where
  -- a place in use has a ready task
  pub left_ready : {k : ℕ} → k < slot_limit → left_at left k ≢ none → Ready d (left_at left k)
  left_ready {k} l u = rw (F.same k u) (stands_ready F.shaped F.sound l (rw (F.same k u) at u))

  left_priority : {k : ℕ} → k < slot_limit → left_at left k ≢ none → 1 ≤ priority_of d (left_at left k)
  left_priority l u = (ready_priority F.sound (left_ready l u)).0

  -- at the end
  pub first_all : {k highest : ℕ} (first : Option ℕ) → slot_limit ≤ k → FirstTo d left k first highest → FirstLeft d left first
  first_all None e T = λ j l. unused j l (ℕ_discrete (left_at left j) none)
    where
      unused : (j : ℕ) → j < slot_limit → Dec (left_at left j ≡ none) → left_at left j ≡ none
      unused j l (yes q) = q
      unused j l (no q) = let p = left_priority l q in elim (T.most j (omega arith) q) [ inl a ↦ absurd (omega (arith, T.found)) | inr a ↦ absurd a.1 ]
  first_all {highest = highest} (Some first) e T = record { below = below; used = T.found.1; rest = rest }
    where
      below : first < slot_limit
      below = omega (arith, T.upto, T.found.0)

      rest : (j : ℕ) → j < slot_limit → left_at left j ≢ none → j ≢ first → ComesBefore d (left_at left first) (left_at left j)
      rest j l v o = before_rank F.sound F.shaped (left_ready below T.found.1) (left_ready l v) (rw (F.same first T.found.1, F.same j v) (ranks (dec_lt j first) (T.most j (omega arith) v)))
        where
          ranks : Dec (j < first) → (priority_of d (left_at left j) < highest) ⊎ ((priority_of d (left_at left j) ≡ highest) × (first ≤ j)) → rank_at d (order_at d first) < rank_at d (order_at d j)
          ranks (yes b) (inl a) = falls_behind F.shaped F.sound b below (rw (F.same first T.found.1) at T.found.1) (rw (← F.same first T.found.1, ← F.same j v) (omega (arith, a, T.found.2)))
          ranks (yes b) (inr a) = absurd (omega (arith, a.1))
          ranks (no b) a =
              stays_ahead F.shaped F.sound (omega arith) l (rw (F.same j v) at v) (rw (← F.same first T.found.1, ← F.same j v) (elim a [ inl x ↦ omega (arith, x, T.found.2) | inr x ↦ omega (arith, x.0, T.found.2) ]))
