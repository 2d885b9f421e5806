-- What is not false holds: each part of soundness is decided by a test.
use Prim.Native.Nat.{ℕ}
use mathlib.Core.Path.{◌≡◌, refl}
use mathlib.Core.Logic.{◌⊎◌, inl, inr}
use mathlib.Core.Bool.{Bool, true, false}
use native.Mathlib.Decide.{ℕ_discrete, dec_le, dec_lt}
use Rattle.laws.proofs.Deciding.{cases}
use Rattle.masks.specs.Masks.{has}
use Rattle.dispatcher.specs.Limits.{core_limit, slot_limit, none, greatest_priority}
use Rattle.dispatcher.specs.Slots.{task_at, order_at, seat_at, Ready}
use Rattle.dispatcher.specs.Sound.{CountLegal, SlotsLegal, OrderKept, MissingIdle, SeatsKept}
use Rattle.dispatcher.specs.declared.Dispatcher.{Dispatcher}
use Rattle.dispatcher.proofs.Testing.{ready_test, ready_decides}

pub by_dec : {P : Type 0} → Dec P → ((P → ⊥) → ⊥) → P
by_dec (yes p) h = p
by_dec (no n) h = absurd (h n)

by_bool : (b : Bool) → ((b ≡ true → ⊥) → ⊥) → b ≡ true
by_bool true h = refl
by_bool false h = absurd (h (λ y. cc))

-- the task in a slot is ready, or it is not
pub ready_or_not : (d : Dispatcher) (s : ℕ) → Ready d s ⊎ (Ready d s → ⊥)
ready_or_not d s = elim (cases (ready_test d s)) [ inl y ↦ inl ((ready_decides d s).yes y) | inr n ↦ inr ((ready_decides d s).no n) ]

pub not_unready : (d : Dispatcher) (s : ℕ) → ((Ready d s → ⊥) → ⊥) → Ready d s
not_unready d s h = elim (ready_or_not d s) [ inl r ↦ r | inr n ↦ absurd (h n) ]

-- ---- a condition that is not broken holds

module _ (d : Dispatcher) where
  pub count_stable : ((CountLegal d → ⊥) → ⊥) → CountLegal d
  count_stable h = (by_dec (dec_le 1 d.cores) (λ n. h (λ S. n S.0)), by_dec (dec_le d.cores core_limit) (λ n. h (λ S. n S.1)))

  pub slots_stable : ((SlotsLegal d → ⊥) → ⊥) → SlotsLegal d
  slots_stable h = λ s l u. record {
    priority = (by_dec (dec_le 1 (task_at d s).priority) (λ n. h (λ S. n (S s l u).priority.0)), by_dec (dec_le (task_at d s).priority greatest_priority) (λ n. h (λ S. n (S s l u).priority.1)));
    mask = record { not_empty = λ e. h (λ S. (S s l u).mask.not_empty e); none_missing = λ k b. by_dec (dec_lt k d.cores) (λ n. h (λ S. n ((S s l u).mask.none_missing k b))) };
  }

  pub order_stable : ((OrderKept d → ⊥) → ⊥) → OrderKept d
  order_stable h = λ k l o. record {
    slot = by_dec (dec_lt (order_at d k) slot_limit) (λ n. h (λ S. n (S k l o).slot));
    used = λ e. h (λ S. (S k l o).used e);
    not_twice = λ j m e. h (λ S. (S k l o).not_twice j m e);
    no_gap = λ j m e. h (λ S. (S k l o).no_gap j m e);
  }

  pub missing_stable : ((MissingIdle d → ⊥) → ⊥) → MissingIdle d
  missing_stable h = λ c l m. by_dec (ℕ_discrete (seat_at d c) none) (λ n. h (λ S. n (S c l m)))

  pub seats_stable : ((SeatsKept d → ⊥) → ⊥) → SeatsKept d
  seats_stable h = λ c l o. record {
    ready = not_unready d (seat_at d c) (λ n. h (λ S. n (S c l o).ready));
    once = λ b m e. h (λ S. (S c l o).once b m e);
    allowed = by_bool (has (task_at d (seat_at d c)).mask c) (λ n. h (λ S. n (S c l o).allowed));
  }
