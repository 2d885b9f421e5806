-- The last task on some cores, and the first waiting task that reaches some cores.
use Rattle.std.specs.Prelude.{ℕ, ◌<◌, ◌≡◌, ◌≢◌, Bool, true, false, not, ◌&&◌, eqb, leb, Option, MatchOption}
use Rattle.std.specs.Int.Bits.{bit_and}
use Rattle.laws.specs.Decides.{Decides}
use Rattle.laws.specs.Pick.{Picked}
use Rattle.masks.specs.Masks.{has}
use Rattle.dispatcher.specs.Limits.{slot_limit, none}
use Rattle.dispatcher.specs.Slots.{task_at, seat_at}
use Rattle.dispatcher.specs.declared.Dispatcher.{Dispatcher}
use Rattle.order.specs.ComesBefore.{priority_of, woke_at}
use Rattle.order.specs.Ranks.{rank_by}
use Rattle.shifting.specs.Board.{Waits, Lent}

abbrev pub rank_at : Dispatcher → ℕ → ℕ
rank_at d t = rank_by (priority_of d t) (woke_at d t)

-- of the numbers below m that pass the test f, r is the last by an order; or none passes
abbrev pub PicksOf : (ℕ → ℕ → Bool) → (ℕ → Bool) → ℕ → Option ℕ → Type 0
PicksOf le f m r = MatchOption r ((c : ℕ) → c < m → f c ≡ false) (Picked le f m)

-- of the cores in the mask, all of them held, r is the one with the last task, if the mask has one
abbrev pub LastOn : Dispatcher → ℕ → Option ℕ → Type 0
LastOn d seen r = PicksOf (λ a b. leb (rank_at d (seat_at d a)) (rank_at d (seat_at d b))) (has seen) d.cores r

-- the cores in the mask are below the count, and held
pub record Held (d : Dispatcher) (seen : ℕ) : Type 0 where
  pub lent : Lent d
  pub below : (c : ℕ) → has seen c ≡ true → c < d.cores
  pub held : (c : ℕ) → has seen c ≡ true → seat_at d c ≢ none

-- a slot is on no core, and its mask meets the cores in lead
abbrev pub seek_test : ℕ → ℕ → ℕ → Bool
seek_test mask core lead = eqb core none && not (eqb (bit_and mask lead) 0)

-- of the waiting tasks whose mask meets the cores in lead, r is the first, if there is one
pub record FirstSeeking (d : Dispatcher) (lead : ℕ) (r : Option ℕ) : Type 0 where
  pub test : ℕ → Bool
  pub tells : (w : ℕ) → w < slot_limit → Decides (Waits d w × (bit_and (task_at d w).mask lead ≢ 0)) (test w)
  pub picks : PicksOf (λ a b. leb (rank_at d b) (rank_at d a)) test slot_limit r
