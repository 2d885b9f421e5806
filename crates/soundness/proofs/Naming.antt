-- Document 02, request 3, in its own words: "of two equal entries the later one; for a gap the next used place", for (c), and so for (e).
use Prim.Native.Nat.{ℕ, ◌≤◌, ◌<◌}
use mathlib.Core.Path.{◌≡◌}
use mathlib.Core.Logic.{◌≢◌}
use native.Mathlib.Decide.{dec_lt}
use native.Mathlib.Omega.{arith}
use Rattle.laws.specs.Lowest.{Lowest}
use Rattle.dispatcher.specs.Limits.{core_limit, slot_limit, none}
use Rattle.dispatcher.specs.Slots.{order_at, seat_at}
use Rattle.dispatcher.specs.Sound.{PlaceKept, SeatKept}
use Rattle.dispatcher.specs.declared.Dispatcher.{Dispatcher}

module _ {d : Dispatcher} where
  -- "of two equal entries the later one": places j and k hold one slot
  pub later_entry : {j k : ℕ} → ((i : ℕ) → i < k → PlaceKept d i) → j < k → k < slot_limit → order_at d j ≡ order_at d k → order_at d k ≢ none → Lowest slot_limit (PlaceKept d) k
  later_entry {j} kept l below same held = record { below = below; fails = λ h. (h held).not_twice j l same; lower = kept }

  -- "for a gap the next used place": the gap goes from j up to k
  pub after_gap : {j k : ℕ} → ((i : ℕ) → i < j → PlaceKept d i) → j < k → k < slot_limit → ((i : ℕ) → j ≤ i → i < k → order_at d i ≡ none) → order_at d k ≢ none → Lowest slot_limit (PlaceKept d) k
  after_gap {j} {k} kept l below gap held = record { below = below; fails = λ h. (h held).no_gap j l (gap j (omega arith) l); lower = λ i b. go i b (dec_lt i j) }
    where
      go : (i : ℕ) → i < k → Dec (i < j) → PlaceKept d i
      go i b (yes m) = kept i m
      go i b (no m) = λ n. absurd (n (gap i (omega arith) b))

  -- of two cores with one slot the later one: it sits on b and c
  pub later_seat : {b c : ℕ} → ((a : ℕ) → a < c → SeatKept d a) → b < c → c < core_limit → seat_at d b ≡ seat_at d c → seat_at d c ≢ none → Lowest core_limit (SeatKept d) c
  later_seat {b} kept l below same held = record { below = below; fails = λ h. (h held).once b l same; lower = kept }
