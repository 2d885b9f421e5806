-- Any two shifts that the promise of `arrive` or of `fill` allows are the same.
use Rattle.std.proofs.Common.{ℕ, ◌≡◌, sym, ◌∙◌, length, ext_get_or}
use Rattle.seating.proofs.Once.{arrives_same, fills_same}
use Rattle.dispatcher.specs.Limits.{core_limit, none}
use Rattle.dispatcher.specs.declared.Dispatcher.{Dispatcher}
use Rattle.order.proofs.Ranking.{before_not_back}
use Rattle.shifting.specs.Shifts.{seat_on, Arrived, Refilled}
use Rattle.shifting.specs.declared.Shift.{Shift}

shift_same : {r q : Shift} → length r.seats ≡ core_limit → length q.seats ≡ core_limit → ((c : ℕ) → seat_on r c ≡ seat_on q c) → r.moves ≡ q.moves → r.started ≡ q.started → r.stopped ≡ q.stopped → r ≡ q
shift_same {r} {q} m n each a b c = λ i. record { seats = ext_get_or none r.seats q.seats (m ∙ sym n) (λ c _. each c) i; moves = a i; started = b i; stopped = c i }

pub arrived_same : (d : Dispatcher) {x : ℕ} {r q : Shift} → length r.seats ≡ core_limit → length q.seats ≡ core_limit → Arrived d x r → Arrived d x q → r ≡ q
arrived_same d m n a b = let s = arrives_same (before_not_back d) a b in shift_same m n s.0 s.1 s.2 s.3

pub refilled_same : (d : Dispatcher) {z : ℕ} {r q : Shift} → length r.seats ≡ core_limit → length q.seats ≡ core_limit → Refilled d z r → Refilled d z q → r ≡ q
refilled_same d m n a b = let s = fills_same (before_not_back d) a.0 b.0 in shift_same m n s.0 s.1 s.2 (a.1 ∙ sym b.1)
