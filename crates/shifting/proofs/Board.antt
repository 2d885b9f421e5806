-- A sound dispatcher in the words of seatings: its seats are a legal seating, its order is a rank, and the table of masks is that of its sitters.
use Rattle.std.proofs.Common.{ℕ, ◌-◌, ◌<◌, ◌≡◌, refl, sym, ap, ◌∙◌, ◌≢◌, Bool, arith, length, get_or}
use native.Mathlib.Decide.{dec_lt}
use Rattle.laws.proofs.Lists.{get_d_beyond}
use Rattle.masks.specs.Masks.{has}
use Rattle.seating.specs.Strong.{Legal}
use Rattle.seating.specs.Taking.{Goes}
use Rattle.seating.proofs.Take.{seats}
use Rattle.seating.proofs.Ranks.{Ranked}
use Rattle.dispatcher.specs.Limits.{core_limit, none}
use Rattle.dispatcher.specs.Slots.{no_task, task_at, seat_at, Ready, Shaped}
use Rattle.dispatcher.specs.Sound.{Sound}
use Rattle.dispatcher.specs.declared.Task.{Task}
use Rattle.dispatcher.specs.declared.Dispatcher.{Dispatcher}
use Rattle.order.specs.ComesBefore.{ComesBefore}
use Rattle.order.proofs.Ranking.{rank_before, before_rank, rank_once}
use Rattle.search.specs.Route.{Found}
use Rattle.search.specs.Taken.{take_list}
use Rattle.search.specs.declared.Route.{Route}
use Rattle.search.specs.declared.Sitters.{Sitters}
use Rattle.search.proofs.Bridge.{Masks, found_goes}
use Rattle.shifting.specs.Board.{may_run}
use Rattle.shifting.specs.Tables.{SittersOf}
use Rattle.shifting.specs.Picking.{rank_at}

pub core_below : {d : Dispatcher} → Sound d → {c : ℕ} → c < d.cores → c < core_limit
core_below S l = omega (arith, S.count.1)

-- the cores at or above the count hold the mark
pub seat_below : {d : Dispatcher} → Sound d → {c : ℕ} → c < core_limit → seat_at d c ≢ none → c < d.cores
seat_below {d} S {c} l q = go (dec_lt c d.cores)
  where
    go : Dec (c < d.cores) → c < d.cores
    go (yes k) = k
    go (no k) = absurd (q (S.missing c l (omega arith)))

pub legal : {d : Dispatcher} → Sound d → Legal d.cores none (may_run d) (Ready d) (seat_at d)
legal {d} S = record { ready = λ c l q. (S.seats c (core_below S l) q).ready; allowed = λ c l q. (S.seats c (core_below S l) q).allowed; once = λ c b l m q e. go c b l m q e (dec_lt c b) (dec_lt b c) }
  where
    go : (c b : ℕ) → c < d.cores → b < d.cores → seat_at d c ≢ none → seat_at d c ≡ seat_at d b → Dec (c < b) → Dec (b < c) → c ≡ b
    go c b l m q e (yes k) k' = absurd ((S.seats b (core_below S m) (λ z. q (e ∙ z))).once c k e)
    go c b l m q e (no k) (yes k') = absurd ((S.seats c (core_below S l) q).once b k' (sym e))
    go c b l m q e (no k) (no k') = omega arith

pub ranked : {d : Dispatcher} → Shaped d → Sound d → Ranked (Ready d) (ComesBefore d) (rank_at d)
ranked L S = record { lower = λ t u r q. rank_before S L r q; before = λ t u r q. before_rank S L r q; once = λ t u r q. rank_once S L r q }

-- no task is in the slot that the mark names
pub no_slot : {d : Dispatcher} → Shaped d → task_at d none ≡ no_task
no_slot {d} L = get_d_beyond d.tasks none no_task (rw L.tasks (omega arith))

pub sitters_masks : {d : Dispatcher} {s : Sitters} → Shaped d → Sound d → SittersOf d s → Masks d.cores none (may_run d) (seat_at d) (λ t. (task_at d t).mask) s.masks
sitters_masks {d} L S T = record {
  allows = λ t c l. refl;
  sitter = λ c l q. T.each c l;
  idle = λ c l q. T.each c l ∙ ap (λ (t : ℕ). (task_at d t).mask) q ∙ ap (λ (t : Task). t.mask) (no_slot L);
}

-- the chain that a search found is taken
pub found_shift : {d : Dispatcher} {s : Sitters} {x target : ℕ} {r : Route} → Shaped d → Sound d → SittersOf d s → Found d.cores s.masks (task_at d x).mask target r
    → (T : ℕ → Bool) → ((c : ℕ) → c < d.cores → has target c ≡ T c)
    → Goes d.cores none (may_run d) (seat_at d) x T (λ c. get_or (take_list d.seats x r) c none) (length r - 1)
unfolding seats
found_shift {d} {x = x} L S K F T aim = found_goes d.seats (rw L.seats S.count.1) (sitters_masks L S K) x F T aim
