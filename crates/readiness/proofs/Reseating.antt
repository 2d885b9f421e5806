-- A dispatcher with other seats: the same tasks are ready, and it is sound if the seats are a legal seating of them.
use Prim.Native.Nat.{ℕ, ◌≤◌, ◌<◌}
use mathlib.Core.Path.{◌≡◌, refl, sym, ◌∙◌}
use mathlib.Core.List.{List}
use native.Mathlib.Decide.{dec_lt}
use native.Mathlib.Omega.{arith}
use lib.ListN.{length, get_or}
use Rattle.seating.specs.Strong.{Legal}
use Rattle.seating.proofs.Rules.{keeps_agree}
use Rattle.dispatcher.specs.Limits.{core_limit, none}
use Rattle.dispatcher.specs.Slots.{seat_at, Ready, Shaped}
use Rattle.dispatcher.specs.Sound.{Sound}
use Rattle.dispatcher.specs.declared.Dispatcher.{Dispatcher}
use Rattle.dispatcher.proofs.Ready.{ready_alike}
use Rattle.shifting.specs.Board.{may_run, with_seats}
use Rattle.shifting.specs.Rule.{KeepsIn, LeastIn}

-- ---- who is ready, and demands 2 and 3

pub reseated_ready : {d : Dispatcher} (l : List ℕ) {t : ℕ} → Ready d t → Ready (with_seats d l) t
reseated_ready l r = ready_alike refl r

pub ready_before : (d : Dispatcher) (l : List ℕ) {t : ℕ} → Ready (with_seats d l) t → Ready d t
ready_before d l r = ready_alike refl r

pub reseated_keeps : {d : Dispatcher} (l : List ℕ) {s : ℕ → ℕ} → KeepsIn d s → KeepsIn (with_seats d l) s
reseated_keeps {d} l = keeps_agree (λ t c r b. refl) (λ t u r q b. b) (λ t r. reseated_ready l r) (λ t r. ready_before d l r)

pub reseated_least : {d : Dispatcher} (l : List ℕ) {s s' : ℕ → ℕ} {moves : ℕ} → LeastIn d s s' moves → LeastIn (with_seats d l) s s' moves
reseated_least {d} l h = record {
  fewest = λ s'' K. h.fewest s'' (keeps_agree (λ t c r b. refl) (λ t u r q b. b) (λ t r. ready_before d l r) (λ t r. reseated_ready l r) K);
  told = h.told;
  below = h.below;
}

-- ---- it stays sound

pub reseated_sound : {d : Dispatcher} (l : List ℕ) → Sound d → Legal d.cores none (may_run d) (Ready d) (λ c. get_or l c none)
    → ((c : ℕ) → c < core_limit → d.cores ≤ c → get_or l c none ≡ none) → Sound (with_seats d l)
reseated_sound {d} l S G idle = record {
  count = S.count;
  slots = S.slots;
  order = λ k h o. let e = S.order k h o in record { slot = e.slot; used = e.used; not_twice = e.not_twice; no_gap = e.no_gap };
  missing = idle;
  seats = λ c h o. elim (dec_lt c d.cores) [
    | yes b ↦ record {
      ready = reseated_ready l (G.ready c b o);
      once = λ j k e. let same : c ≡ j = G.once c j b (omega arith) o (sym e) in omega arith;
      allowed = G.allowed c b o;
    }
    | no b ↦ absurd (o (idle c h (omega arith)))
  ];
}

-- x is e with other seats
pub reseated : (e : Dispatcher) {x : Dispatcher} → Shaped e → Sound e → x ≡ with_seats e x.seats → length x.seats ≡ length e.seats
    → Legal e.cores none (may_run e) (Ready e) (seat_at x) → ((c : ℕ) → e.cores ≤ c → seat_at x c ≡ seat_at e c) → Shaped x × Sound x
reseated e {x} L S rest size G beyond = rw rest (shaped, reseated_sound x.seats S G (λ c h b. beyond c b ∙ S.missing c h b))
  where
    shaped : Shaped (with_seats e x.seats)
    shaped = record { tasks = L.tasks; order = L.order; seats = size ∙ L.seats }
