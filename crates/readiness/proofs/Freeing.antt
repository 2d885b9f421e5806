-- A core falls idle and its task leaves the wake order: the dispatcher stays sound.
use Prim.Native.Nat.{ℕ, ◌<◌}
use mathlib.Core.Path.{◌≡◌, sym, ◌∙◌}
use mathlib.Core.Logic.{◌≢◌}
use mathlib.Core.List.{List}
use native.Mathlib.Decide.{ℕ_discrete}
use native.Mathlib.Omega.{arith}
use lib.ListN.{get_or, set, length-set}
use lib.Seq.{get_or-set_same, get_or-set_other}
use Rattle.seating.specs.Strong.{Legal}
use Rattle.dispatcher.specs.Limits.{core_limit, none}
use Rattle.dispatcher.specs.Slots.{seat_at, Ready, Shaped}
use Rattle.dispatcher.specs.Sound.{Sound}
use Rattle.dispatcher.specs.declared.Dispatcher.{Dispatcher}
use Rattle.order.proofs.Leaving.{left_shaped, left_sound}
use Rattle.shifting.specs.Board.{may_run, with_seats}
use Rattle.shifting.proofs.Board.{core_below, seat_below, legal}
use Rattle.readiness.specs.Block.{freed_of}
use Rattle.readiness.proofs.Reseating.{reseated_sound}

module _ {d : Dispatcher} {slot z : ℕ} (L : Shaped d) (S : Sound d) (real : slot ≢ none) (below : z < d.cores) (sits : seat_at d z ≡ slot) where
  abbrev rest : List ℕ
  rest = set d.seats z none

  pub freed_idle : seat_at (freed_of d slot z) z ≡ none
  freed_idle = get_or-set_same d.seats z none none (rw L.seats (core_below S below))

  seat_other : (c : ℕ) → c ≢ z → get_or rest c none ≡ seat_at d c
  seat_other c n = get_or-set_other d.seats z c none none n

  held : (c : ℕ) → get_or rest c none ≢ none → c ≢ z
  held c o e = o (rw e freed_idle)

  fewer : Legal d.cores none (may_run d) (Ready d) (λ c. get_or rest c none)
  fewer = record {
    ready = λ c l o. let q = seat_other c (held c o) in rw q ((legal S).ready c l (rw q at o));
    allowed = λ c l o. let q = seat_other c (held c o) in rw q ((legal S).allowed c l (rw q at o));
    once = λ c b l m o e.
        let q = seat_other c (held c o) in
        let p = seat_other b (held b (λ z. o (e ∙ z))) in
        (legal S).once c b l m (rw q at o) (sym q ∙ e ∙ p);
  }

  idle_sound : Sound (with_seats d rest)
  idle_sound = reseated_sound rest S fewer (λ c l m. seat_other c (λ e. omega (arith, e, below)) ∙ S.missing c l m)

  -- the slot sits nowhere else
  gone : (c : ℕ) → c < core_limit → seat_at (with_seats d rest) c ≢ slot
  gone c l e = go (ℕ_discrete c z)
    where
      go : Dec (c ≡ z) → ⊥
      go (yes q) = real (sym e ∙ rw q freed_idle)
      go (no q) =
          let o : seat_at d c ≡ slot = sym (seat_other c q) ∙ e in
          let held : seat_at d c ≢ none = λ n. real (sym o ∙ n) in
          q ((legal S).once c z (seat_below S l held) below held (o ∙ sym sits))

  idle_shaped : Shaped (with_seats d rest)
  idle_shaped = record { tasks = L.tasks; order = L.order; seats = length-set d.seats z none ∙ L.seats }

  pub freed_sound : Shaped (freed_of d slot z) × Sound (freed_of d slot z)
  freed_sound = (left_shaped slot idle_shaped, left_sound slot idle_shaped idle_sound gone)
