-- Tests that compute who runs and who waits, by places in the seats and in the wake order.
use Prim.Native.Nat.{ℕ, ◌≤◌, ◌<◌}
use mathlib.Core.Path.{◌≡◌}
use mathlib.Core.Logic.{◌≢◌}
use mathlib.Core.Bool.{Bool, not, ◌&&◌}
use native.Mathlib.Omega.{arith}
use lib.ListN.{length}
use lib.Dec.{ltb}
use Rattle.laws.specs.Decides.{Decides}
use Rattle.laws.proofs.Deciding.{decides_by, decides_not, decides_and, decides_lt}
use Rattle.dispatcher.specs.Limits.{slot_limit, none}
use Rattle.dispatcher.specs.Slots.{seat_at, Ready, Shaped}
use Rattle.dispatcher.specs.Sound.{Sound}
use Rattle.dispatcher.specs.declared.Dispatcher.{Dispatcher}
use Rattle.order.specs.ComesBefore.{place_in, woke_at}
use Rattle.order.proofs.Standing.{place_holds, place_most}
use Rattle.order.proofs.Waking.{woke_stands}
use Rattle.shifting.specs.Board.{Runs, Waits}

-- the first core on which t sits, and the number of seats where it sits on none
abbrev pub seat_of : Dispatcher → ℕ → ℕ
seat_of d t = place_in d.seats t

abbrev pub run_test : Dispatcher → ℕ → Bool
run_test d t = ltb (seat_of d t) d.cores

abbrev pub wait_test : Dispatcher → ℕ → Bool
wait_test d t = ltb (woke_at d t) slot_limit && not (run_test d t)

module _ {d : Dispatcher} (L : Shaped d) (S : Sound d) where
  pub cores_fit : d.cores ≤ length d.seats
  cores_fit = omega (arith, L.seats, S.count.1)

  pub seat_sits : {t : ℕ} → seat_of d t < d.cores → seat_at d (seat_of d t) ≡ t
  seat_sits {t} l = place_holds d.seats t none (omega (arith, cores_fit))

  pub run_decides : {t : ℕ} → t ≢ none → Decides (Runs d t) (run_test d t)
  run_decides {t} real = decides_by
      (λ l. record { real = real; core = seat_of d t; below = l; sits = seat_sits l })
      (λ r. omega (arith, place_most d.seats t none r.sits, r.below))
      (decides_lt (seat_of d t) d.cores)

  pub wait_decides : {t : ℕ} → t < slot_limit → Decides (Waits d t) (wait_test d t)
  wait_decides {t} small = decides_by
      (λ h. record { ready = h.0; off = h.1 })
      (λ w. (w.ready, w.off))
      (decides_and ready (decides_not (run_decides (λ e. omega (arith, e)))))
    where
      ready : Decides (Ready d t) (ltb (woke_at d t) slot_limit)
      ready = decides_by
          (λ l. record { slot = small; place = woke_at d t; within = l; stands = place_holds d.order t none (omega (arith, L.order)) })
          (λ r. (woke_stands L r).0)
          (decides_lt (woke_at d t) slot_limit)
