-- Whether a slot waits and its mask meets some cores, by the table of the cores on which slots sit.
use Rattle.std.proofs.Common.{ℕ, ◌<◌, ◌≡◌, ap, ◌≢◌, inl, inr, Bool, true, ◌&&◌, List, arith, bit_and, eqb, get_or, take}
use Rattle.laws.specs.Decides.{Decides}
use Rattle.laws.proofs.Deciding.{decides_same, decides_true, decides_by, decides_not, decides_and, decides_eq}
use Rattle.laws.proofs.Testing.{and_both}
use Rattle.dispatcher.specs.Limits.{slot_limit, none}
use Rattle.dispatcher.specs.Slots.{task_at, seat_at, Ready, Shaped}
use Rattle.dispatcher.specs.Sound.{Sound}
use Rattle.dispatcher.specs.declared.Dispatcher.{Dispatcher}
use Rattle.dispatcher.proofs.Testing.{ready_test, ready_decides}
use Rattle.order.specs.Places.{FirstPlace, FirstPlaces}
use Rattle.order.proofs.Placing.{stands_first}
use Rattle.shifting.specs.Board.{Runs, Waits}
use Rattle.shifting.specs.Picking.{seek_test}
use Rattle.shifting.proofs.Cores.{sits_on}

abbrev pub wait_test : Dispatcher → List ℕ → ℕ → ℕ → Bool
wait_test d cores lead w = ready_test d w && seek_test (task_at d w).mask (get_or cores w 0) lead

module _ {d : Dispatcher} {cores : List ℕ} (L : Shaped d) (S : Sound d) (C : FirstPlaces (take d.cores d.seats) cores) {w : ℕ} (small : w < slot_limit) where
  off_decides : Decides (Runs d w → ⊥) (eqb (get_or cores w 0) none)
  off_decides = decides_by (λ q r. stands_first (omega (arith, S.count.1)) sits r.below r.sits q) (λ off. go sits off) (decides_eq (get_or cores w 0) none)
    where
      sits : FirstPlace (seat_at d) 0 d.cores w (get_or cores w 0)
      sits = sits_on L S C small

      go : FirstPlace (seat_at d) 0 d.cores w (get_or cores w 0) → (Runs d w → ⊥) → get_or cores w 0 ≡ none
      go (inl f) off = absurd (off (record { real = λ e. omega arith; core = get_or cores w 0; below = f.below; sits = f.holds }))
      go (inr f) off = f.mark

  pub wait_tells : (lead : ℕ) → Decides (Waits d w × (bit_and (task_at d w).mask lead ≢ 0)) (wait_test d cores lead w)
  wait_tells lead = decides_by
      (λ h. (record { ready = h.0; off = h.1.0 }, h.1.1))
      (λ h. (h.0.ready, (h.0.off, h.1)))
      (decides_and (ready_decides d w) (decides_and off_decides (decides_not (decides_eq (bit_and (task_at d w).mask lead) 0))))

pub wait_small : (d : Dispatcher) (cores : List ℕ) (lead w : ℕ) → wait_test d cores lead w ≡ true → w < slot_limit
wait_small d cores lead w t = ((ready_decides d w).yes (and_both (ready_test d w) (seek_test (task_at d w).mask (get_or cores w 0) lead) t).0).slot

-- of a ready slot the rest of the test tells
pub ready_test_lem : {d : Dispatcher} {w : ℕ} (cores : List ℕ) (lead : ℕ) → Ready d w → wait_test d cores lead w ≡ seek_test (task_at d w).mask (get_or cores w 0) lead
ready_test_lem {d} {w} cores lead r = ap (λ (b : Bool). b && seek_test (task_at d w).mask (get_or cores w 0) lead) (decides_same (ready_decides d w) (decides_true r))
