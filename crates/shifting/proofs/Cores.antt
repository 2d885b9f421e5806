-- The table of the cores on which slots sit: the first places of the seats below the count.
use Rattle.std.proofs.Common.{ℕ, ◌<◌, ◌≡◌, refl, sym, ◌∙◌, ◌≢◌, inl, inr, List, arith, get_or, take, length-take, get_or-take}
use Rattle.dispatcher.specs.Limits.{slot_limit, none}
use Rattle.dispatcher.specs.Slots.{seat_at, Shaped}
use Rattle.dispatcher.specs.Sound.{Sound}
use Rattle.dispatcher.specs.declared.Dispatcher.{Dispatcher}
use Rattle.order.specs.Places.{FirstPlace, FirstPlaces, places_of}
use Rattle.order.proofs.Placing.{here_first}
use Rattle.shifting.proofs.Board.{core_below}

module _ {d : Dispatcher} {cores : List ℕ} (L : Shaped d) (S : Sound d) (C : FirstPlaces (take d.cores d.seats) cores) where
  pub sits_on : {w : ℕ} → w < slot_limit → FirstPlace (seat_at d) 0 d.cores w (get_or cores w 0)
  sits_on {w} small = go (C.each w small)
    where
      few : places_of (take d.cores d.seats) ≡ d.cores
      few = omega (arith, length-take d.cores d.seats, L.seats, S.count.1)

      read : (j : ℕ) → j < d.cores → get_or (take d.cores d.seats) j none ≡ seat_at d j
      read j l = get_or-take d.cores d.seats j none l

      go : FirstPlace (λ j. get_or (take d.cores d.seats) j none) 0 (places_of (take d.cores d.seats)) w (get_or cores w 0) → FirstPlace (seat_at d) 0 d.cores w (get_or cores w 0)
      go (inl f) =
          let below : get_or cores w 0 < d.cores = omega (arith, f.below, few) in
          inl (record { from = f.from; below = below; holds = sym (read (get_or cores w 0) below) ∙ f.holds; first = λ j a b q. f.first j a b (read j (omega arith) ∙ q) })
      go (inr f) = inr (record { mark = f.mark; nowhere = λ j a b q. f.nowhere j a (omega (arith, b, few)) (read j b ∙ q) })

  -- a slot that has a core sits there,
  pub core_seat : {w : ℕ} → w < slot_limit → get_or cores w 0 < d.cores → seat_at d (get_or cores w 0) ≡ w
  core_seat {w} small l = go (sits_on small)
    where
      go : FirstPlace (seat_at d) 0 d.cores w (get_or cores w 0) → seat_at d (get_or cores w 0) ≡ w
      go (inl f) = f.holds
      go (inr f) = absurd (omega (arith, l, f.mark, S.count.1))

  -- and a slot that sits on a core has it
  pub seat_core : {c : ℕ} → c < d.cores → seat_at d c ≢ none → get_or cores (seat_at d c) 0 ≡ c
  seat_core {c} l h = let s = S.seats c (core_below S l) h in here_first (omega (arith, S.count.1)) l refl (sits_on s.ready.slot) s.once
