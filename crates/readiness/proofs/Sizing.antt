-- A step that is computed leaves as many seats as there were.
use Prim.Native.Nat.{ℕ}
use mathlib.Core.Path.{◌≡◌, refl, ◌∙◌}
use mathlib.Core.Bool.{Bool, true, false, cond}
use mathlib.Core.List.{List, [], ◌∷◌}
use lib.ListN.{length, get_or, set, length-set}
use lib.Dec.{eqb, ltb}
use Rattle.seating.proofs.Take.{seats, take_chain_of}
use Rattle.seating.proofs.Find.{Way, takes, nothing, chosen_of}
use Rattle.seating.proofs.Arriving.{Step, still_of, gone_by, push_of, last_of, arrive_of}
use Rattle.seating.proofs.Filling.{first_of, start_of, fill_of}

take_size : (e : ℕ) (xs : List ℕ) (x c : ℕ) (p : List ℕ) → length (take_chain_of e xs x c p) ≡ length xs
take_size e xs x c [] = length-set xs c x
take_size e xs x c (d ∷ p) = take_size e (set xs c x) (get_or xs c e) d p ∙ length-set xs c x

pub record Sized (xs : List ℕ) (s : Step) : Type 0 where
  pub size : length s.seats ≡ length xs

still_sized : (e : ℕ) (xs : List ℕ) → Sized xs (still_of e xs)
still_sized e xs = record { size = refl }

gone_sized : (e : ℕ) (xs : List ℕ) (x v : ℕ) {other : Step} (o : Way) → Sized xs other → Sized xs (gone_by e xs x v other o)
gone_sized e xs x v (takes c p) h = record { size = take_size e xs x c p }
gone_sized e xs x v nothing h = h

either_sized : {xs : List ℕ} {s r : Step} (b : Bool) → Sized xs s → Sized xs r → Sized xs (cond b s r)
either_sized true h k = h
either_sized false h k = k

module _ (n e : ℕ) (may : ℕ → ℕ → Bool) (rank : ℕ → ℕ) (xs : List ℕ) where
  push_sized : (x z : ℕ) → Sized xs (push_of n e may rank xs x z)
  push_sized x z = either_sized (ltb z n)
      (either_sized (ltb (rank x) (rank (seats e xs z))) (gone_sized e xs x (seats e xs z) (chosen_of n e may (seats e xs) x (λ c. eqb c z)) (still_sized e xs)) (still_sized e xs))
      (still_sized e xs)

  pub arrive_sized : (x : ℕ) → Sized xs (arrive_of n e may rank xs x)
  unfolding arrive_of
  arrive_sized x = gone_sized e xs x e (chosen_of n e may (seats e xs) x (λ c. eqb (seats e xs c) e)) (push_sized x (last_of n e may rank xs x))

  start_sized : (z k h : ℕ) → Sized xs (start_of n e may xs z k h)
  start_sized z k h = either_sized (ltb h k) (gone_sized e xs h e (chosen_of n e may (seats e xs) h (λ c. eqb c z)) (still_sized e xs)) (still_sized e xs)

  pub fill_sized : (waiting : ℕ → Bool) (k z : ℕ) → Sized xs (fill_of n e may rank waiting k xs z)
  unfolding fill_of
  fill_sized waiting k z = start_sized z k (first_of n e may rank waiting k xs z)
