-- A chain can be followed from core c: k steps lead from it to the target, and no fewer. N j d: at most j steps lead there from core d.
use Rattle.std.specs.Prelude.{ℕ, ◌<◌, ◌≡◌, Bool, true, List}
use Rattle.seating.proofs.Near.{Levels, Exact}
use Rattle.search.specs.Sitters.{leads}

pub record Ready (n : ℕ) (masks : List ℕ) (N : ℕ → ℕ → Bool) (c k : ℕ) : Type 0 where
  pub T : ℕ → Bool
  pub levels : Levels n (leads masks) T N k
  pub below : c < n
  pub near : N k c ≡ true
  pub exact : Exact N k c
  pub short : k < n
