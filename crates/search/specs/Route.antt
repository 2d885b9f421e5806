-- What the search answers: of the chains from a task with the mask `start` to a core of `target` the one that a call takes, or that there is none.
use Rattle.std.specs.Prelude.{ℕ, ◌≡◌, List, ◌∷◌, Option, MatchOption}
use Rattle.masks.specs.Masks.{has}
use Rattle.seating.specs.Chosen.{Chosen, Unreached}
use Rattle.search.specs.Sitters.{mask_on}
use Rattle.search.specs.declared.Route.{Route}

-- a route is the list of its chain's cores
abbrev pub route_of : ℕ → List ℕ → Route
route_of c p = c ∷ p

pub record Found (n : ℕ) (masks : List ℕ) (start target : ℕ) (r : Route) : Type 0 where
  pub c : ℕ
  pub p : List ℕ
  pub chosen : Chosen n 0 has (mask_on masks) start (has target) c p
  pub told : r ≡ route_of c p

pub record Nowhere (n : ℕ) (masks : List ℕ) (start target : ℕ) : Type 0 where
  pub unreached : Unreached n 0 has (mask_on masks) start (has target)

abbrev pub Searched : ℕ → List ℕ → ℕ → ℕ → Option Route → Type 0
Searched n masks start target r = MatchOption r (Nowhere n masks start target) (Found n masks start target)
