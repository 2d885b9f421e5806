-- The first place at which a slot stands in a list of slots, as the wake order or the seats.
use Rattle.std.specs.Prelude.{ℕ, ◌≤◌, ◌<◌, min, ◌≡◌, ◌≢◌, ◌⊎◌, List, length, get_or}
use Rattle.dispatcher.specs.Limits.{slot_limit, none}

-- of the places from i and below n, p is the first that holds s
pub record FirstAt (at : ℕ → ℕ) (i n s p : ℕ) : Type 0 where
  pub from : i ≤ p
  pub below : p < n
  pub holds : at p ≡ s
  pub first : (j : ℕ) → i ≤ j → j < p → at j ≢ s

-- none of them holds s, and p is the mark
pub record NowhereAt (at : ℕ → ℕ) (i n s p : ℕ) : Type 0 where
  pub mark : p ≡ none
  pub nowhere : (j : ℕ) → i ≤ j → j < n → at j ≢ s

abbrev pub FirstPlace : (ℕ → ℕ) → ℕ → ℕ → ℕ → ℕ → Type 0
FirstPlace at i n s p = FirstAt at i n s p ⊎ NowhereAt at i n s p

-- so many places of the list l are looked at: no array of slots has more than there are slots
abbrev pub places_of : List ℕ → ℕ
places_of l = min (length l) slot_limit

-- r has the first place of each slot in the list l
pub record FirstPlaces (l r : List ℕ) : Type 0 where
  pub long : length r ≡ slot_limit
  pub each : (s : ℕ) → s < slot_limit → FirstPlace (λ j. get_or l j none) 0 (places_of l) s (get_or r s 0)
