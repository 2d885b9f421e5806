-- One sweep: the cores of `seen`, and those that the tasks on its first i cores may use.
use Rattle.std.specs.Prelude.{ℕ, ◌≤◌, ◌<◌, ◌≡◌, ◌⊎◌, true, List}
use Rattle.masks.specs.Masks.{has}
use Rattle.search.specs.Sitters.{leads}

-- a task on a core of `seen` below i may go to core d
pub record Pushed (n : ℕ) (masks : List ℕ) (seen i d : ℕ) : Type 0 where
  pub from : ℕ
  pub passed : from < i
  pub inside : has seen from ≡ true
  pub below : d < n
  pub may : leads masks from d ≡ true

pub record Spread (n : ℕ) (masks : List ℕ) (seen i r : ℕ) : Type 0 where
  pub in_range : i ≤ n
  pub grows : seen ≤ r
  pub keeps : (d : ℕ) → has seen d ≡ true → has r d ≡ true
  pub adds : (d : ℕ) → Pushed n masks seen i d → has r d ≡ true
  pub only : (d : ℕ) → has r d ≡ true → (has seen d ≡ true) ⊎ Pushed n masks seen i d
