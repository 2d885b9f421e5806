-- Request 2, what we write: "each longest run of two or more as a range".
use Rattle.std.specs.Prelude.{ℕ, ◌+◌, ◌≤◌, ◌≡◌, true, false}
use Rattle.masks.specs.Masks.{has}
use Rattle.cpulists.specs.List.{Run, Covers}

-- every core of the run is in the set; the core after it is not, nor the core before it, if there is one
pub record IsLongest (s : ℕ) (r : Run) : Type 0 where
  pub some : r.first ≤ r.last
  pub each : (c : ℕ) → Covers c r → has s c ≡ true
  pub after : has s (r.last + 1) ≡ false
  pub before : (c : ℕ) → r.first ≡ c + 1 → has s c ≡ false
