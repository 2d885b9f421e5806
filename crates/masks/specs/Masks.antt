-- Document 01, "Numbers": a mask has 32 bits, bit k for core k. It is legal where it is not empty and has no bit at or above the core count.
use Rattle.std.specs.Prelude.{ℕ, ◌/◌, ◌%◌, ◌^◌, ◌≤◌, ◌<◌, ◌≡◌, ◌≢◌, Bool, true, false, ◌||◌, ◌&&◌, eqb, ltb}

-- how many bits a mask has
abbrev pub width : ℕ
width = 32

-- bit k of the mask m
abbrev pub has : ℕ → ℕ → Bool
has m k = eqb (m / 2 ^ k % 2) 1

-- the mask names a missing core, one at or above the count
pub record NamesMissing (count m : ℕ) : Type 0 where
  pub core : ℕ
  pub missing : count ≤ core
  pub named : has m core ≡ true

pub record LegalMask (count m : ℕ) : Type 0 where
  pub not_empty : m ≢ 0
  pub none_missing : (k : ℕ) → has m k ≡ true → k < count

-- r has the cores of m, and the core c if a mask has such a bit
pub record Added (m c r : ℕ) : Type 0 where
  pub each : (k : ℕ) → has r k ≡ (has m k || (eqb k c && ltb c width))

-- of the cores that the mask m has and the mask marked has not, r is the lowest; the width where there is none
pub record NextCore (m marked r : ℕ) : Type 0 where
  pub within : r ≤ width
  pub unmarked : r < width → (has m r ≡ true) × (has marked r ≡ false)
  pub lower : (k : ℕ) → k < r → has m k ≡ true → has marked k ≡ true
