-- The limit on cores. A set is a word of 64 bits, bit k for core k, so that no limit allows more cores than that.
use Rattle.std.specs.Prelude.{ℕ, min}

-- how many bits a set has
abbrev pub set_bits : ℕ
set_bits = 64

-- how many cores there may be: they are the numbers below it
abbrev pub cores_of : ℕ → ℕ
cores_of limit = min limit set_bits
