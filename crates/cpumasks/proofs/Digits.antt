-- Hexadecimal digits: what each character says.
use Prim.Native.Nat.{ℕ, ◌-◌, ◌<◌}
use mathlib.Core.Path.{◌≡◌}
use mathlib.Core.Logic.{inl, inr}
use native.Mathlib.Omega.{arith}
use borrow.Author.Tests.{le-leb, lt-leb}
use Rattle.cpusets.specs.Characters.{IsDigit}
use Rattle.cpumasks.specs.Mask.{IsLower, IsUpper, IsHex, hex_value_of}

hex_digit : (c : ℕ) → IsDigit c → hex_value_of c ≡ c - 48
hex_digit c h = rw (lt-leb 97 c (omega (arith, h.1)), lt-leb 65 c (omega (arith, h.1)))

hex_upper : (c : ℕ) → IsUpper c → hex_value_of c ≡ c - 55
hex_upper c h = rw (lt-leb 97 c (omega (arith, h.1)), le-leb 65 c h.0)

hex_lower : (c : ℕ) → IsLower c → hex_value_of c ≡ c - 87
hex_lower c h = rw (le-leb 97 c h.0)

pub hex_small : (c : ℕ) → IsHex c → hex_value_of c < 16
hex_small c (inl h) = omega (arith, hex_digit c h, h.0, h.1)
hex_small c (inr (inl h)) = omega (arith, hex_lower c h, h.0, h.1)
hex_small c (inr (inr h)) = omega (arith, hex_upper c h, h.0, h.1)

-- two that say the same are the same, unless one is in upper case
pub hex_same : (c d : ℕ) → IsHex c → IsHex d → (IsUpper c → ⊥) → (IsUpper d → ⊥) → hex_value_of c ≡ hex_value_of d → c ≡ d
hex_same c d (inl h) (inl k) p q e = omega (arith, hex_digit c h, hex_digit d k, h.0, k.0)
hex_same c d (inl h) (inr (inl k)) p q e = omega (arith, hex_digit c h, hex_lower d k, h.0, h.1, k.0)
hex_same c d (inr (inl h)) (inl k) p q e = omega (arith, hex_lower c h, hex_digit d k, h.0, k.0, k.1)
hex_same c d (inr (inl h)) (inr (inl k)) p q e = omega (arith, hex_lower c h, hex_lower d k, h.0, k.0)
hex_same c d (inr (inr h)) k p q e = absurd (p h)
hex_same c d (inl h) (inr (inr k)) p q e = absurd (q k)
hex_same c d (inr (inl h)) (inr (inr k)) p q e = absurd (q k)
