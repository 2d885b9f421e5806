-- The cores from one to another, made by shifts of the word that has every core.
use Prim.Native.Nat.{ℕ, ◌+◌, ◌-◌, ◌*◌, ◌/◌, ◌%◌, ◌^◌, ◌≤◌, ◌<◌}
use mathlib.Core.Path.{◌≡◌, ap, ◌∙◌}
use native.Mathlib.Decide.{dec_lt}
use native.Mathlib.Nat.{mul_comm, mod-eq_of_lt}
use native.Mathlib.Omega.{arith}
use lib.Pow.{pow_mono, pow_pos, pow-add}
use Rattle.std.proofs.Math.Nat.{mul-sub}
use Rattle.std.proofs.lemmas.Nat.Bits.{ones_shr, bit_at_mask_inside, bit_at_mask_below, bit_at_mask_above}
use Rattle.laws.specs.Decides.{Decides}
use Rattle.laws.proofs.Deciding.{decides_true, decides_false}
use Rattle.masks.specs.Masks.{has}
use Rattle.cpusets.specs.Limit.{set_bits}
use Rattle.cpulists.specs.Progress.{Spans}

span_value : (f l : ℕ) → f ≤ l → l < set_bits → (2 ^ set_bits - 1) / 2 ^ (63 - (l - f)) * 2 ^ f % 2 ^ set_bits ≡ 2 ^ (l + 1) - 2 ^ f
span_value f l o b = rw (ones_shr set_bits (63 - (l - f)) (omega arith), whole) (mod-eq_of_lt (omega (arith, pow_mono top, pow_pos f)))
  where
    many : set_bits - (63 - (l - f)) + f ≡ l + 1
    many = omega arith

    top : l + 1 ≤ set_bits
    top = omega arith

    whole : (2 ^ (set_bits - (63 - (l - f))) - 1) * 2 ^ f ≡ 2 ^ (l + 1) - 2 ^ f
    whole = mul_comm _ (2 ^ f) ∙ mul-sub (2 ^ f) (2 ^ (set_bits - (63 - (l - f)))) 1 ∙ omega (arith, pow-add 2 (set_bits - (63 - (l - f))) f, ap (λ (k : ℕ). 2 ^ k) many)

pub span_lem : {f l : ℕ} → f ≤ l → l < set_bits → Spans f l ((2 ^ set_bits - 1) / 2 ^ (63 - (l - f)) * 2 ^ f % 2 ^ set_bits)
span_lem {f} {l} o b = record { each = λ c. rw (span_value f l o b) (go c (dec_lt c f) (dec_lt c (l + 1))) }
  where
    go : (c : ℕ) → Dec (c < f) → Dec (c < l + 1) → Decides ((f ≤ c) × (c ≤ l)) (has (2 ^ (l + 1) - 2 ^ f) c)
    go c (yes p) d = rw (bit_at_mask_below f (l + 1) c p) (decides_false (λ h. omega (arith, h.0)))
    go c (no p) (yes q) = rw (bit_at_mask_inside f (l + 1) c (omega arith) q) (decides_true (omega arith, omega arith))
    go c (no p) (no q) = rw (bit_at_mask_above f (l + 1) c (omega arith)) (decides_false (λ h. omega (arith, h.1)))
