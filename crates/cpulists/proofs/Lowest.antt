-- The lowest run of a set, by its trailing zeros and the trailing ones behind them.
use Prim.Native.Nat.{ℕ, ◌+◌, ◌-◌, ◌/◌, ◌^◌, ◌<◌}
use mathlib.Core.Path.{◌≡◌, sym, ◌∙◌}
use mathlib.Core.Bool.{true, false}
use native.Mathlib.Decide.{dec_lt}
use native.Mathlib.Nat.{div-le_self}
use native.Mathlib.Omega.{arith}
use mir.Syntax.{w64}
use Rattle.std.specs.Int.{trailing_zeros, trailing_ones}
use Rattle.std.specs.Int.Count.{trailing_of_zero}
use Rattle.std.proofs.lemmas.Nat.Bits.{bit_at-trailing_zeros, bit_at-trailing_ones, bit_at_ones}
use Rattle.laws.proofs.Deciding.{clash}
use Rattle.masks.specs.Masks.{has}
use Rattle.masks.proofs.Bits.{has_shifted, has_beyond}
use Rattle.cpusets.specs.Limit.{set_bits}
use Rattle.cpulists.specs.Progress.{LowestRun}

-- the lowest ones of a word, and the zero behind them
record Ones (m k : ℕ) : Type 0 where
  pub each : (i : ℕ) → i < k → has m i ≡ true
  pub after : has m k ≡ false

ones : {m : ℕ} → m < 2 ^ set_bits → Ones m (trailing_ones w64 m)
ones {m} fits = go (dec_lt (m + 1) (2 ^ set_bits))
  where
    all : m ≡ 2 ^ set_bits - 1 → Ones m (trailing_ones w64 m)
    all e =
        let k : trailing_ones w64 m ≡ set_bits = rw e (trailing_of_zero set_bits) in
        rw k (record { each = λ i l. rw (e, bit_at_ones set_bits i l); after = has_beyond set_bits m set_bits fits (omega arith) })

    go : Dec (m + 1 < 2 ^ set_bits) → Ones m (trailing_ones w64 m)
    go (yes l) = let o = bit_at-trailing_ones w64 m l in record { each = λ i b. rw (o.2 i b); after = rw o.1 }
    go (no n) = all (omega arith)

module _ {s f k : ℕ} (fits : s < 2 ^ set_bits) (at : has s f ≡ true) (below : (i : ℕ) → i < f → has s i ≡ false) (o : Ones (s / 2 ^ f) k) where
  inside : (i : ℕ) → i < k → has s (f + i) ≡ true
  inside i l = sym (has_shifted s f i) ∙ o.each i l

  outside : has s (f + k) ≡ false
  outside = sym (has_shifted s f k) ∙ o.after

  -- one core at least
  some : 0 < k
  some = go (dec_lt 0 k)
    where
      go : Dec (0 < k) → 0 < k
      go (yes l) = l
      go (no n) = let z : f + k ≡ f = omega arith in clash at (rw z at outside)

  -- no core that a set has not
  few : f + k < set_bits + 1
  few = go (dec_lt (set_bits - f) k) (dec_lt f set_bits)
    where
      go : Dec (set_bits - f < k) → Dec (f < set_bits) → f + k < set_bits + 1
      go (yes l) (yes b) = clash (inside (set_bits - f) l) (has_beyond set_bits s _ fits (omega arith))
      go (no l) (yes b) = omega arith
      go l (no b) = clash at (has_beyond set_bits s f fits (omega arith))

  run_from : LowestRun s f (f + k - 1)
  run_from = record {
    forward = omega (arith, some);
    within = omega (arith, some, few);
    before = below;
    each = λ c a b. let e : f + (c - f) ≡ c = omega arith in rw e at (inside (c - f) (omega (arith, some)));
    after = let e : f + k ≡ f + k - 1 + 1 = omega (arith, some) in rw e at outside;
  }

pub lowest : {s : ℕ} → s < 2 ^ set_bits → 0 < s
    → (0 < trailing_ones w64 (s / 2 ^ trailing_zeros w64 s)) × LowestRun s (trailing_zeros w64 s) (trailing_zeros w64 s + trailing_ones w64 (s / 2 ^ trailing_zeros w64 s) - 1)
lowest {s} fits l =
    let z = bit_at-trailing_zeros w64 s l fits in
    let o = ones (omega (arith, div-le_self s (2 ^ trailing_zeros w64 s))) in
    (some fits (rw z.1) (λ i b. rw (z.2 i b)) o, run_from fits (rw z.1) (λ i b. rw (z.2 i b)) o)
