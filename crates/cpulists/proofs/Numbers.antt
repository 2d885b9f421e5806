-- Digits that are read one by one: they are a number's digits so far, and n stands for every value that is not below it.
use Prim.Native.Nat.{ℕ, ◌+◌, ◌-◌, ◌*◌, ◌≤◌, ◌<◌, min}
use mathlib.Core.Path.{◌≡◌, ap, ◌∙◌}
use mathlib.Core.List.{List, [], ◌∷◌, ◌++◌}
use native.Mathlib.Omega.{arith}
use native.Mathlib.Numerals.{add-one}
use lib.ListN.{length, take, drop, length-append, length-drop}
use lib.Seq.{take-suc, take_all}
use Rattle.laws.specs.Lists.{All}
use Rattle.laws.proofs.Lists.{all_append, get_d_beyond}
use Rattle.decimals.specs.Decimal.{value}
use Rattle.decimals.proofs.Spelling.{value_append}
use Rattle.cpusets.specs.Characters.{character, IsDigit}

pub record SoFar (n : ℕ) (t : List ℕ) (at end v : ℕ) : Type 0 where
  pub digits : List ℕ
  pub is : take (length digits) (drop at t) ≡ digits
  pub each : All IsDigit digits
  pub end_told : end ≡ at + length digits
  pub within : end ≤ length t
  pub value_told : v ≡ min (value digits) n

-- all that stands from a place on
pub from_place : (at : ℕ) (t : List ℕ) → take (length t - at) (drop at t) ≡ drop at t
from_place at t = take_all _ _ (omega (arith, length-drop at t))

-- one digit more of what stands there
pub one_more : {n v w : ℕ} {t s : List ℕ} (at k : ℕ) → s ≡ drop at t → SoFar n t at (at + k) v → k < length s → IsDigit (character s k) → w ≡ min (10 * v + (character s k - 48)) n
    → SoFar n t at (at + (k + 1)) w
one_more {n} {v} {w} {t} {s} at k q p l d e = record {
  digits = p.digits ++ (character s k ∷ []);
  is = rw (length-append p.digits (character s k ∷ []), add-one (length p.digits), ← q) (take-suc s (length p.digits) 0 room ∙ rw (q, p.is, told));
  each = all_append IsDigit p.digits (character s k ∷ []) p.each (d, tt);
  end_told = omega (arith, p.end_told, length-append p.digits (character s k ∷ []));
  within = omega (arith, ap length q, length-drop at t);
  value_told = e ∙ rw (value_append 0 p.digits (character s k ∷ [])) (omega (arith, p.value_told));
}
  where
    told : length p.digits ≡ k
    told = omega (arith, p.end_told)

    room : length p.digits < length s
    room = omega (arith, told)

-- the end is no digit
pub past_end : (t : List ℕ) (o : ℕ) → length t ≤ o → IsDigit (character t o) → ⊥
past_end t o l d = omega (arith, get_d_beyond t o 0 l, d.0)
