-- No text is longer than two words and a comma.
use Prim.Native.Nat.{ℕ, ◌≤◌}
use mathlib.Core.List.{List}
use native.Mathlib.Omega.{arith}
use lib.ListN.{length}
use Rattle.cpusets.specs.Limit.{set_bits}
use Rattle.cpumasks.specs.Mask.{words_of, mask_size, MaskOf}

pub mask_room_lem : {n s : ℕ} {t : List ℕ} → n ≤ set_bits → MaskOf (words_of n) s t → length t ≤ mask_size 2
mask_room_lem few m = omega (arith, m.means.text.whole)
