-- The text of a set: the one whose every place is as it is written.
use Prim.Native.Nat.{ℕ, ◌*◌, ◌/◌, ◌%◌, ◌^◌, ◌<◌}
use mathlib.Core.Path.{◌≡◌, sym, ap, ◌∙◌}
use mathlib.Core.List.{List}
use native.Mathlib.Decide.{ℕ_discrete, dec_lt}
use native.Mathlib.Omega.{arith}
use lib.ListN.{length, get_or-eq_default}
use borrow.Author.Tests.{lt-ltb}
use Rattle.laws.specs.Decides.{Decides}
use Rattle.laws.proofs.Deciding.{clash}
use Rattle.laws.proofs.Testing.{and_true}
use Rattle.masks.specs.Masks.{has, NamesMissing}
use Rattle.masks.proofs.Bits.{has_shifted}
use Rattle.masks.proofs.Operators.{has_cut}
use Rattle.cpusets.specs.Characters.{character}
use Rattle.cpumasks.specs.Mask.{words_of, IsUpper, hex_value_of, mask_size, place_of, HasCore, MaskOf}
use Rattle.cpumasks.specs.Progress.{lowest_core_of, IsGlyph, IsWritten}
use Rattle.cpumasks.proofs.Places.{place_within, no_comma, core_of}

-- a bit of the set is a bit of the four that its digit has
cut_bit : (words s c : ℕ) → c < 32 * words → has (s / 2 ^ lowest_core_of words (place_of words c) % 16) (c % 4) ≡ has s c
cut_bit words s c l =
    has_cut (s / 2 ^ lowest_core_of words (place_of words c)) 4 (c % 4)
    ∙ rw (lt-ltb (c % 4) 4 (omega arith)) (and_true (has (s / 2 ^ lowest_core_of words (place_of words c)) (c % 4)))
    ∙ has_shifted s (lowest_core_of words (place_of words c)) (c % 4)
    ∙ ap (has s) (sym (core_of words c l))

module _ (words s : ℕ) (t : List ℕ) (none : NamesMissing (32 * words) s → ⊥) (whole : length t ≡ mask_size words) (each : (o : ℕ) → o < mask_size words → IsWritten words s o (character t o)) where
  written_core : (c : ℕ) → Dec (c < 32 * words) → Decides (HasCore words t c) (has s c)
  written_core c (yes l) = record { yes = λ y. record { below = l; digit = glyph.hex; bit = same ∙ y }; no = λ f h. clash (sym same ∙ h.bit) f }
    where
      glyph : IsGlyph (s / 2 ^ lowest_core_of words (place_of words c) % 16) (character t (place_of words c))
      glyph = (each (place_of words c) (place_within words c l)).digit_there (no_comma words c l)

      same : has (hex_value_of (character t (place_of words c))) (c % 4) ≡ has s c
      same = ap (λ (d : ℕ). has d (c % 4)) glyph.says ∙ cut_bit words s c l
  written_core c (no l) = record { yes = λ y. absurd (none (record { core = c; missing = omega arith; named = y })); no = λ _ h. l h.below }

  no_upper : (o : ℕ) → Dec (o < mask_size words) → Dec (o % 9 ≡ 8) → IsUpper (character t o) → ⊥
  no_upper o (yes l) (yes e) u = omega (arith, (each o l).comma_there e, u.0)
  no_upper o (yes l) (no n) u = ((each o l).digit_there n).lower u
  no_upper o (no l) d u = omega (arith, get_or-eq_default t 0 {n = o} (omega (arith, whole)), u.0)

  pub written_mask : MaskOf words s t
  written_mask = record {
    means = record {
      text = record { whole = whole; each = λ o l. record { comma_there = (each o l).comma_there; digit_there = λ n. ((each o l).digit_there n).hex } };
      cores = λ c. written_core c (dec_lt c (32 * words));
    };
    lower = λ o. no_upper o (dec_lt o (mask_size words)) (ℕ_discrete (o % 9) 8);
  }

-- the words that the limit needs have room for every core
pub words_enough : {n s : ℕ} → NamesMissing (32 * words_of n) s → NamesMissing n s
words_enough h = record { core = h.core; missing = omega (arith, h.missing); named = h.named }
