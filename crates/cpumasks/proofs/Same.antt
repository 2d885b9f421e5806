-- A Mask text means one set, a set has one text, and any two results that a promise allows are the same.
use Prim.Native.Nat.{ℕ, ◌+◌, ◌%◌, ◌<◌}
use mathlib.Core.Path.{◌≡◌, sym, ◌∙◌}
use mathlib.Core.Bool.{Bool, true}
use mathlib.Core.List.{List}
use native.Mathlib.Decide.{ℕ_discrete, dec_lt}
use native.Mathlib.Omega.{arith}
use lib.Seq.{ext_get_or}
use Rattle.laws.specs.Decides.{Decides}
use Rattle.laws.proofs.Deciding.{clash, decides_same, decides_by}
use Rattle.masks.specs.Masks.{has}
use Rattle.masks.proofs.Bits.{has_beyond}
use Rattle.masks.proofs.Operators.{same_bits, same_cores}
use Rattle.cpusets.specs.Answers.{Reading, Written}
use Rattle.cpusets.specs.Characters.{character}
use Rattle.cpusets.proofs.Same.{reads_same, writes_same}
use Rattle.cpumasks.specs.Mask.{words_of, IsHex, hex_value_of, mask_size, IsCommaPlace, HasCore, MeansMask, MaskOf}
use Rattle.cpumasks.specs.Faults.{mask_faults}
use Rattle.cpumasks.specs.Progress.{lowest_core_of}
use Rattle.cpumasks.specs.Promise.{ReadsMask, WritesMask}
use Rattle.cpumasks.proofs.Digits.{hex_small, hex_same}
use Rattle.cpumasks.proofs.Places.{core_below, core_place, core_bit}

pub means_same : {words s q : ℕ} {t : List ℕ} → MeansMask words t s → MeansMask words t q → s ≡ q
means_same {s = s} {q} a b = same_cores s q (λ k. decides_same (a.cores k) (b.cores k))

-- ---- one text for a set

-- a bit of a digit is a core of the set
module _ (words o k : ℕ) (l : o < mask_size words) (n : IsCommaPlace o → ⊥) (small : k < 4) where
  digit_bit : {s : ℕ} {t : List ℕ} → MeansMask words t s → has (hex_value_of (character t o)) k ≡ has s (lowest_core_of words o + k)
  digit_bit {s} {t} m = decides_same (bit_decides (has (hex_value_of (character t o)) k)) (decides_by there back (m.cores (lowest_core_of words o + k)))
    where
      bit_decides : (b : Bool) → Decides (b ≡ true) b
      bit_decides b = record { yes = λ y. y; no = λ f y. clash y f }

      there : HasCore words t (lowest_core_of words o + k) → has (hex_value_of (character t o)) k ≡ true
      there h = rw (core_place words o k l n small, core_bit words o k l n small) at h.bit

      back : has (hex_value_of (character t o)) k ≡ true → HasCore words t (lowest_core_of words o + k)
      back y = record {
        below = core_below words o k l n small;
        digit = rw (core_place words o k l n small) ((m.text.each o l).digit_there n);
        bit = rw (core_place words o k l n small, core_bit words o k l n small) y;
      }

pub text_same : {words s : ℕ} {t u : List ℕ} → MaskOf words s t → MaskOf words s u → t ≡ u
text_same {words} {s} {t} {u} a b = ext_get_or 0 t u (a.means.text.whole ∙ sym b.means.text.whole) (λ o l. place o (omega (arith, a.means.text.whole)) (ℕ_discrete (o % 9) 8))
  where
    place : (o : ℕ) → o < mask_size words → Dec (o % 9 ≡ 8) → character t o ≡ character u o
    place o l (yes e) = (a.means.text.each o l).comma_there e ∙ sym ((b.means.text.each o l).comma_there e)
    place o l (no n) = hex_same (character t o) (character u o) h k (a.lower o) (b.lower o) (same_bits 4 _ _ (hex_small _ h) (hex_small _ k) (λ i. bit i (dec_lt i 4)))
      where
        h : IsHex (character t o)
        h = (a.means.text.each o l).digit_there n

        k : IsHex (character u o)
        k = (b.means.text.each o l).digit_there n

        bit : (i : ℕ) → Dec (i < 4) → has (hex_value_of (character t o)) i ≡ has (hex_value_of (character u o)) i
        bit i (yes small) = digit_bit words o i l n small a.means ∙ sym (digit_bit words o i l n small b.means)
        bit i (no big) = has_beyond 4 _ i (hex_small _ h) (omega arith) ∙ sym (has_beyond 4 _ i (hex_small _ k) (omega arith))

-- ---- the promises

pub mask_reads_same : (n : ℕ) (t : List ℕ) (r q : Reading) → ReadsMask n t r → ReadsMask n t q → r ≡ q
mask_reads_same n t r q = reads_same (mask_faults n (words_of n) t) (MeansMask (words_of n) t) (λ s p. means_same) r q

pub mask_writes_same : {n s : ℕ} {before after after' : List ℕ} {r q : Written} → WritesMask n s before after r → WritesMask n s before after' q → (r ≡ q) × (after ≡ after')
mask_writes_same = writes_same (λ t u. text_same)
