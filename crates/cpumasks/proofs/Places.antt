-- Which cores a place's digit has: four from the lowest, and no other place has them.
use Prim.Native.Nat.{ℕ, ◌+◌, ◌-◌, ◌*◌, ◌/◌, ◌%◌, ◌≤◌, ◌<◌}
use mathlib.Core.Path.{◌≡◌}
use native.Mathlib.Omega.{arith}
use Rattle.cpumasks.specs.Mask.{mask_size, IsCommaPlace, place_of}
use Rattle.cpumasks.specs.Progress.{lowest_core_of}

-- words and digits are counted from the high end in the text and from the low end in the set
turned : (a w : ℕ) → w ≤ a → a - (a - w) ≡ w
turned a w l = omega arith

-- a word and a digit of it, and how far in the digit
word_of : (a x k : ℕ) → x ≤ 7 → k < 4 → (32 * a + 4 * x + k) / 32 ≡ a
word_of a x k l m = omega arith

digit_of : (a x k : ℕ) → x ≤ 7 → k < 4 → (32 * a + 4 * x + k) % 32 / 4 ≡ x
digit_of a x k l m = omega arith

place_word : (a x : ℕ) → x ≤ 7 → (9 * a + x) / 9 ≡ a
place_word a x l = omega arith

place_digit : (a x : ℕ) → x ≤ 7 → (9 * a + x) % 9 ≡ x
place_digit a x l = omega arith

module _ (words c : ℕ) (l : c < 32 * words) where
  -- a core's digit is one of the text's, and no comma
  pub place_within : place_of words c < mask_size words
  place_within = omega arith

  pub no_comma : IsCommaPlace (place_of words c) → ⊥
  no_comma e = omega arith

  pub core_of : c ≡ lowest_core_of words (place_of words c) + c % 4
  core_of =
      let top : 7 - c % 32 / 4 ≤ 7 = omega arith in
      let word : c / 32 ≤ words - 1 = omega arith in
      let digit : c % 32 / 4 ≤ 7 = omega arith in
      rw (place_word (words - 1 - c / 32) (7 - c % 32 / 4) top, place_digit (words - 1 - c / 32) (7 - c % 32 / 4) top, turned (words - 1) (c / 32) word, turned 7 (c % 32 / 4) digit) (split c)
    where
      split : (c : ℕ) → c ≡ 32 * (c / 32) + 4 * (c % 32 / 4) + c % 4
      split c = omega arith

module _ (words o k : ℕ) (l : o < mask_size words) (n : IsCommaPlace o → ⊥) (small : k < 4) where
  pub core_below : lowest_core_of words o + k < 32 * words
  core_below = omega arith

  pub core_place : place_of words (lowest_core_of words o + k) ≡ o
  core_place =
      let low : 7 - o % 9 ≤ 7 = omega arith in
      let word : o / 9 ≤ words - 1 = omega arith in
      let digit : o % 9 ≤ 7 = omega arith in
      rw (word_of (words - 1 - o / 9) (7 - o % 9) k low small, digit_of (words - 1 - o / 9) (7 - o % 9) k low small, turned (words - 1) (o / 9) word, turned 7 (o % 9) digit) (split o)
    where
      split : (o : ℕ) → 9 * (o / 9) + o % 9 ≡ o
      split o = omega arith

  pub core_bit : (lowest_core_of words o + k) % 4 ≡ k
  core_bit = omega arith
