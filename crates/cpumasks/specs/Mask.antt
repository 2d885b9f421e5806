-- cpuset(7), "Mask format": "each 32-bit word in hexadecimal", "words are filled with leading zeros", "for masks longer than one word, a comma
-- separator is used between words", "words are displayed in big-endian order", "the hex digits within a word are also in big-endian order".
-- Request 2: exactly as many words as the limit on cores needs; we write lower case, and read either.
use Rattle.std.specs.Prelude.{ℕ, ◌+◌, ◌-◌, ◌*◌, ◌/◌, ◌%◌, ◌≤◌, ◌<◌, ◌≡◌, ◌⊎◌, true, cond, List, leb, length}
use Rattle.laws.specs.Decides.{Decides}
use Rattle.laws.specs.Lists.{All}
use Rattle.masks.specs.Masks.{has}
use Rattle.texts.specs.Joined.{comma}
use Rattle.cpusets.specs.Characters.{character, IsDigit}

-- "the minimum number needed to display all bits of the bit mask"
abbrev pub words_of : ℕ → ℕ
words_of n = (n + 31) / 32

abbrev pub IsLower : ℕ → Type 0
IsLower c = (97 ≤ c) × (c ≤ 102)

abbrev pub IsUpper : ℕ → Type 0
IsUpper c = (65 ≤ c) × (c ≤ 70)

abbrev pub IsHex : ℕ → Type 0
IsHex c = IsDigit c ⊎ (IsLower c ⊎ IsUpper c)

-- what a hexadecimal digit says
abbrev pub hex_value_of : ℕ → ℕ
hex_value_of c = cond (leb 97 c) (c - 87) (cond (leb 65 c) (c - 55) (c - 48))

-- eight digits to a word, and a comma after each word but the last
abbrev pub mask_size : ℕ → ℕ
mask_size words = 9 * words - 1

abbrev pub IsCommaPlace : ℕ → Type 0
IsCommaPlace o = o % 9 ≡ 8

-- a place has the character that it should
pub record IsPlaced (t : List ℕ) (o : ℕ) : Type 0 where
  pub comma_there : IsCommaPlace o → character t o ≡ comma
  pub digit_there : (IsCommaPlace o → ⊥) → IsHex (character t o)

pub record IsMaskText (words : ℕ) (t : List ℕ) : Type 0 where
  pub whole : length t ≡ mask_size words
  pub each : (o : ℕ) → o < mask_size words → IsPlaced t o

-- a word by itself
pub record IsWord (w : List ℕ) : Type 0 where
  pub eight : length w ≡ 8
  pub digits : All IsHex w

-- where the digit of a core stands, four cores to a digit: the highest word first, and in it the highest digit
abbrev pub place_of : ℕ → ℕ → ℕ
place_of words c = 9 * (words - 1 - c / 32) + (7 - c % 32 / 4)

-- a core's digit has its bit
pub record HasCore (words : ℕ) (t : List ℕ) (c : ℕ) : Type 0 where
  pub below : c < 32 * words
  pub digit : IsHex (character t (place_of words c))
  pub bit : has (hex_value_of (character t (place_of words c))) (c % 4) ≡ true

pub record MeansMask (words : ℕ) (t : List ℕ) (s : ℕ) : Type 0 where
  pub text : IsMaskText words t
  pub cores : (c : ℕ) → Decides (HasCore words t c) (has s c)

-- the one text that we write for a set: that of its texts which has no upper case
pub record MaskOf (words s : ℕ) (t : List ℕ) : Type 0 where
  pub means : MeansMask words t s
  pub lower : (o : ℕ) → IsUpper (character t o) → ⊥
