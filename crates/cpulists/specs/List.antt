-- cpuset(7), "List format": "a comma-separated list of CPU or memory-node numbers and ranges of numbers, in ASCII decimal".
-- Request 2: overlaps and leading zeros are accepted, the empty text is the empty set; we write ascending, with each longest run of two or more as a range.
use Rattle.std.specs.Prelude.{ℕ, ◌+◌, ◌≤◌, ◌<◌, ◌≡◌, cond, List, [], ◌∷◌, ◌++◌, map, eqb, length}
use Rattle.laws.specs.Decides.{Decides}
use Rattle.laws.specs.Lists.{All, Any}
use Rattle.masks.specs.Masks.{has}
use Rattle.texts.specs.Joined.{comma, dash, joined}
use Rattle.decimals.specs.Decimal.{decimal, value}
use Rattle.cpusets.specs.Characters.{IsDigit}

-- the text of a number: one digit or more, of which the first may be zeros
pub record IsNumber (d : List ℕ) : Type 0 where
  pub some : 0 < length d
  pub digits : All IsDigit d

-- a number, or a range from a number to a number
pub data Item : Type 0 where
  one : List ℕ → Item
  range : List ℕ → List ℕ → Item

abbrev pub item_text : Item → List ℕ
item_text (one d) = d
item_text (range d e) = d ++ (dash ∷ e)

abbrev pub IsItem : Item → Type 0
IsItem (one d) = IsNumber d
IsItem (range d e) = IsNumber d × IsNumber e

-- a list of items with commas between
abbrev pub list_text : List Item → List ℕ
list_text items = joined comma (map item_text items)

pub record IsListText (t : List ℕ) : Type 0 where
  pub items : List Item
  pub each : All IsItem items
  pub is : t ≡ list_text items

-- ---- what it means

abbrev pub first_of : Item → ℕ
first_of (one d) = value d
first_of (range d e) = value d

abbrev pub last_of : Item → ℕ
last_of (one d) = value d
last_of (range d e) = value e

-- core c is the number, or lies in the range
abbrev pub Holds : ℕ → Item → Type 0
Holds c i = (first_of i ≤ c) × (c ≤ last_of i)

-- the set has the cores that an item of the text holds, and no other
pub record MeansList (t : List ℕ) (s : ℕ) : Type 0 where
  pub items : List Item
  pub each : All IsItem items
  pub is : t ≡ list_text items
  pub cores : (c : ℕ) → Decides (Any (Holds c) items) (has s c)

-- ---- the one text that we write for a set

-- the cores from first to last, all of them in the set
pub record Run : Type 0 where
  pub first : ℕ
  pub last : ℕ

abbrev pub Covers : ℕ → Run → Type 0
Covers c r = (r.first ≤ c) × (c ≤ r.last)

-- ascending, from core c on; each is as long as can be: a core that is in none stands between it and the next
abbrev pub Ascending : ℕ → List Run → Type 0
Ascending c [] = Unit {0}
Ascending c (r ∷ rs) = (c ≤ r.first) × (r.first ≤ r.last) × Ascending (r.last + 2) rs

-- a run of two or more as a range
abbrev pub run_item : Run → Item
run_item r = cond (eqb r.first r.last) (one (decimal r.first)) (range (decimal r.first) (decimal r.last))

pub record ListOf (s : ℕ) (t : List ℕ) : Type 0 where
  pub runs : List Run
  pub ascending : Ascending 0 runs
  pub cores : (c : ℕ) → Decides (Any (Covers c) runs) (has s c)
  pub is : t ≡ list_text (map run_item runs)
