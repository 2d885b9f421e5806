-- How far a List text is read or written: what the steps of the reader and the writer promise one another.
use Rattle.std.specs.Prelude.{ℕ, ◌+◌, ◌*◌, ◌≤◌, ◌<◌, min, ◌≡◌, ◌≢◌, true, false, cond, List, [], ◌∷◌, ◌++◌, eqb, length, take, drop, Result, Ok, Err}
use Rattle.laws.specs.Decides.{Decides}
use Rattle.laws.specs.Lists.{All, Any}
use Rattle.masks.specs.Masks.{has}
use Rattle.decimals.specs.Decimal.{value}
use Rattle.texts.specs.Joined.{comma, dash}
use Rattle.cpusets.specs.Answers.{number_of}
use Rattle.cpusets.specs.Limit.{set_bits}
use Rattle.cpusets.specs.Characters.{character, IsDigit}
use Rattle.cpusets.specs.Faults.{FirstFault}
use Rattle.cpulists.specs.List.{Item, one, item_text, IsItem, list_text, first_of, last_of, Holds, Run, run_item}
use Rattle.cpulists.specs.Faults.{NumberAt, list_faults}
use Rattle.cpusets.specs.declared.Fault.{Fault}
use Rattle.cpulists.specs.declared.Number.{Number}
use Rattle.cpulists.specs.declared.Piece.{Piece}
use Rattle.cpulists.specs.declared.Walk.{Walk}

-- the digits from a place on, all of them; n stands for every value that is not below it
pub record ReadsNumber (n : ℕ) (t : List ℕ) (at : ℕ) (r : Number) : Type 0 where
  pub digits : List ℕ
  pub is : take (length digits) (drop at t) ≡ digits
  pub each : All IsDigit digits
  pub ends : IsDigit (character t (at + length digits)) → ⊥
  pub end : r.end ≡ at + length digits
  pub within : r.end ≤ length t
  pub value_told : r.value ≡ min (value digits) n

-- an item with nothing to refuse: its numbers are below n, and it does not run backward
pub record IsLegal (n : ℕ) (i : Item) : Type 0 where
  pub item : IsItem i
  pub first_below : first_of i < n
  pub last_below : last_of i < n
  pub forward : first_of i ≤ last_of i

-- items, each before a comma
abbrev pub followed : List Item → List ℕ
followed [] = []
followed (i ∷ items) = item_text i ++ (comma ∷ followed items)

-- read up to a place where an item has to begin
pub record Opens (n : ℕ) (t : List ℕ) (at : ℕ) : Type 0 where
  pub items : List Item
  pub legal : All (IsLegal n) items
  pub is : take at t ≡ followed items
  pub within : at ≤ length t

-- a set has the cores of the items read
pub record ReadTo (n : ℕ) (t : List ℕ) (at set : ℕ) : Type 0 where
  pub opens : Opens n t at
  pub cores : (c : ℕ) → Decides (Any (Holds c) opens.items) (has set c)

-- read to the end
pub record ReadAll (n : ℕ) (t : List ℕ) (set : ℕ) : Type 0 where
  pub items : List Item
  pub legal : All (IsLegal n) items
  pub is : t ≡ list_text items
  pub cores : (c : ℕ) → Decides (Any (Holds c) items) (has set c)

-- a legal item stands at a place, and goes on no further
pub record ItemAt (n : ℕ) (t : List ℕ) (at first last end : ℕ) : Type 0 where
  pub item : Item
  pub legal : IsLegal n item
  pub is : take (length (item_text item)) (drop at t) ≡ item_text item
  pub end_told : end ≡ at + length (item_text item)
  pub within : end ≤ length t
  pub first_told : first ≡ first_of item
  pub last_told : last ≡ last_of item
  pub no_digit : IsDigit (character t end) → ⊥
  pub no_dash : (d : List ℕ) → item ≡ one d → character t end ≢ dash

-- what a step of the reader gives, or the text's first fault
abbrev pub OrFault : ℕ → List ℕ → {A : Type 0} → (A → Type 0) → Result A Fault → Type 0
OrFault n t Gives (Ok x) = Gives x
OrFault n t Gives (Err fault) = FirstFault (list_faults n t) (number_of fault.refusal) fault.offset

-- a number has to begin at a place: where no digit stands, or a number that is not below n, there is the text's first fault
pub record Wants (n : ℕ) (t : List ℕ) (at : ℕ) : Type 0 where
  pub within : at ≤ length t
  pub begins : (k : ℕ) → at ≡ k + 1 → IsDigit (character t k) → ⊥
  pub missing : (IsDigit (character t at) → ⊥) → FirstFault (list_faults n t) 17 at
  pub high : (d : List ℕ) → NumberAt t at d → n ≤ value d → FirstFault (list_faults n t) 19 at

-- a number below n stands at a place
pub record NumberBelow (n : ℕ) (t : List ℕ) (at : ℕ) (r : Number) : Type 0 where
  pub digits : List ℕ
  pub there : NumberAt t at digits
  pub end_told : r.end ≡ at + length digits
  pub within : r.end ≤ length t
  pub value_told : r.value ≡ value digits
  pub below : value digits < n

abbrev pub FindsNumber : ℕ → List ℕ → ℕ → Result Number Fault → Type 0
FindsNumber n t at = OrFault n t (NumberBelow n t at)

-- the item at a place, or the text's first fault
abbrev pub ReadsPiece : ℕ → List ℕ → ℕ → Result Piece Fault → Type 0
ReadsPiece n t at = OrFault n t (λ p. ItemAt n t at p.run.first p.run.last p.end)

-- an item and what follows it: the end, or a comma and an item to come
pub record WalksOn (n : ℕ) (t : List ℕ) (at : ℕ) (w : Walk) : Type 0 where
  pub further : at < w.place
  pub to : w.place < length t → ReadTo n t w.place w.set
  pub all : length t ≤ w.place → (w.place ≡ length t) × ReadAll n t w.set

abbrev pub Walks : ℕ → List ℕ → ℕ → Result Walk Fault → Type 0
Walks n t at = OrFault n t (WalksOn n t at)

-- the cores from first to last, and no other
pub record Spans (first last r : ℕ) : Type 0 where
  pub each : (c : ℕ) → Decides ((first ≤ c) × (c ≤ last)) (has r c)

-- a set has the cores from first to last, and neither one below them nor the one after them
pub record LowestRun (s first last : ℕ) : Type 0 where
  pub forward : first ≤ last
  pub within : last < set_bits
  pub before : (c : ℕ) → c < first → has s c ≡ false
  pub each : (c : ℕ) → first ≤ c → c ≤ last → has s c ≡ true
  pub after : has s (last + 1) ≡ false

-- the comma before a run's text, where another stands before it
abbrev pub comma_text : ℕ → List ℕ
comma_text at = cond (eqb at 0) [] (comma ∷ [])

abbrev pub run_text : ℕ → Run → List ℕ
run_text at r = comma_text at ++ item_text (run_item r)

-- room enough for every text that we write: three characters for each core
abbrev pub list_room : ℕ
list_room = 3 * set_bits
