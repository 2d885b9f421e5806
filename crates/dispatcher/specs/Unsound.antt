-- Document 02, request 3, "Say what is unsound": document 01's conditions (a) to (e), each with its refusal and the slot, place or core
-- that is returned with it.
use Rattle.std.specs.Prelude.{ℕ, ◌≡◌, ◌≢◌, List, [], ◌∷◌}
use Rattle.laws.specs.Lowest.{Lowest}
use Rattle.laws.specs.Answering.{Refusal, ◌when◌}
use Rattle.dispatcher.specs.Limits.{core_limit, slot_limit}
use Rattle.dispatcher.specs.Sound.{CountLegal, SlotKept, SlotsLegal, PlaceKept, OrderKept, MissingKept, MissingIdle, SeatKept, SeatsKept}
use Rattle.dispatcher.specs.declared.Dispatcher.{Dispatcher}

-- the number of the refusal where a condition does not hold, and which place is returned with it
pub record Condition : Type 1 where
  pub number : ℕ
  pub holds : Type 0
  pub place : ℕ → Type 0

abbrev condition : ℕ → Type 0 → (ℕ → Type 0) → Condition
condition n P Q = record { number = n; holds = P; place = Q }

-- "21 to 25 for (a) to (e)": with (a) the count found, with the others "the lowest slot, place or core that breaks it"
abbrev pub conditions : Dispatcher → List Condition
conditions d =
    condition 21 (CountLegal d) (λ place. place ≡ d.cores) ∷
    condition 22 (SlotsLegal d) (Lowest slot_limit (SlotKept d)) ∷
    condition 23 (OrderKept d) (Lowest slot_limit (PlaceKept d)) ∷
    condition 24 (MissingIdle d) (Lowest core_limit (MissingKept d)) ∷
    condition 25 (SeatsKept d) (Lowest core_limit (SeatKept d)) ∷ []

-- a row for each condition
abbrev pub broken_rows : List Condition → List Refusal
broken_rows [] = []
broken_rows (c ∷ cs) = c.number when (c.holds → ⊥) ∷ broken_rows cs

abbrev pub unsound_refusals : Dispatcher → List Refusal
unsound_refusals d = broken_rows (conditions d)

-- the place that is returned with number n: that of the condition with this number, and 0 where no condition has it
abbrev pub PlaceWith : List Condition → ℕ → ℕ → Type 0
PlaceWith [] n place = place ≡ 0
PlaceWith (c ∷ cs) n place = (n ≡ c.number → c.place place) × (n ≢ c.number → PlaceWith cs n place)

pub record Points (d : Dispatcher) (n place : ℕ) : Type 0 where
  pub told : PlaceWith (conditions d) n place
