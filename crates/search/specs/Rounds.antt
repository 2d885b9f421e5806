-- One round of marking: the cores marked so far are gathered in a mask, and each core with no mark whose task may use one of them gets the next mark.
use Rattle.std.specs.Prelude.{ℕ, ◌+◌, ◌≤◌, ◌<◌, ◌≡◌, true, not, cond, List, eqb, leb, get_or, Option, MatchOption}
use Rattle.std.specs.Int.Bits.{bit_and}
use Rattle.masks.specs.Masks.{has}
use Rattle.seating.proofs.Near.{lowest}
use Rattle.search.specs.Marks.{far, mark, within}

-- near has those of the first i cores whose mark is at most k
pub record Gathered (marks : List ℕ) (k i near : ℕ) : Type 0 where
  pub below : (c : ℕ) → has near c ≡ true → c < i
  pub each : (c : ℕ) → c < i → has near c ≡ within marks k c

-- r is the smallest of the first n cores in the mask with a mark of at most k
abbrev pub LowestWithin : List ℕ → ℕ → ℕ → ℕ → Option ℕ → Type 0
LowestWithin marks mask k n r = let c = lowest n (has mask) (within marks k) in MatchOption r (n ≤ c) (λ d. (d < n) × (d ≡ c))

abbrev pub first_mark_of : ℕ → ℕ → ℕ
first_mark_of target c = cond (has target c) 0 far

abbrev pub next_mark_of : ℕ → ℕ → ℕ → ℕ → ℕ
next_mark_of mark mask near k = cond (leb mark k) mark (cond (not (eqb (bit_and mask near) 0)) (k + 1) mark)

-- the first n places are as f says
pub record Filled (f : ℕ → ℕ) (n : ℕ) (xs : List ℕ) : Type 0 where
  pub done : (k : ℕ) → k < n → get_or xs k 0 ≡ f k
