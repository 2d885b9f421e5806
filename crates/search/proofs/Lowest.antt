-- The smallest core of a mask with a small enough mark, as a search from below finds it.
use Rattle.std.proofs.Common.{◌≡◌, ℕ, ◌≤◌, ◌<◌, Bool, true, false, ◌&&◌, List, Option, Some, None, IsSome, MatchOption, ◌⊎◌, inl, inr, ◌+◌, arith, rules}
use Rattle.std.proofs.lemmas.Bool.{cases_lt}
use Rattle.laws.proofs.Deciding.{clash}
use Rattle.masks.specs.Masks.{has}
use Rattle.seating.proofs.Rows.{First, first, first_is, first_holds}
use Rattle.seating.proofs.Near.{lowest}
use Rattle.search.specs.Marks.{within}
use Rattle.search.specs.Rounds.{LowestWithin}

-- where p holds of i and of no number below it, i is the first
first_at : (p : ℕ → Bool) (n i : ℕ) → i < n → p i ≡ true → ((c : ℕ) → c < i → p c ≡ false) → i ≡ first p 0 n
first_at p n i l t none = let f = first_is p 0 n in go (cases_lt (first p 0 n) i) (cases_lt i (first p 0 n)) f
  where
    go : (first p 0 n < i) ⊎ (i ≤ first p 0 n) → (i < first p 0 n) ⊎ (first p 0 n ≤ i) → First p 0 (0 + n) (first p 0 n) → i ≡ first p 0 n
    go (inl a) b f = clash (f.holds (omega arith)) (none (first p 0 n) a)
    go (inr a) (inl b) f = clash t (f.passed i (omega arith) b)
    go (inr a) (inr b) f = omega arith

first_past : (p : ℕ → Bool) (n : ℕ) → ((c : ℕ) → c < n → p c ≡ false) → n ≤ first p 0 n
first_past p n none = go (cases_lt (first p 0 n) n)
  where
    go : (first p 0 n < n) ⊎ (n ≤ first p 0 n) → n ≤ first p 0 n
    go (inl l) = clash (first_holds p n l) (none (first p 0 n) l)
    go (inr l) = l

pub lowest_found : (marks : List ℕ) (mask k n : ℕ) (r : Option ℕ)
    → MatchOption r ((c : ℕ) → 0 ≤ c → c < n → (has mask c && within marks k c) ≡ false)
    (λ i. (0 ≤ i) × (i < n) × ((has mask i && within marks k i) ≡ true) × ((c : ℕ) → 0 ≤ c → c < i → (has mask c && within marks k c) ≡ false))
    → LowestWithin marks mask k n r
lowest_found marks mask k n None none = first_past (λ d. has mask d && within marks k d) n (λ c l. none c (omega arith) l)
lowest_found marks mask k n (Some i) f = (f.1, first_at (λ d. has mask d && within marks k d) n i f.1 f.2 (λ c l. f.3 c (omega arith) l))

-- where one of the cores passes it is found
pub lowest_some : (marks : List ℕ) (mask k n : ℕ) (r : Option ℕ) → LowestWithin marks mask k n r → lowest n (has mask) (within marks k) < n → IsSome r
lowest_some marks mask k n None w l = absurd (omega (arith, w))
lowest_some marks mask k n (Some i) w l = search rules

pub lowest_is : (marks : List ℕ) (mask k n : ℕ) {r : Option ℕ} {c : ℕ} → r ≡ Some c → LowestWithin marks mask k n r → c ≡ lowest n (has mask) (within marks k)
lowest_is marks mask k n e w = (rw e at w).1
