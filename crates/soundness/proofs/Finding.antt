-- What a search has found: the lowest number that breaks a condition, or that none does; and that there is one such answer.
use Prim.Native.Nat.{ℕ}
use mathlib.Core.Path.{◌≡◌, refl, ap}
use Rattle.std.specs.Prelude.{Option, Some, None}
use Rattle.laws.specs.Lowest.{Lowest, Throughout}
use Rattle.laws.proofs.Lowering.{lowest_same}
use Rattle.soundness.specs.Finds.{Finds}

module _ (n : ℕ) (Kept : ℕ → Type 0) (r : Option ℕ) (f : Finds n Kept r) where
  pub finds_lowest : {k : ℕ} → r ≡ Some k → Lowest n Kept k
  finds_lowest e = rw e at f

  pub finds_none : r ≡ None → Throughout n Kept
  finds_none e = rw e at f

-- and back: where none breaks the condition, nothing is what a search finds
pub finds_all : (n : ℕ) (Kept : ℕ → Type 0) → Throughout n Kept → Finds n Kept None
finds_all n Kept t = t

-- the same number of them, said otherwise
pub finds_of : {m n : ℕ} (Kept : ℕ → Type 0) (r : Option ℕ) → m ≡ n → Finds m Kept r → Finds n Kept r
finds_of Kept r e f = rw e at f

pub finds_same : (n : ℕ) (Kept : ℕ → Type 0) (r q : Option ℕ) → Finds n Kept r → Finds n Kept q → r ≡ q
finds_same n Kept None None a b = refl
finds_same n Kept None (Some k) a b = absurd (b.fails (a k b.below))
finds_same n Kept (Some j) None a b = absurd (a.fails (b j a.below))
finds_same n Kept (Some j) (Some k) a b = ap Some (lowest_same a b)
