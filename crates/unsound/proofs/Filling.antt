-- An array that a closure fills: each entry is what the call at its index gave.
use Prim.Native.Nat.{ℕ, zero, suc, ◌+◌, ◌≤◌, ◌<◌}
use mathlib.Core.Path.{◌≡◌, refl}
use mathlib.Core.List.{List}
use native.Mathlib.Decide.{ℕ_discrete}
use native.Mathlib.Omega.{arith}
use lib.ListN.{get_or}
use Rattle.std.specs.Fn.{Called, Mut}
use Rattle.std.specs.Array.{IsFromFnResult, IsFromFnResultFrom}
use Rattle.unsound.specs.Dump.{Entries}

-- the calls leave the closure as it was
module _ {F B : Type 0} (g : Mut F (ℕ × Unit {0}) B) {Is : ℕ → B → Type 0} (f : F) (one : (i : ℕ) (y : B) (q : F) → Called g f (i, tt) y q → Is i y × (q ≡ f)) where
  each_from : (ys : List B) (d : B) (n i : ℕ) (p : F) → p ≡ f → IsFromFnResultFrom g p ys i n → (k : ℕ) → i ≤ k → k < i + n → Is k (get_or ys k d)
  each_from ys d zero i p e c k l h = absurd (omega arith)
  each_from ys d (suc n) i p e (q, y, at, call, rest) k l h =
      let same = one i y q (rw e at call) in
      elim (ℕ_discrete k i) [ yes here ↦ rw (here, at.1 d) same.0 | no other ↦ each_from ys d n (i + 1) q same.1 rest k (omega arith) (omega arith) ]

  pub entries_of : {n : ℕ} {d : B} {ys : List B} → IsFromFnResult g f ys n → Entries n Is d ys
  entries_of {n} {d} {ys} r = record { long = r.long; each = λ k h. each_from ys d n 0 f refl r.each k (omega arith) (omega arith) }
