-- A core added to a mask.
use Prim.Native.Nat.{ℕ, ◌*◌, ◌%◌, ◌^◌, ◌≤◌, ◌<◌}
use mathlib.Core.Path.{◌≡◌, refl, sym, ap, ◌∙◌}
use mathlib.Core.Bool.{Bool, true, false, ◌&&◌, ◌||◌}
use lib.Bits.{bit_or}
use lib.Dec.{eqb}
use borrow.Author.Tests.{lt-ltb, le-ltb}
use Rattle.laws.proofs.Testing.{and_true}
use Rattle.masks.specs.Masks.{width, has, Added}
use Rattle.masks.proofs.Operators.{has_or, has_power, shl_one, same_bits}
use Rattle.masks.proofs.Bits.{has_zero}

or_and_false : (a b : Bool) → a || (b && false) ≡ a
or_and_false true b = refl
or_and_false false true = refl
or_and_false false false = refl

pub added : (m c : ℕ) → c < width → Added m c (bit_or m ((1 * 2 ^ c) % 2 ^ width))
added m c l = record {
  each = λ k. rw (shl_one width c l, lt-ltb c width l) (has_or m (2 ^ c) k ∙ ap (λ (b : Bool). has m k || b) (has_power c k ∙ sym (and_true (eqb k c))));
}

pub none_added : (m c : ℕ) → width ≤ c → Added m c m
none_added m c l = record { each = λ k. rw (le-ltb c width l) (sym (or_and_false (has m k) (eqb k c))) }

-- the mask of one core alone
pub only_core : {c r : ℕ} → c < width → Added 0 c r → (k : ℕ) → has r k ≡ eqb k c
only_core {c} l A k = A.each k ∙ rw (has_zero k, lt-ltb c width l) (and_true (eqb k c))

pub added_same : {m c r q : ℕ} → r < 2 ^ width → q < 2 ^ width → Added m c r → Added m c q → r ≡ q
added_same {r = r} {q} l k a b = same_bits width r q l k (λ i. a.each i ∙ sym (b.each i))
