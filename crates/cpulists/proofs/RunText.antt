-- The text of a run in its pieces: its comma, its first number, and where it has two cores or more a dash and its last number.
use Prim.Native.Nat.{ℕ, ◌+◌, ◌-◌, ◌*◌, ◌≤◌, ◌<◌}
use mathlib.Core.Path.{◌≡◌, sym, ap}
use mathlib.Core.Logic.{◌≢◌}
use mathlib.Core.List.{List, [], ◌∷◌, ◌++◌, append_assoc}
use native.Mathlib.Decide.{ℕ_discrete}
use native.Mathlib.Omega.{arith}
use lib.ListN.{length, length-append}
use borrow.Author.Tests.{eq-eqb, ne_eqb}
use Rattle.texts.specs.Joined.{comma, dash}
use Rattle.decimals.specs.Decimal.{decimal}
use Rattle.decimals.proofs.Spelling.{decimal_length}
use Rattle.cpusets.specs.Limit.{set_bits}
use Rattle.cpulists.specs.List.{item_text, run_item}
use Rattle.cpulists.specs.Progress.{comma_text, run_text}

pub comma_none : (at : ℕ) → at ≡ 0 → comma_text at ≡ []
comma_none at e = rw (eq-eqb at 0 e)

pub comma_one : (at : ℕ) → at ≢ 0 → comma_text at ≡ comma ∷ []
comma_one at n = rw (ne_eqb at 0 n)

pub run_one : (f l : ℕ) → f ≡ l → item_text (run_item (record { first = f; last = l })) ≡ decimal f
run_one f l e = rw (eq-eqb f l e)

pub run_range : (f l : ℕ) → f ≢ l → item_text (run_item (record { first = f; last = l })) ≡ decimal f ++ (dash ∷ decimal l)
run_range f l n = rw (ne_eqb f l n)

module _ (at f l : ℕ) where
  whole_one : f ≡ l → run_text at (record { first = f; last = l }) ≡ comma_text at ++ decimal f
  whole_one e = ap (λ (t : List ℕ). comma_text at ++ t) (run_one f l e)

  whole_range : f ≢ l → run_text at (record { first = f; last = l }) ≡ (comma_text at ++ decimal f) ++ (dash ∷ decimal l)
  whole_range n = rw (run_range f l n) (sym (append_assoc (comma_text at) (decimal f) (dash ∷ decimal l)))

-- no core needs more than three characters
two : (n : ℕ) → n < set_bits → length (decimal n) ≤ 2
two n b = decimal_length 2 n (omega arith) (omega arith)

comma_length : (at : ℕ) → length (comma_text at) ≤ 1
comma_length at = go (ℕ_discrete at 0)
  where
    go : Dec (at ≡ 0) → length (comma_text at) ≤ 1
    go (yes e) = rw (comma_none at e) (omega arith)
    go (no n) = rw (comma_one at n) (omega arith)

pub run_length : (at f l : ℕ) → f ≤ l → l < set_bits → length (run_text at (record { first = f; last = l })) ≤ 3 * (l + 1 - f)
run_length at f l o b = go (ℕ_discrete f l)
  where
    go : Dec (f ≡ l) → length (run_text at (record { first = f; last = l })) ≤ 3 * (l + 1 - f)
    go (yes e) = omega (arith, ap length (whole_one at f l e), length-append (comma_text at) (decimal f), comma_length at, two f (omega arith))
    go (no n) = omega (arith, ap length (whole_range at f l n), length-append (comma_text at ++ decimal f) (dash ∷ decimal l), length-append (comma_text at) (decimal f), comma_length at, two f (omega arith), two l b)
