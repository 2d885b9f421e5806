-- The numbers of a text by their places: a place begins one number and ends one; and the numbers that are in order hold no fault.
use Prim.Native.Nat.{ℕ, ◌+◌, ◌-◌, ◌≤◌, ◌<◌}
use mathlib.Core.Path.{◌≡◌, sym, ap, subst, ◌∙◌}
use mathlib.Core.List.{List}
use native.Mathlib.Decide.{ℕ_discrete, dec_lt}
use native.Mathlib.Omega.{arith}
use lib.ListN.{length, take, drop, get_or}
use lib.Seq.{get_or-take, get_or-drop}
use Rattle.laws.proofs.Lists.{all_at}
use Rattle.decimals.specs.Decimal.{value}
use Rattle.cpusets.specs.Characters.{character, IsDigit}
use Rattle.cpulists.specs.Faults.{NumberAt, RunsBackward, IsAbove}

-- character k of what stands at a place
pub there : (t d : List ℕ) (o : ℕ) → take (length d) (drop o t) ≡ d → (k : ℕ) → k < length d → character d k ≡ character t (o + k)
there t d o e k l = sym (ap (λ (x : List ℕ). get_or x k 0) e) ∙ get_or-take (length d) (drop o t) k 0 l ∙ get_or-drop o t k 0

digit_inside : {t d : List ℕ} {o : ℕ} → NumberAt t o d → (k : ℕ) → k < length d → IsDigit (character t (o + k))
digit_inside {t} {d} {o} n k l = subst IsDigit (there t d o n.is k l) (all_at IsDigit d 0 n.number.digits k l)

digit_between : {t d : List ℕ} {o : ℕ} → NumberAt t o d → (k : ℕ) → o ≤ k → k < o + length d → IsDigit (character t k)
digit_between {t} {d} {o} n k a b = rw same at (digit_inside n (k - o) (omega arith))
  where
    same : o + (k - o) ≡ k
    same = omega arith

pub first_digit : {t d : List ℕ} {o : ℕ} → NumberAt t o d → IsDigit (character t o)
first_digit {o = o} n = digit_between n o (omega arith) (omega (arith, n.number.some))

pub number_same : {t d e : List ℕ} {o : ℕ} → NumberAt t o d → NumberAt t o e → d ≡ e
number_same {t} {d} {e} {o} a b = go (dec_lt (length d) (length e)) (dec_lt (length e) (length d))
  where
    go : Dec (length d < length e) → Dec (length e < length d) → d ≡ e
    go (yes l) y = absurd (a.ends (digit_inside b (length d) l))
    go (no l) (yes m) = absurd (b.ends (digit_inside a (length e) m))
    go (no l) (no m) = let same : length d ≡ length e = omega arith in sym a.is ∙ ap (λ (k : ℕ). take k (drop o t)) same ∙ b.is

-- a number does not begin inside another
begins_first : {t d e : List ℕ} {s o : ℕ} → NumberAt t s d → NumberAt t o e → s < o → o < s + length d + 1 → ⊥
begins_first {t} {d} {e} {s} {o} a b l m = b.begins (o - 1) (omega arith) (digit_between a (o - 1) (omega arith) (omega arith))

pub start_same : {t d e : List ℕ} {s o : ℕ} → NumberAt t s d → NumberAt t o e → s + length d ≡ o + length e → s ≡ o
start_same {t} {d} {e} {s} {o} a b q = go (dec_lt s o) (dec_lt o s)
  where
    go : Dec (s < o) → Dec (o < s) → s ≡ o
    go (yes l) y = absurd (begins_first a b l (omega arith))
    go (no l) (yes m) = absurd (begins_first b a m (omega arith))
    go (no l) (no m) = omega arith

-- ---- no fault of a number stands before a place

pub record Clear (n : ℕ) (t : List ℕ) (at : ℕ) : Type 0 where
  pub backward : (p : ℕ) → RunsBackward t p → at ≤ p
  pub above : (p : ℕ) → IsAbove n t p → at ≤ p

pub clear_start : {n : ℕ} {t : List ℕ} → Clear n t 0
clear_start = record { backward = λ p h. omega arith; above = λ p h. omega arith }

-- a number that is in order is passed
pub pass : {n : ℕ} {t d : List ℕ} {at : ℕ} → Clear n t at → NumberAt t at d → (RunsBackward t at → ⊥) → (IsAbove n t at → ⊥) → Clear n t (at + length d + 1)
pass {n} {t} {d} {at} c a b v = record {
  backward = λ p h. further p h.second h.to (c.backward p h) (λ e. b (rw e h));
  above = λ p h. further p h.number h.there (c.above p h) (λ e. v (rw e h));
}
  where
    further : (p : ℕ) (e : List ℕ) → NumberAt t p e → at ≤ p → (at ≡ p → ⊥) → at + length d + 1 ≤ p
    further p e m l k = go (dec_lt p (at + length d + 1))
      where
        after : Dec (p ≡ at + length d) → p < at + length d + 1 → ⊥
        after (yes q) y = a.ends (rw q at (first_digit m))
        after (no q) y = begins_first a m (omega (arith, k')) (omega arith)
          where
            k' : at < p
            k' = other (dec_lt at p)
              where
                other : Dec (at < p) → at < p
                other (yes z) = z
                other (no z) = absurd (k (omega arith))

        go : Dec (p < at + length d + 1) → at + length d + 1 ≤ p
        go (yes y) = absurd (after (ℕ_discrete p (at + length d)) y)
        go (no y) = omega arith

pub not_above : {n : ℕ} {t d : List ℕ} {at : ℕ} → NumberAt t at d → value d < n → IsAbove n t at → ⊥
not_above {n} {d = d} a l h = let k : n ≤ value d = rw (number_same h.there a) at h.above in omega arith

-- what runs backward to a number runs from the number before the dash
pub backward_from : {t d e : List ℕ} {s o : ℕ} → NumberAt t s d → o ≡ s + length d + 1 → NumberAt t o e → RunsBackward t o → value e < value d
backward_from {t} {d} {e} {s} {o} a q b h =
    let start : h.start ≡ s = start_same h.from a (omega (arith, h.at)) in
    let first : h.first ≡ d = number_same (rw start at h.from) a in
    let second : h.second ≡ e = number_same h.to b in
    rw (first, second) at h.backward
