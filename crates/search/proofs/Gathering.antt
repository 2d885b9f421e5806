-- The cores with a small mark as a mask: what a core's mask tells when it is met with it.
use Rattle.std.proofs.Common.{ℕ, ◌≤◌, ◌<◌, ◌≡◌, sym, ◌∙◌, ◌≢◌, not, List, arith, bit_and, eqb, ltb, lt-ltb, le-ltb, eq-eqb, ne_eqb}
use native.Mathlib.Decide.{ℕ_discrete, dec_lt}
use Rattle.masks.specs.Masks.{has}
use Rattle.masks.proofs.Operators.{and_some, and_none}
use Rattle.seating.proofs.Near.{lowest, lowest_in, lowest_le}
use Rattle.search.specs.Marks.{within}
use Rattle.search.specs.Rounds.{Gathered}

-- some core below n is in both where what they have in common is not empty
module _ {marks : List ℕ} {k n near : ℕ} (G : Gathered marks k n near) (mask : ℕ) where
  pub meets_some : bit_and mask near ≢ 0 → lowest n (has mask) (within marks k) < n
  meets_some z =
      let (c, a, b) = and_some mask near z in
      let l = G.below c b in
      let m = lowest_le n (has mask) (within marks k) c l a (sym (G.each c l) ∙ b) in
      omega arith

  pub meets_none : bit_and mask near ≡ 0 → n ≤ lowest n (has mask) (within marks k)
  meets_none z = go (dec_lt (lowest n (has mask) (within marks k)) n)
    where
      go : Dec (lowest n (has mask) (within marks k) < n) → n ≤ lowest n (has mask) (within marks k)
      go (yes l) =
          let f = lowest_in n (has mask) (within marks k) l in
          absurd (and_none mask near (lowest n (has mask) (within marks k)) z f.0 (G.each (lowest n (has mask) (within marks k)) l ∙ f.1))
      go (no l) = omega arith

  pub meets : ltb (lowest n (has mask) (within marks k)) n ≡ not (eqb (bit_and mask near) 0)
  meets = go (ℕ_discrete (bit_and mask near) 0)
    where
      go : Dec (bit_and mask near ≡ 0) → ltb (lowest n (has mask) (within marks k)) n ≡ not (eqb (bit_and mask near) 0)
      go (yes z) = rw (eq-eqb (bit_and mask near) 0 z) (le-ltb (lowest n (has mask) (within marks k)) n (meets_none z))
      go (no z) = rw (ne_eqb (bit_and mask near) 0 z) (lt-ltb (lowest n (has mask) (within marks k)) n (meets_some z))
