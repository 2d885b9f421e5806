-- How the last of some numbers by an order is picked, one number at a time.
use Prim.Native.Nat.{ℕ, zero, suc, ◌+◌, ◌≤◌, ◌<◌}
use mathlib.Core.Path.{◌≡◌, refl, subst}
use mathlib.Core.Logic.{◌⊎◌, inl, inr, ◌≢◌}
use mathlib.Core.Bool.{Bool, true, false, cond, ◌||◌, ◌&&◌}
use native.Mathlib.Decide.{ℕ_discrete}
use native.Mathlib.Omega.{arith}
use lib.Dec.{eqb, leb}
use borrow.Author.Tests.{leb-true, leb-false, le-leb}
use Rattle.laws.specs.Pick.{Picked, Picks}
use Rattle.laws.proofs.Deciding.{cases, clash}
use Rattle.laws.proofs.Testing.{eqb_eq, eqb_ne}

-- an order of numbers in which any two are one way round
pub record Total (le : ℕ → ℕ → Bool) : Type 0 where
  pub same : (a : ℕ) → le a a ≡ true
  pub chain : (a b c : ℕ) → le a b ≡ true → le b c ≡ true → le a c ≡ true
  pub other : (a b : ℕ) → le a b ≡ false → le b a ≡ true

-- by a key, upwards or downwards
pub by_key : (key : ℕ → ℕ) → Total (λ a b. leb (key a) (key b))
by_key key = record {
  same = λ a. le-leb (key a) (key a) (omega arith);
  chain = λ a b c h k. let x = leb-true (key a) (key b) h in let y = leb-true (key b) (key c) k in le-leb (key a) (key c) (omega arith);
  other = λ a b h. let x = leb-false (key a) (key b) h in le-leb (key b) (key a) (omega arith);
}

pub turned : {le : ℕ → ℕ → Bool} → Total le → Total (λ a b. le b a)
turned O = record { same = O.same; chain = λ a b c h k. O.chain c b a k h; other = λ a b h. O.other b a h }

module _ {mark : ℕ} {le : ℕ → ℕ → Bool} {f : ℕ → Bool} where
  pub picks_start : Picks mark le f 0 mark
  picks_start = inr (record { none = λ c l. absurd (omega arith); is = refl })

  -- the next number fails
  pub picks_skip : {m r : ℕ} → f m ≡ false → Picks mark le f m r → Picks mark le f (m + 1) r
  picks_skip {m} {r} h (inl p) = inl (record { below = omega (arith, p.below); passes = p.passes; last = λ c l k. go c l k (ℕ_discrete c m) })
    where
      go : (c : ℕ) → c < m + 1 → f c ≡ true → Dec (c ≡ m) → le c r ≡ true
      go c l k (yes q) = clash k (rw q h)
      go c l k (no q) = p.last c (omega arith) k
  picks_skip {m} h (inr p) = inr (record { none = λ c l. go c l (ℕ_discrete c m); is = p.is })
    where
      go : (c : ℕ) → c < m + 1 → Dec (c ≡ m) → f c ≡ false
      go c l (yes q) = rw q h
      go c l (no q) = p.none c (omega arith)

  -- it passes, and is the first, or not before what was picked
  pub picks_new : {m r : ℕ} → Total le → f m ≡ true → (Picked le f m r → le r m ≡ true) → Picks mark le f m r → Picks mark le f (m + 1) m
  picks_new {m} {r} O h k P = inl (record { below = omega arith; passes = h; last = λ c l i. go c l i (ℕ_discrete c m) P })
    where
      go : (c : ℕ) → c < m + 1 → f c ≡ true → Dec (c ≡ m) → Picks mark le f m r → le c m ≡ true
      go c l i (yes q) P = rw q (O.same m)
      go c l i (no q) (inl p) = O.chain c r m (p.last c (omega arith) i) (k p)
      go c l i (no q) (inr p) = clash i (p.none c (omega arith))

  -- it passes, and is not after what was picked
  pub picks_keep : {m r : ℕ} → Picked le f m r → le m r ≡ true → Picks mark le f (m + 1) r
  picks_keep {m} {r} p k = inl (record { below = omega (arith, p.below); passes = p.passes; last = λ c l i. go c l i (ℕ_discrete c m) })
    where
      go : (c : ℕ) → c < m + 1 → f c ≡ true → Dec (c ≡ m) → le c r ≡ true
      go c l i (yes q) = rw q k
      go c l i (no q) = p.last c (omega arith) i

  pub picked_real : {m r : ℕ} → Picks mark le f m r → r ≢ mark → Picked le f m r
  picked_real (inl p) h = p
  picked_real (inr p) h = absurd (h p.is)

  pub none_picked : {m r : ℕ} → m ≤ mark → Picks mark le f m r → r ≡ mark → (c : ℕ) → c < m → f c ≡ false
  none_picked h (inl p) q = absurd (omega (arith, p.below))
  none_picked h (inr p) q = p.none

-- ---- by computing it

unfoldable pub pick : ℕ → (ℕ → ℕ → Bool) → (ℕ → Bool) → ℕ → ℕ
pick mark le f zero = mark
pick mark le f (suc m) = let r = pick mark le f m in cond (f m && (eqb r mark || le r m)) m r

pub pick_picks : (mark : ℕ) (le : ℕ → ℕ → Bool) (f : ℕ → Bool) (m : ℕ) → Total le → m ≤ mark → Picks mark le f m (pick mark le f m)
unfolding pick
pick_picks mark le f zero O h = picks_start
pick_picks mark le f (suc m) O h = subst (λ (k : ℕ). Picks mark le f k (pick mark le f (suc m))) next (go (pick mark le f m) (pick_picks mark le f m O (omega arith)) (cases (f m)))
  where
    next : m + 1 ≡ suc m
    next = omega arith

    at : (r : ℕ) → Picks mark le f m r → f m ≡ true → (eqb r mark ≡ true) ⊎ (eqb r mark ≡ false) → (le r m ≡ true) ⊎ (le r m ≡ false) → Picks mark le f (m + 1) (cond (eqb r mark || le r m) m r)
    at r P t (inl q) k = rw q (picks_new O t (λ p. let l = p.below in let e : r ≡ mark = eqb_eq q in absurd (omega arith)) P)
    at r P t (inr q) (inl k) = rw (q, k) (picks_new O t (λ p. k) P)
    at r P t (inr q) (inr k) = rw (q, k) (picks_keep (picked_real P (eqb_ne q)) (O.other r m k))

    go : (r : ℕ) → Picks mark le f m r → (f m ≡ true) ⊎ (f m ≡ false) → Picks mark le f (m + 1) (cond (f m && (eqb r mark || le r m)) m r)
    go r P (inl t) = rw t (at r P t (cases (eqb r mark)) (cases (le r m)))
    go r P (inr t) = rw t (picks_skip t P)
