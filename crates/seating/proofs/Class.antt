-- A seating that keeps demand 2 runs at least as many tasks of each class as any legal seating of the same ready tasks.
use Prim.Native.Nat.{ℕ, zero, suc, ◌≤◌, ◌<◌}
use mathlib.Core.Path.{◌≡◌, refl, sym, ap, ◌∙◌}
use mathlib.Core.Logic.{◌⊎◌, inl, inr, ◌≢◌}
use mathlib.Core.Bool.{Bool, true, false, not, ◌||◌}
use native.Mathlib.Decide.{ℕ_discrete}
use native.Mathlib.Omega.{arith}
use lib.Dec.{eqb, ltb}
use Rattle.laws.proofs.Deciding.{cases, clash, decides_lt, decides_yes}
use Rattle.laws.proofs.Counting.{count_inject}
use Rattle.laws.proofs.Testing.{and_both, both_and, or_cases, or_left, or_right, not_true, not_false, eqb_ne, eqb_false}
use Rattle.seating.specs.Running.{May, Running}
use Rattle.seating.specs.Strong.{Legal, Keeps}
use Rattle.seating.specs.Class.{Upward, holds_at, running, Most}
use Rattle.seating.proofs.Shut.{Shut}
use Rattle.seating.proofs.Same.{runs_dec}
use Rattle.seating.proofs.Keep.{Settled}
use Rattle.seating.proofs.Ranks.{Ranked, keeps_settled}

-- ---- a core that has a task of the class

holds_intro : {e : ℕ} (class : ℕ → Bool) (s : ℕ → ℕ) (c : ℕ) → s c ≢ e → class (s c) ≡ true → holds_at e class s c ≡ true
unfolding holds_at
holds_intro class s c h g = both_and (not_false (eqb_false h)) g

holds_elim : {e : ℕ} (class : ℕ → Bool) (s : ℕ → ℕ) (c : ℕ) → holds_at e class s c ≡ true → (s c ≢ e) × (class (s c) ≡ true)
unfolding holds_at
holds_elim {e} class s c h = let a = and_both (not (eqb (s c) e)) (class (s c)) h in (eqb_ne (not_true a.0), a.1)

-- ---- the bound

-- A set of cores that s holds by tasks of the class, none of which can leave it, around each task of the class that s'' runs on a core below m and s does not.
record Fence (n e : ℕ) (may : ℕ → ℕ → Bool) (class : ℕ → Bool) (s s'' : ℕ → ℕ) (m : ℕ) : Type 0 where
  K : ℕ → Bool
  full : (c : ℕ) → K c ≡ true → s c ≢ e
  early : (c : ℕ) → c < n → K c ≡ true → class (s c) ≡ true
  closed : (c : ℕ) → K c ≡ true → (d : ℕ) → May n may (s c) d → K d ≡ true
  around : (c : ℕ) → c < m → holds_at e class s'' c ≡ true → Running n e s (s'' c) ⊎ ((d : ℕ) → May n may (s'' c) d → K d ≡ true)

module _ {n e : ℕ} {may : ℕ → ℕ → Bool} {rank : ℕ → ℕ} {R : ℕ → Type 0} {s s'' : ℕ → ℕ} (I : Settled n e may rank R s) (L'' : Legal n e may R s'')
    (class : ℕ → Bool) (down : (t u : ℕ) → R t → R u → rank t < rank u → class u ≡ true → class t ≡ true) where
  fence : (m : ℕ) → m ≤ n → Fence n e may class s s'' m
  fence zero l = record { K = λ c. false; full = λ c k. clash k refl; early = λ c b k. clash k refl; closed = λ c k. clash k refl; around = λ c b. let z : ⊥ = omega arith in absurd z }
  fence (suc m) l = go (fence m (omega arith)) (cases (holds_at e class s'' m)) (runs_dec n e s (s'' m))
    where
      same : (F : Fence n e may class s s'' m) → (holds_at e class s'' m ≡ true → Running n e s (s'' m)) → Fence n e may class s s'' (suc m)
      same F h = record { K = F.K; full = F.full; early = F.early; closed = F.closed; around = λ c b g. at c b g (ℕ_discrete c m) }
        where
          at : (c : ℕ) → c < suc m → holds_at e class s'' c ≡ true → Dec (c ≡ m) → Running n e s (s'' c) ⊎ ((d : ℕ) → May n may (s'' c) d → F.K d ≡ true)
          at c b g (yes q) = inl (rw q (h (rw q at g)))
          at c b g (no q) = F.around c (omega arith) g

      more : (F : Fence n e may class s s'' m) → R (s'' m) → class (s'' m) ≡ true → Shut n e may rank s (s'' m) → Fence n e may class s s'' (suc m)
      more F r g H = record {
        K = λ c. F.K c || H.K c;
        full = λ c k. elim (or_cases {a = F.K c} {b = H.K c} k) [ inl i ↦ F.full c i | inr i ↦ H.full c i ];
        early = λ c b k. elim (or_cases {a = F.K c} {b = H.K c} k) [ inl i ↦ F.early c b i | inr i ↦ down (s c) (s'' m) (I.legal.ready c b (H.full c i)) r (H.before c i) g ];
        closed = λ c k d a. elim (or_cases {a = F.K c} {b = H.K c} k) [ inl i ↦ or_left (H.K d) (F.closed c i d a) | inr i ↦ or_right (F.K d) (H.closed c i d a) ];
        around = λ c b h. at c b h (ℕ_discrete c m);
      }
        where
          old : (c : ℕ) → Running n e s (s'' c) ⊎ ((d : ℕ) → May n may (s'' c) d → F.K d ≡ true) → Running n e s (s'' c) ⊎ ((d : ℕ) → May n may (s'' c) d → F.K d || H.K d ≡ true)
          old c (inl q) = inl q
          old c (inr q) = inr λ d a. or_left (H.K d) (q d a)

          at : (c : ℕ) → c < suc m → holds_at e class s'' c ≡ true → Dec (c ≡ m) → Running n e s (s'' c) ⊎ ((d : ℕ) → May n may (s'' c) d → F.K d || H.K d ≡ true)
          at c b h (yes q) = inr λ d a. or_right (F.K d) (H.starts d (rw q at a))
          at c b h (no q) = old c (F.around c (omega arith) h)

      go : Fence n e may class s s'' m → (holds_at e class s'' m ≡ true) ⊎ (holds_at e class s'' m ≡ false) → Running n e s (s'' m) ⊎ (Running n e s (s'' m) → ⊥) → Fence n e may class s s'' (suc m)
      go F (inr h) d = same F (λ g. clash g h)
      go F (inl h) (inl r) = same F (λ g. r)
      go F (inl h) (inr o) =
          let a = holds_elim class s'' m h in
          let r : R (s'' m) = L''.ready m l a.0 in
          more F r a.1 (I.shut (s'' m) (record { ready = r; off = o }))

  no_more : running n e class s'' ≤ running n e class s
  unfolding running
  no_more = count_inject (holds_at e class s'') (holds_at e class s) n n M there apart
    where
      F : Fence n e may class s s'' n
      F = fence n (omega arith)

      -- a core of the fence has itself; another one has the core on which s runs its task
      M : ℕ → ℕ → Type 0
      M c d = (c < n) × (s'' c ≢ e) × (((F.K c ≡ true) × (c ≡ d)) ⊎ ((F.K c ≡ false) × (d < n) × (s d ≡ s'' c)))

      there : (c : ℕ) → c < n → holds_at e class s'' c ≡ true → (d : ℕ) × (d < n) × (holds_at e class s d ≡ true) × M c d
      there c l h = go (cases (F.K c)) (F.around c l h)
        where
          a : (s'' c ≢ e) × (class (s'' c) ≡ true)
          a = holds_elim class s'' c h

          go : (F.K c ≡ true) ⊎ (F.K c ≡ false) → Running n e s (s'' c) ⊎ ((d : ℕ) → May n may (s'' c) d → F.K d ≡ true) → (d : ℕ) × (d < n) × (holds_at e class s d ≡ true) × M c d
          go (inl k) f = (c, l, holds_intro class s c (F.full c k) (F.early c l k), (l, a.0, inl (k, refl)))
          go (inr k) (inl r) = (r.core, r.below, holds_intro class s r.core (rw r.sits a.0) (rw r.sits a.1), (l, a.0, inr (k, r.below, r.sits)))
          go (inr k) (inr f) = clash (f c (l, L''.allowed c l a.0)) k

      apart : (a b d : ℕ) → M a d → M b d → a ≡ b
      apart a b d (l, h, inl (k, q)) (m, g, inl (i, p)) = q ∙ sym p
      apart a b d (l, h, inl (k, q)) (m, g, inr (i, o, p)) = clash (F.closed a k b (m, rw (sym (ap s q ∙ p)) at (L''.allowed b m g))) i
      apart a b d (l, h, inr (k, o, q)) (m, g, inl (i, p)) = clash (F.closed b i a (l, rw (sym (ap s p ∙ q)) at (L''.allowed a l h))) k
      apart a b d (l, h, inr (k, o, q)) (m, g, inr (i, o', p)) = L''.once a b l m h (sym q ∙ p)

-- ---- of any class that has, with a task, all that come before it

pub settled_most : {n e : ℕ} {may : ℕ → ℕ → Bool} {Before : ℕ → ℕ → Type 0} {rank : ℕ → ℕ} {R : ℕ → Type 0} {s : ℕ → ℕ} → Ranked R Before rank
    → Settled n e may rank R s → {class : ℕ → Bool} → Upward Before R class → Most n e may R class s
settled_most O I {class} U = record { most = λ s'' L''. no_more I L'' class (λ t u r q l. U.up t u r q (O.before t u r q l)) }

pub keeps_most : {n e : ℕ} {may : ℕ → ℕ → Bool} {Before : ℕ → ℕ → Type 0} {rank : ℕ → ℕ} {R : ℕ → Type 0} {s : ℕ → ℕ} → Ranked R Before rank
    → Keeps n e may Before R s → {class : ℕ → Bool} → Upward Before R class → Most n e may R class s
keeps_most O K = settled_most O (keeps_settled O K)

-- the tasks of rank below r are such a class, for any r
pub ranks_upward : {Before : ℕ → ℕ → Type 0} {rank : ℕ → ℕ} {R : ℕ → Type 0} → Ranked R Before rank → (r : ℕ) → Upward Before R (λ t. ltb (rank t) r)
ranks_upward {rank = rank} O r =
    record { up = λ t u a b l h. decides_yes (decides_lt (rank t) r) (let m = O.lower t u a b l in let k = (decides_lt (rank u) r).yes h in omega arith) }
