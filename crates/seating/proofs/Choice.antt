-- Which chain a call takes: of the chains from x whose last core passes a test, the shortest, and of the shortest the one with the smaller core at the
-- first place where they differ.
use Prim.Native.Nat.{ℕ, suc, ◌≤◌, ◌<◌}
use mathlib.Core.Path.{◌≡◌, refl, sym, ap, ap₂, ◌∙◌}
use mathlib.Core.Logic.{◌⊎◌, inl, inr}
use mathlib.Core.Bool.{Bool, true}
use mathlib.Core.List.{List, [], ◌∷◌}
use native.Mathlib.Omega.{arith}
use lib.ListN.{length}
use Rattle.laws.proofs.Counting.{last_in}
use Rattle.laws.specs.Lists.{last}
use Rattle.seating.proofs.Take.{chain_below}
use Rattle.seating.specs.Chain.{Chain}
use Rattle.seating.specs.Chosen.{NotAfter, Chosen, Unreached}

-- ---- at most one chain is chosen

same_list : (p q : List ℕ) → length p ≡ length q → NotAfter p q → NotAfter q p → p ≡ q
same_list [] [] l h k = refl
same_list [] (d ∷ q) l h k = absurd k
same_list (c ∷ p) [] l h k = absurd h
same_list (c ∷ p) (d ∷ q) l (inl h) (inl k) = absurd (omega arith)
same_list (c ∷ p) (d ∷ q) l (inl h) (inr k) = let u = k.0 in absurd (omega arith)
same_list (c ∷ p) (d ∷ q) l (inr h) (inl k) = let u = h.0 in absurd (omega arith)
same_list (c ∷ p) (d ∷ q) l (inr h) (inr k) = ap₂ (λ (a : ℕ) (t : List ℕ). a ∷ t) h.0 (same_list p q (omega arith) h.1 k.1)

pub chosen_same : {n e : ℕ} {may : ℕ → ℕ → Bool} {s : ℕ → ℕ} {x : ℕ} {Target : ℕ → Bool} {c d : ℕ} {p q : List ℕ}
    → Chosen n e may s x Target c p → Chosen n e may s x Target d q → c ∷ p ≡ d ∷ q
chosen_same {c = c} {d} {p} {q} A B = go (A.best d q B.chain B.hits) (B.best c p A.chain A.hits)
  where
    go : (length p < length q) ⊎ ((length p ≡ length q) × NotAfter (c ∷ p) (d ∷ q)) → (length q < length p) ⊎ ((length q ≡ length p) × NotAfter (d ∷ q) (c ∷ p)) → c ∷ p ≡ d ∷ q
    go (inl a) (inl b) = absurd (omega arith)
    go (inl a) (inr b) = let u = b.0 in absurd (omega arith)
    go (inr a) (inl b) = let u = a.0 in absurd (omega arith)
    go (inr a) (inr b) = same_list (c ∷ p) (d ∷ q) (ap suc a.0) a.1 b.1

pub chosen_shortest : {n e : ℕ} {may : ℕ → ℕ → Bool} {s : ℕ → ℕ} {x : ℕ} {Target : ℕ → Bool} {c : ℕ} {p : List ℕ} → Chosen n e may s x Target c p
    → (d : ℕ) (q : List ℕ) → Chain n e may s x d q → Target (last d q) ≡ true → length p ≤ length q
chosen_shortest {c = c} {p} A d q h t = go (A.best d q h t)
  where
    go : (length p < length q) ⊎ ((length p ≡ length q) × NotAfter (c ∷ p) (d ∷ q)) → length p ≤ length q
    go (inl a) = omega arith
    go (inr a) = let u = a.0 in omega arith

-- ---- only the target's cores below n matter

pub chosen_target : {n e : ℕ} {may : ℕ → ℕ → Bool} {s : ℕ → ℕ} {x : ℕ} {T : ℕ → Bool} (T' : ℕ → Bool) {c : ℕ} {p : List ℕ} → ((a : ℕ) → a < n → T a ≡ T' a)
    → Chosen n e may s x T c p → Chosen n e may s x T' c p
chosen_target T' {c} {p} f C = record {
  chain = C.chain;
  hits = sym (f (last c p) (chain_below C.chain (last c p) (last_in c p))) ∙ C.hits;
  best = λ d q h t. C.best d q h (f (last d q) (chain_below h (last d q) (last_in d q)) ∙ t);
}

pub unreached_target : {n e : ℕ} {may : ℕ → ℕ → Bool} {s : ℕ → ℕ} {x : ℕ} {T : ℕ → Bool} (T' : ℕ → Bool) → ((a : ℕ) → a < n → T a ≡ T' a) → Unreached n e may s x T → Unreached n e may s x T'
unreached_target T' f U = record { none = λ d q h t. U.none d q h (f (last d q) (chain_below h (last d q) (last_in d q)) ∙ t) }
