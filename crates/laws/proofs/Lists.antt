-- Reading a list, and who stands in one.
use Prim.Native.Nat.{ℕ, zero, suc, ◌≤◌, ◌<◌}
use mathlib.Core.Path.{◌≡◌, refl}
use mathlib.Core.Logic.{◌⊎◌, inl, inr}
use mathlib.Core.List.{List, [], ◌∷◌, ◌++◌}
use native.Mathlib.Decide.{ℕ_discrete}
use native.Mathlib.Nat.{not-suc-le-zero, le_of_suc-le-suc}
use lib.ListN.{length, get_or, replicate}
use Rattle.laws.specs.Lists.{In, All, Any}

-- below the length it does not matter what would stand beyond it
pub get_d_any : {A : Type 0} (l : List A) (i : ℕ) (a b : A) → i < length l → get_or l i a ≡ get_or l i b
get_d_any [] i a b h = absurd (not-suc-le-zero h)
get_d_any (x ∷ l) zero a b h = refl
get_d_any (x ∷ l) (suc i) a b h = get_d_any l i a b (le_of_suc-le-suc h)

-- beyond it nothing stands
pub get_d_beyond : {A : Type 0} (l : List A) (i : ℕ) (a : A) → length l ≤ i → get_or l i a ≡ a
get_d_beyond [] i a h = refl
get_d_beyond (x ∷ l) zero a h = absurd (not-suc-le-zero h)
get_d_beyond (x ∷ l) (suc i) a h = get_d_beyond l i a (le_of_suc-le-suc h)

-- where one value stands everywhere, it is read at every place, beyond the end too
pub get_or_all : {A : Type 0} (n : ℕ) (a : A) (i : ℕ) → get_or (replicate n a) i a ≡ a
get_or_all zero a i = refl
get_or_all (suc n) a zero = refl
get_or_all (suc n) a (suc i) = get_or_all n a i

-- what holds of each holds of the one at place i
pub all_at : {A : Type 0} (P : A → Type 0) (l : List A) (a : A) → All P l → (i : ℕ) → i < length l → P (get_or l i a)
all_at P [] a h i b = absurd (not-suc-le-zero b)
all_at P (x ∷ l) a h zero b = h.0
all_at P (x ∷ l) a h (suc i) b = all_at P l a h.1 i (le_of_suc-le-suc b)

-- a number stands in a list, or it does not
pub in_or_not : (c : ℕ) (s : List ℕ) → In c s ⊎ (In c s → ⊥)
in_or_not c [] = inr (λ i. i)
in_or_not c (d ∷ s) = go (ℕ_discrete c d) (in_or_not c s)
  where
    go : Dec (c ≡ d) → In c s ⊎ (In c s → ⊥) → In c (d ∷ s) ⊎ (In c (d ∷ s) → ⊥)
    go (yes e) _ = inl (inl e)
    go (no n) (inl i) = inl (inr i)
    go (no n) (inr o) = inr (λ i. elim i [ inl e ↦ n e | inr j ↦ o j ])

-- who stands in two lists, one after the other
pub in_append : (c : ℕ) (s t : List ℕ) → In c (s ++ t) → In c s ⊎ In c t
in_append c [] t i = inr i
in_append c (a ∷ s) t (inl e) = inl (inl e)
in_append c (a ∷ s) t (inr i) = elim (in_append c s t i) [ inl j ↦ inl (inr j) | inr j ↦ inr j ]

-- a claim on each, or on one, of two lists, one after the other
pub all_append : {A : Type 0} (P : A → Type 0) (s t : List A) → All P s → All P t → All P (s ++ t)
all_append P [] t h k = k
all_append P (x ∷ s) t h k = (h.0, all_append P s t h.1 k)

pub any_append : {A : Type 0} (P : A → Type 0) (s t : List A) → Any P (s ++ t) → Any P s ⊎ Any P t
any_append P [] t h = inr h
any_append P (x ∷ s) t (inl h) = inl (inl h)
any_append P (x ∷ s) t (inr h) = elim (any_append P s t h) [ inl k ↦ inl (inr k) | inr k ↦ inr k ]

pub any_left : {A : Type 0} (P : A → Type 0) (s t : List A) → Any P s → Any P (s ++ t)
any_left P [] t h = absurd h
any_left P (x ∷ s) t (inl h) = inl h
any_left P (x ∷ s) t (inr h) = inr (any_left P s t h)

pub any_right : {A : Type 0} (P : A → Type 0) (s t : List A) → Any P t → Any P (s ++ t)
any_right P [] t h = h
any_right P (x ∷ s) t h = inr (any_right P s t h)
