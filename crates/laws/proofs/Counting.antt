-- Lists in which no number stands twice, how many numbers below n pass a test, and that no such list of numbers below n is longer than n.
use Prim.Native.Nat.{ℕ, zero, suc, ◌+◌, ◌≤◌, ◌<◌}
use mathlib.Core.Path.{◌≡◌, refl, sym, ap, ◌∙◌, subst}
use mathlib.Core.Logic.{◌⊎◌, inl, inr, ◌≢◌}
use mathlib.Core.Bool.{Bool, true, false, not, ◌&&◌}
use mathlib.Core.List.{List, [], ◌∷◌}
use native.Mathlib.Nat.{not-suc-le-zero}
use native.Mathlib.Decide.{ℕ_discrete}
use native.Mathlib.Omega.{arith}
use lib.ListN.{length}
use lib.Dec.{eqb}
use Rattle.laws.specs.Lists.{In, Distinct, last}
use Rattle.laws.specs.Counting.{any_below, bit, count}
use Rattle.laws.proofs.Deciding.{cases, clash, decides_any}
use Rattle.laws.proofs.Testing.{eqb_true, eqb_false}

-- ---- lists

-- all but the last of c ∷ p
abbrev pub front : ℕ → List ℕ → List ℕ
front c [] = []
front c (d ∷ p) = c ∷ front d p

pub last_in : (c : ℕ) (p : List ℕ) → In (last c p) (c ∷ p)
last_in c [] = inl refl
last_in c (d ∷ p) = inr (last_in d p)

pub front_in : (c : ℕ) (p : List ℕ) {a : ℕ} → In a (front c p) → In a (c ∷ p)
front_in c [] h = absurd h
front_in c (d ∷ p) (inl h) = inl h
front_in c (d ∷ p) (inr h) = inr (front_in d p h)

pub front_distinct : (c : ℕ) (p : List ℕ) → Distinct (c ∷ p) → Distinct (front c p)
front_distinct c [] h = tt
front_distinct c (d ∷ p) h = (λ i. h.0 (front_in d p i), front_distinct d p h.1)

pub length_front : (c : ℕ) (p : List ℕ) → length (front c p) ≡ length p
length_front c [] = refl
length_front c (d ∷ p) = ap suc (length_front d p)

pub in_front_or_last : (c : ℕ) (p : List ℕ) {a : ℕ} → In a (c ∷ p) → In a (front c p) ⊎ (a ≡ last c p)
in_front_or_last c [] (inl h) = inr h
in_front_or_last c [] (inr h) = absurd h
in_front_or_last c (d ∷ p) (inl h) = inl (inl h)
in_front_or_last c (d ∷ p) (inr h) = go (in_front_or_last d p h)
  where
    go : {a : ℕ} → In a (front d p) ⊎ (a ≡ last d p) → In a (c ∷ front d p) ⊎ (a ≡ last d p)
    go (inl i) = inl (inr i)
    go (inr e) = inr e

pub last_not_front : (c : ℕ) (p : List ℕ) → Distinct (c ∷ p) → In (last c p) (front c p) → ⊥
last_not_front c [] h i = i
last_not_front c (d ∷ p) h (inl e) = h.0 (subst (λ (z : ℕ). In z (d ∷ p)) e (last_in d p))
last_not_front c (d ∷ p) h (inr i) = last_not_front d p h.1 i

pub in_dec : (a : ℕ) (l : List ℕ) → In a l ⊎ (In a l → ⊥)
in_dec a [] = inr (λ h. h)
in_dec a (b ∷ l) = go (ℕ_discrete a b) (in_dec a l)
  where
    go : Dec (a ≡ b) → In a l ⊎ (In a l → ⊥) → In a (b ∷ l) ⊎ (In a (b ∷ l) → ⊥)
    go (yes e) r = inl (inl e)
    go (no n) (inl i) = inl (inr i)
    go (no n) (inr k) = inr λ h. elim h [ inl e ↦ n e | inr i ↦ k i ]

-- ---- how many numbers below n pass a test

bit_le : (b : Bool) → bit b ≤ 1
bit_le true = omega arith
bit_le false = omega arith

pub count_le : (f : ℕ → Bool) (n : ℕ) → count f n ≤ n
count_le f zero = omega arith
count_le f (suc n) = let a = bit_le (f n) in let b = count_le f n in omega arith

pub count_same : (f g : ℕ → Bool) (n : ℕ) → ((c : ℕ) → c < n → f c ≡ g c) → count f n ≡ count g n
count_same f g zero h = refl
count_same f g (suc n) h =
    let a : f n ≡ g n = h n (omega arith) in
    let b = count_same f g n (λ c k. h c (omega arith)) in
    cc

pub count_none : (f : ℕ → Bool) (n : ℕ) → ((c : ℕ) → c < n → f c ≡ false) → count f n ≡ 0
count_none f zero h = refl
count_none f (suc n) h = rw (h n (omega arith)) (let b = count_none f n (λ c k. h c (omega arith)) in omega arith)

-- the test with one number taken out
pub without : (ℕ → Bool) → ℕ → ℕ → Bool
without f c d = f d && not (eqb d c)

pub without_at : (f : ℕ → Bool) (c : ℕ) → without f c c ≡ false
unfolding without
without_at f c = rw (eqb_true (refl {a = c})) (go (f c))
  where
    go : (b : Bool) → b && false ≡ false
    go true = refl
    go false = refl

pub without_other : (f : ℕ → Bool) (c : ℕ) {d : ℕ} → d ≢ c → without f c d ≡ f d
unfolding without
without_other f c {d} h = rw (eqb_false h) (go (f d))
  where
    go : (b : Bool) → b && true ≡ b
    go true = refl
    go false = refl

pub count_without : (f : ℕ → Bool) (c n : ℕ) → c < n → f c ≡ true → count f n ≡ suc (count (without f c) n)
count_without f c zero l t = absurd (not-suc-le-zero l)
count_without f c (suc n) l t = go (ℕ_discrete n c) (λ l'. count_without f c n l' t)
  where
    go : Dec (n ≡ c) → (c < n → count f n ≡ suc (count (without f c) n)) → bit (f n) + count f n ≡ suc (bit (without f c n) + count (without f c) n)
    go (yes e) ih =
        let a : f n ≡ true = rw e t in
        let b : without f c n ≡ false = rw e (without_at f c) in
        rw (a, b) (let k = count_same f (without f c) n (λ d m. sym (without_other f c (omega arith))) in omega arith)
    go (no h) ih =
        let b : without f c n ≡ f n = without_other f c h in
        rw b (let k = ih (omega arith) in omega arith)

-- a test that passes more

bit_mono : (a b : Bool) → (a ≡ true → b ≡ true) → bit a ≤ bit b
bit_mono true b h = rw (h refl) (omega arith)
bit_mono false b h = omega arith

pub count_mono : (f g : ℕ → Bool) (n : ℕ) → ((c : ℕ) → f c ≡ true → g c ≡ true) → count f n ≤ count g n
count_mono f g zero h = omega arith
count_mono f g (suc n) h = let a = bit_mono (f n) (g n) (h n) in let b = count_mono f g n h in omega arith

pub count_more : (f g : ℕ → Bool) (n c : ℕ) → ((a : ℕ) → f a ≡ true → g a ≡ true) → c < n → g c ≡ true → f c ≡ false → count f n < count g n
count_more f g n c h l t o =
    let a = count_without g c n l t in
    let b = count_mono f (without g c) n (λ a i. without_other g c (λ q. clash i (rw q o)) ∙ h a i) in
    omega arith

-- each number below n that passes f has one below m that passes g, and no two have the same
pub count_inject : (f g : ℕ → Bool) (n m : ℕ) (M : ℕ → ℕ → Type 0) → ((c : ℕ) → c < n → f c ≡ true → (d : ℕ) × (d < m) × (g d ≡ true) × M c d)
    → ((a b d : ℕ) → M a d → M b d → a ≡ b) → count f n ≤ count g m
count_inject f g zero m M h u = omega arith
count_inject f g (suc n) m M h u = go (cases (f n)) (λ g' h'. count_inject f g' n m M h' u)
  where
    go : (f n ≡ true) ⊎ (f n ≡ false) → ((g' : ℕ → Bool) → ((c : ℕ) → c < n → f c ≡ true → (d : ℕ) × (d < m) × (g' d ≡ true) × M c d) → count f n ≤ count g' m)
        → bit (f n) + count f n ≤ count g m
    go (inr k) ih = rw k (let a = ih g (λ c l t. h c (omega arith) t) in omega arith)
    go (inl k) ih = rw k (let a = ih (without g d) other in let b = count_without g d m at.1 at.2 in omega arith)
      where
        at : (d : ℕ) × (d < m) × (g d ≡ true) × M n d
        at = h n (omega arith) k

        d : ℕ
        d = at.0

        other : (c : ℕ) → c < n → f c ≡ true → (d' : ℕ) × (d' < m) × (without g d d' ≡ true) × M c d'
        other c l t = let r = h c (omega arith) t in
            (r.0, r.1, without_other g d (λ q. let z : c ≡ n = u c n d (rw q at r.3) at.3 in omega arith) ∙ r.2, r.3)

-- A list of different numbers below n that all pass the test is no longer than the count;
pub length_le_count : (p : List ℕ) (f : ℕ → Bool) (n : ℕ) → Distinct p → ((c : ℕ) → In c p → (c < n) × (f c ≡ true)) → length p ≤ count f n
length_le_count [] f n d h = omega arith
length_le_count (c ∷ p) f n d h =
    let ih = length_le_count p (without f c) n d.1 (λ a i. ((h a (inr i)).0, without_other f c (λ e. d.0 (subst (λ (z : ℕ). In z p) e i)) ∙ (h a (inr i)).1)) in
    let k = count_without f c n (h c (inl refl)).0 (h c (inl refl)).1 in
    omega arith

-- it is as long where no other number passes it;
pub length_is_count : (p : List ℕ) (f : ℕ → Bool) (n : ℕ) → Distinct p → ((c : ℕ) → In c p → (c < n) × (f c ≡ true))
    → ((c : ℕ) → c < n → f c ≡ true → In c p) → count f n ≡ length p
length_is_count [] f n d h g = count_none f n λ c l. go c l (cases (f c))
  where
    go : (c : ℕ) → c < n → (f c ≡ true) ⊎ (f c ≡ false) → f c ≡ false
    go c l (inl t) = absurd (g c l t)
    go c l (inr e) = e
length_is_count (c ∷ p) f n d h g =
    let ih = length_is_count p (without f c) n d.1 (λ a i. ((h a (inr i)).0, without_other f c (λ e. d.0 (subst (λ (z : ℕ). In z p) e i)) ∙ (h a (inr i)).1)) rest in
    let k = count_without f c n (h c (inl refl)).0 (h c (inl refl)).1 in
    k ∙ ap suc ih
  where
    rest : (a : ℕ) → a < n → without f c a ≡ true → In a p
    rest a l t = go (ℕ_discrete a c)
      where
        tail : a ≢ c → In a (c ∷ p) → In a p
        tail k (inl e) = absurd (k e)
        tail k (inr i) = i

        go : Dec (a ≡ c) → In a p
        go (yes e) = clash t (subst (λ (z : ℕ). without f c z ≡ false) (sym e) (without_at f c))
        go (no k) = tail k (g a l (sym (without_other f c k) ∙ t))

-- and no list of different numbers below n is longer than n
pub pigeonhole : (p : List ℕ) (n : ℕ) → Distinct p → ((c : ℕ) → In c p → c < n) → length p ≤ n
pigeonhole p n d h = let a = length_le_count p (λ c. true) n d (λ c i. (h c i, refl)) in let b = count_le (λ c. true) n in omega arith

-- ---- a search below n

pub find : (f : ℕ → Bool) (n : ℕ) → ((c : ℕ) × (c < n) × (f c ≡ true)) ⊎ ((c : ℕ) → c < n → f c ≡ false)
find f zero = inr λ c l. absurd (not-suc-le-zero l)
find f (suc n) = go (cases (f n)) (find f n)
  where
    go : (f n ≡ true) ⊎ (f n ≡ false) → ((c : ℕ) × (c < n) × (f c ≡ true)) ⊎ ((c : ℕ) → c < n → f c ≡ false)
        → ((c : ℕ) × (c < suc n) × (f c ≡ true)) ⊎ ((c : ℕ) → c < suc n → f c ≡ false)
    go (inl t) r = inl (n, omega arith, t)
    go (inr t) (inl r) = inl (r.0, omega arith, r.2)
    go (inr t) (inr r) = inr λ c l. at c l (ℕ_discrete c n)
      where
        at : (c : ℕ) → c < suc n → Dec (c ≡ n) → f c ≡ false
        at c l (yes e) = rw e t
        at c l (no k) = r c (omega arith)

-- ---- some number below n passes a test

pub any_true : (f : ℕ → Bool) (n d : ℕ) → d < n → f d ≡ true → any_below f n ≡ true
any_true f n d l h = go (cases (any_below f n))
  where
    go : (any_below f n ≡ true) ⊎ (any_below f n ≡ false) → any_below f n ≡ true
    go (inl t) = t
    go (inr t) = absurd ((decides_any {P = λ k. f k ≡ true} {f = f} n (λ k m. record { yes = λ y. y; no = λ z y. clash y z })).no t (d, l, h))

pub any_find : (f : ℕ → Bool) (n : ℕ) → any_below f n ≡ true → (d : ℕ) × (d < n) × (f d ≡ true)
any_find f n = (decides_any {P = λ k. f k ≡ true} {f = f} n (λ k m. record { yes = λ y. y; no = λ z y. clash y z })).yes
