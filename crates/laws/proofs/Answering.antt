-- The number that a call answers: turns, rows of a table put together and taken apart, and that there is one number.
use Prim.Native.Nat.{ℕ, suc, ◌≤◌, ◌<◌}
use mathlib.Core.Path.{◌≡◌, refl, sym, ◌∙◌}
use mathlib.Core.Logic.{◌≢◌, ◌⊎◌, inl, inr}
use mathlib.Core.List.{List, [], ◌∷◌, ◌++◌}
use native.Mathlib.Decide.{ℕ_discrete}
use native.Mathlib.Omega.{arith}
use lib.ListN.{length}
use borrow.Author.Tests.{eq-eqb, ne_eqb}
use Rattle.laws.specs.Lists.{In}
use Rattle.laws.specs.Answering.{Refusal, ◌when◌, Applies, checked_first, turn_after, turn_of, Answers}

-- ---- turns

turn_here : (k : ℕ) (ks : List ℕ) {n : ℕ} → n ≡ k → turn_after (k ∷ ks) n ≡ 0
turn_here k ks {n} e = rw (eq-eqb n k e) refl

turn_on : (k : ℕ) (ks : List ℕ) {n : ℕ} → n ≢ k → turn_after (k ∷ ks) n ≡ suc (turn_after ks n)
turn_on k ks {n} z = rw (ne_eqb n k z) refl

-- no two numbers have one turn
turn_same : (ks : List ℕ) {m n : ℕ} → turn_after ks m ≡ turn_after ks n → m ≡ n
turn_same [] e = e
turn_same (k ∷ ks) {m} {n} e = go (ℕ_discrete m k) (ℕ_discrete n k) (λ l. turn_same ks l)
  where
    go : Dec (m ≡ k) → Dec (n ≡ k) → (turn_after ks m ≡ turn_after ks n → m ≡ n) → m ≡ n
    go (yes p) (yes q) on = p ∙ sym q
    go (yes p) (no q) on = absurd (omega (arith, e, turn_here k ks p, turn_on k ks q))
    go (no p) (yes q) on = absurd (omega (arith, e, turn_on k ks p, turn_here k ks q))
    go (no p) (no q) on = on (omega (arith, e, turn_on k ks p, turn_on k ks q))

-- the numbers of the list have the first turns, and all others later ones
pub first_turn : (ks : List ℕ) (n : ℕ) → In n ks → turn_after ks n < length ks
first_turn [] n i = absurd i
first_turn (k ∷ ks) n (inl e) = omega (arith, turn_here k ks e)
first_turn (k ∷ ks) n (inr i) = go (ℕ_discrete n k) (first_turn ks n i)
  where
    go : Dec (n ≡ k) → turn_after ks n < length ks → turn_after (k ∷ ks) n < suc (length ks)
    go (yes e) l = omega (arith, turn_here k ks e)
    go (no z) l = omega (arith, turn_on k ks z, l)

pub turn_first : (ks : List ℕ) (n : ℕ) → turn_after ks n < length ks → In n ks
turn_first [] n l = absurd (omega arith)
turn_first (k ∷ ks) n l = go (ℕ_discrete n k) (λ m. turn_first ks n m)
  where
    go : Dec (n ≡ k) → (turn_after ks n < length ks → In n ks) → In n (k ∷ ks)
    go (yes e) on = inl e
    go (no z) on = inr (on (omega (arith, l, turn_on k ks z)))

-- the turns of all rows of a table are t or come later
abbrev pub AllFrom : ℕ → List Refusal → Type 0
AllFrom t [] = Unit {0}
AllFrom t (r ∷ rs) = (t ≤ turn_of r.number) × AllFrom t rs

pub from_applies : (t : ℕ) (rs : List Refusal) (n : ℕ) → AllFrom t rs → Applies rs n → t ≤ turn_of n
from_applies t [] n l a = absurd a
from_applies t (r ∷ rs) n l (inl (e, _)) = rw e l.0
from_applies t (r ∷ rs) n l (inr a) = from_applies t rs n l.1 a

-- none of the rows is checked first
abbrev pub AllLater : List Refusal → Type 0
AllLater rs = AllFrom (length checked_first) rs

-- ---- done or refused

-- where a call is done, no refusal applies
pub none_applies : {rs : List Refusal} {n : ℕ} → Answers rs n → n ≡ 0 → (m : ℕ) → Applies rs m → ⊥
none_applies h z m a = let p = h.first m a in omega (arith, p.0)

-- where no refusal applies, a call is done
pub done_where_none : {rs : List Refusal} {n : ℕ} → Answers rs n → ((m : ℕ) → Applies rs m → ⊥) → n ≡ 0
done_where_none {n = n} h none = go (ℕ_discrete n 0)
  where
    go : Dec (n ≡ 0) → n ≡ 0
    go (yes z) = z
    go (no z) = absurd (none n (h.listed z))

-- ---- rows and then more rows

pub applies_left : (rs more : List Refusal) (n : ℕ) → Applies rs n → Applies (rs ++ more) n
applies_left [] more n a = absurd a
applies_left (r ∷ rs) more n (inl a) = inl a
applies_left (r ∷ rs) more n (inr a) = inr (applies_left rs more n a)

pub applies_right : (rs more : List Refusal) (n : ℕ) → Applies more n → Applies (rs ++ more) n
applies_right [] more n a = a
applies_right (r ∷ rs) more n a = inr (applies_right rs more n a)

pub applies_split : (rs more : List Refusal) (n : ℕ) → Applies (rs ++ more) n → Applies rs n ⊎ Applies more n
applies_split [] more n a = inr a
applies_split (r ∷ rs) more n (inl a) = inl (inl a)
applies_split (r ∷ rs) more n (inr a) = go (applies_split rs more n a)
  where
    go : Applies rs n ⊎ Applies more n → Applies (r ∷ rs) n ⊎ Applies more n
    go (inl b) = inl (inr b)
    go (inr b) = inr b

-- rows whose causes hold alike
pub answers_by : {rs qs : List Refusal} {n : ℕ} → ((m : ℕ) → Applies rs m → Applies qs m) → ((m : ℕ) → Applies qs m → Applies rs m) → Answers rs n → Answers qs n
answers_by {n = n} to from h = record { listed = λ z. to n (h.listed z); first = λ m a. h.first m (from m a) }

-- one of the first rows applies, and the turns of the others come later
pub answers_first : (rs more : List Refusal) {n : ℕ} → Answers rs n → n ≢ 0 → ((m : ℕ) → Applies more m → turn_of n < turn_of m) → Answers (rs ++ more) n
answers_first rs more {n} h z above = record { listed = λ y. applies_left rs more n (h.listed y); first = λ m a. go m (applies_split rs more m a) }
  where
    go : (m : ℕ) → Applies rs m ⊎ Applies more m → (0 < n) × (turn_of n ≤ turn_of m)
    go m (inl a) = h.first m a
    go m (inr a) = let l = above m a in (omega arith, omega arith)

-- none of the first rows applies
pub answers_then : (rs more : List Refusal) {k : ℕ} → Answers rs 0 → Answers more k → Answers (rs ++ more) k
answers_then rs more {k} h g = record { listed = λ y. applies_right rs more k (g.listed y); first = λ m a. go m (applies_split rs more m a) }
  where
    go : (m : ℕ) → Applies rs m ⊎ Applies more m → (0 < k) × (turn_of k ≤ turn_of m)
    go m (inl a) = absurd (none_applies h refl m a)
    go m (inr a) = g.first m a

-- where a call is done, none of the later rows applies
pub answers_rest : (rs more : List Refusal) {n : ℕ} → Answers (rs ++ more) n → n ≡ 0 → Answers more 0
answers_rest rs more h z = record { listed = λ y. absurd (y refl); first = λ m a. absurd (none_applies h z m (applies_right rs more m a)) }

-- the answer is none of the later rows'
pub answers_left : (rs more : List Refusal) {n : ℕ} → (Applies more n → ⊥) → Answers (rs ++ more) n → Answers rs n
answers_left rs more {n} out h = record { listed = λ z. go (applies_split rs more n (h.listed z)); first = λ m a. h.first m (applies_left rs more m a) }
  where
    go : Applies rs n ⊎ Applies more n → Applies rs n
    go (inl a) = a
    go (inr a) = absurd (out a)

-- the turns of the first rows come before the answer's, so none of them applies
pub answers_past : (rs more : List Refusal) {n : ℕ} → ((m : ℕ) → Applies rs m → turn_of m < turn_of n) → Answers (rs ++ more) n → Answers rs 0
answers_past rs more above h = record { listed = λ z. absurd (z refl); first = λ m a. let l = above m a in let k = h.first m (applies_left rs more m a) in absurd (omega (arith, l, k.1)) }

-- ---- one row

pub answers_one : {P : Type 0} (k : ℕ) → 0 < k → P → Answers (k when P ∷ []) k
answers_one {P} k l p = record { listed = λ _. inl (refl, p); first = go }
  where
    go : (m : ℕ) → Applies (k when P ∷ []) m → (0 < k) × (turn_of k ≤ turn_of m)
    go m (inl (e, _)) = (l, rw e (omega arith))
    go m (inr a) = absurd a

pub answers_none : {P : Type 0} (k : ℕ) → (P → ⊥) → Answers (k when P ∷ []) 0
answers_none {P} k n = record { listed = λ z. absurd (z refl); first = go }
  where
    go : (m : ℕ) → Applies (k when P ∷ []) m → (0 < 0) × (turn_of 0 ≤ turn_of m)
    go m (inl (_, p)) = absurd (n p)
    go m (inr a) = absurd a

-- ---- a table allows one number

pub answers_same : {rs : List Refusal} {m n : ℕ} → Answers rs m → Answers rs n → m ≡ n
answers_same {m} {n} a b = go (ℕ_discrete m 0) (ℕ_discrete n 0)
  where
    go : Dec (m ≡ 0) → Dec (n ≡ 0) → m ≡ n
    go (yes p) (yes q) = p ∙ sym q
    go (yes p) (no q) = let l = a.first n (b.listed q) in omega (arith, l.0)
    go (no p) (yes q) = let l = b.first m (a.listed p) in omega (arith, l.0)
    go (no p) (no q) = let l = a.first n (b.listed q) in let k = b.first m (a.listed p) in turn_same checked_first (omega (arith, l.1, k.1))
