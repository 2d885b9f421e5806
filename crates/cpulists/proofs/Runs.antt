-- A set has one list of longest runs, and so one text.
use Prim.Native.Nat.{ℕ, ◌+◌, ◌≤◌, ◌<◌}
use mathlib.Core.Path.{◌≡◌, refl, sym, ap, ◌∙◌}
use mathlib.Core.Logic.{◌⊎◌, inl, inr}
use mathlib.Core.Bool.{true, false}
use mathlib.Core.List.{List, [], ◌∷◌, map}
use native.Mathlib.Decide.{dec_lt}
use native.Mathlib.Omega.{arith}
use Rattle.laws.specs.Decides.{Decides}
use Rattle.laws.specs.Lists.{All, Any}
use Rattle.laws.proofs.Deciding.{cases, decides_yes}
use Rattle.masks.specs.Masks.{has}
use Rattle.cpulists.specs.List.{list_text, Run, Covers, Ascending, run_item, ListOf}
use Rattle.cpulists.specs.Longest.{IsLongest}
use Rattle.cpulists.proofs.Ascending.{covers_from}

-- ---- the same cores, the same runs

-- whatever the first runs cover, the second cover
record Within (xs ys : List Run) : Type 0 where
  pub each : (k : ℕ) → Any (Covers k) xs → Any (Covers k) ys

module _ {c d : ℕ} {r q : Run} {xs ys : List Run} (a : Ascending c (r ∷ xs)) (b : Ascending d (q ∷ ys)) (h : Within (r ∷ xs) (q ∷ ys)) where
  first_after : q.first ≤ r.first
  first_after = covers_from q.first r.first (q ∷ ys) (omega arith, b.1, b.2) (h.each r.first (inl (omega arith, a.1)))

  -- the core after the second run is in none of the second, so that the first run does not reach it
  last_within : r.first ≤ q.first → r.last ≤ q.last
  last_within l = go (dec_lt q.last r.last)
    where
      at : q.last < r.last → Covers (q.last + 1) q ⊎ Any (Covers (q.last + 1)) ys → r.last ≤ q.last
      at s (inl i) = absurd (omega (arith, i.1))
      at s (inr i) = absurd (omega (arith, covers_from (q.last + 2) (q.last + 1) ys b.2 i))

      go : Dec (q.last < r.last) → r.last ≤ q.last
      go (no n) = omega arith
      go (yes s) = at s (h.each (q.last + 1) (inl (omega (arith, b.1), omega arith)))

  rest_within : q.last ≤ r.last → Within xs ys
  rest_within l = record { each = λ k i. go k i (h.each k (inr i)) }
    where
      go : (k : ℕ) → Any (Covers k) xs → Covers k q ⊎ Any (Covers k) ys → Any (Covers k) ys
      go k i (inl j) = absurd (omega (arith, j.1, covers_from (r.last + 2) k xs a.2 i))
      go k i (inr j) = j

lists_same : (c d : ℕ) (xs ys : List Run) → Ascending c xs → Ascending d ys → Within xs ys → Within ys xs → xs ≡ ys
lists_same c d [] [] a b h g = refl
lists_same c d [] (q ∷ ys) a b h g = absurd (g.each q.first (inl (omega arith, b.1)))
lists_same c d (r ∷ xs) [] a b h g = absurd (h.each r.first (inl (omega arith, a.1)))
lists_same c d (r ∷ xs) (q ∷ ys) a b h g =
    let p = first_after a b h in
    let o = first_after b a g in
    let first : r.first ≡ q.first = omega arith in
    let l = last_within a b h o in
    let m = last_within b a g p in
    let last : r.last ≡ q.last = omega arith in
    let rest = lists_same (r.last + 2) (q.last + 2) xs ys a.2 b.2 (rest_within a b h m) (rest_within b a g l) in
    λ i. record { first = first i; last = last i } ∷ rest i

pub runs_same : (s : ℕ) (xs ys : List Run) → Ascending 0 xs → Ascending 0 ys → ((c : ℕ) → Decides (Any (Covers c) xs) (has s c)) → ((c : ℕ) → Decides (Any (Covers c) ys) (has s c))
    → xs ≡ ys
runs_same s xs ys a b h g = lists_same 0 0 xs ys a b (record { each = λ k i. (g k).yes (decides_yes (h k) i) }) (record { each = λ k i. (h k).yes (decides_yes (g k) i) })

pub list_text_same : (s : ℕ) (t u : List ℕ) → ListOf s t → ListOf s u → t ≡ u
list_text_same s t u v w = v.is ∙ ap (λ (rs : List Run). list_text (map run_item rs)) (runs_same s v.runs w.runs v.ascending w.ascending v.cores w.cores) ∙ sym w.is

-- ---- each is as long as can be

-- of the cores from the one before c on, the runs cover those in the set
runs_longest : (s c : ℕ) (rs : List Run) → Ascending c rs → ((k : ℕ) → Any (Covers k) rs → has s k ≡ true) → ((k : ℕ) → c ≤ k + 1 → has s k ≡ true → Any (Covers k) rs)
    → All (IsLongest s) rs
runs_longest s c [] a h g = tt
runs_longest s c (r ∷ rs) a h g = (
  record { some = a.1; each = λ k i. h k (inl i); after = out (r.last + 1) (omega (arith, a.0, a.1)) (no_more (r.last + 1) (omega arith) (omega arith)); before = λ k e. out k (omega (arith, a.0)) (no_fewer k (omega arith)) },
  runs_longest s (r.last + 2) rs a.2 (λ k i. h k (inr i)) (λ k l y. rest k l (g k (omega (arith, a.0, a.1)) y)),
)
  where
    out : (k : ℕ) → c ≤ k + 1 → (Any (Covers k) (r ∷ rs) → ⊥) → has s k ≡ false
    out k l n = elim (cases (has s k)) [ inl t ↦ absurd (n (g k l t)) | inr f ↦ f ]

    rest : (k : ℕ) → r.last + 2 ≤ k + 1 → Any (Covers k) (r ∷ rs) → Any (Covers k) rs
    rest k l (inl i) = absurd (omega (arith, i.1))
    rest k l (inr i) = i

    no_more : (k : ℕ) → r.last < k → k < r.last + 2 → Any (Covers k) (r ∷ rs) → ⊥
    no_more k l b (inl i) = omega (arith, i.1)
    no_more k l b (inr i) = omega (arith, covers_from (r.last + 2) k rs a.2 i)

    no_fewer : (k : ℕ) → k < r.first → Any (Covers k) (r ∷ rs) → ⊥
    no_fewer k l i = omega (arith, covers_from r.first k (r ∷ rs) (omega arith, a.1, a.2) i)

pub longest : {s : ℕ} {t : List ℕ} (w : ListOf s t) → All (IsLongest s) w.runs
longest {s} w = runs_longest s 0 w.runs w.ascending (λ k i. decides_yes (w.cores k) i) (λ k _. (w.cores k).yes)
