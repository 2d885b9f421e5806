-- The search as a function: what antt computes for a small machine, and what a call's definition uses.
use Prim.Native.Nat.{ℕ, zero, suc, ◌+◌, ◌≤◌, ◌<◌}
use mathlib.Core.Path.{◌≡◌, refl, sym, ap, ◌∙◌}
use mathlib.Core.Bool.{Bool, true, false, not, ◌&&◌, cond}
use mathlib.Core.List.{List, [], ◌∷◌}
use native.Mathlib.Omega.{arith}
use native.Mathlib.Nat.{not-suc-le-zero}
use lib.ListN.{get_or}
use lib.Dec.{eqb, ltb, leb}
use borrow.Author.Tests.{ltb-true, ltb-false}
use Rattle.laws.proofs.Deciding.{clash}
use Rattle.laws.proofs.Testing.{eqb_eq, eqb_true, and_both, both_and, eqb_false, eqb_ne, not_false, not_true}
use Rattle.seating.proofs.Near.{walk, Graph, Marked, Missed, levels_chosen, levels_none, lowest, marked_start, missed_next, turn, turn_kept, turn_marked}
use Rattle.seating.specs.Chosen.{Chosen, Unreached}
use Rattle.seating.specs.Reached.{Reached}

pub data Way : Type 0 where
  takes : ℕ → List ℕ → Way
  nothing : Way

-- a list of n values, from the index i
unfoldable pub table : (ℕ → ℕ) → ℕ → ℕ → List ℕ
table f i zero = []
table f i (suc n) = f i ∷ table f (i + 1) n

pub get_or_table : (f : ℕ → ℕ) (i n c : ℕ) → c < n → get_or (table f i n) c 0 ≡ f (i + c)
unfolding table
get_or_table f i zero c l = absurd (not-suc-le-zero l)
get_or_table f i (suc n) zero l = ap f same
  where
    same : i ≡ i + 0
    same = omega arith
get_or_table f i (suc n) (suc c) l = get_or_table f (i + 1) n c (omega arith) ∙ ap f same
  where
    same : i + 1 + c ≡ i + suc c
    same = omega arith

at_table : (f : ℕ → ℕ) (n c : ℕ) → c < n → get_or (table f 0 n) c 0 ≡ f c
at_table f n c l = get_or_table f 0 n c l ∙ ap f same
  where
    same : 0 + c ≡ c
    same = omega arith

abbrev pub marked : List ℕ → ℕ → ℕ → Bool
marked marks k c = leb (get_or marks c 0) k

-- the rounds from the k-th on, at most so many
unfoldable pub find : ℕ → (ℕ → ℕ → Bool) → (ℕ → Bool) → ℕ → ℕ → List ℕ → Way
find n G S zero k marks = nothing
find n G S (suc f) k marks =
    let c = lowest n S (marked marks k) in
    let r = find n G S f (k + 1) (table (turn n G (λ d. get_or marks d 0) k) 0 n) in
    cond (ltb c n) (takes c (walk n G (marked marks) k c)) r

-- c is held, and its task may go to d
abbrev pub goes : ℕ → (ℕ → ℕ → Bool) → (ℕ → ℕ) → ℕ → ℕ → Bool
goes e may s c d = not (eqb (s c) e) && may (s c) d

unfoldable pub chosen_of : ℕ → ℕ → (ℕ → ℕ → Bool) → (ℕ → ℕ) → ℕ → (ℕ → Bool) → Way
chosen_of n e may s x T = find n (goes e may s) (may x) n 0 (table (λ c. cond (T c) 0 (n + 1)) 0 n)

-- what an outcome says
abbrev pub Says : ℕ → ℕ → (ℕ → ℕ → Bool) → (ℕ → ℕ) → ℕ → (ℕ → Bool) → Way → Type 0
Says n e may s x T (takes c p) = Chosen n e may s x T c p
Says n e may s x T nothing = Unreached n e may s x T

pub goes_graph : (n e : ℕ) (may : ℕ → ℕ → Bool) (s : ℕ → ℕ) → Graph n e may s (goes e may s)
goes_graph n e may s = record {
  held = λ c d l m h. eqb_ne (not_true (and_both (not (eqb (s c) e)) (may (s c) d) h).0);
  used = λ c d l m h. (and_both (not (eqb (s c) e)) (may (s c) d) h).1;
  back = λ c d l m h k. both_and (not_false (eqb_false h)) k;
}

module _ (n e : ℕ) (may : ℕ → ℕ → Bool) (s : ℕ → ℕ) (x : ℕ) (G : ℕ → ℕ → Bool) (H : Graph n e may s G) (T : ℕ → Bool) where
  find_says : (f k : ℕ) (marks : List ℕ) → Marked (n + 1) n G T (λ c. get_or marks c 0) k → Missed n (may x) (marked marks) k → k + f ≡ n → Says n e may s x T (find n G (may x) f k marks)
  unfolding find
  find_says zero k marks M W q = levels_none H M.levels (omega arith) W
  find_says (suc f) k marks M W q = go (lowest n (may x) (marked marks k)) refl (ltb (lowest n (may x) (marked marks k)) n) refl
      (λ l. find_says f (k + 1) next (turn_marked (omega arith) M (at_table (turn n G (λ d. get_or marks d 0) k) n)) (missed l) (omega arith))
    where
      next : List ℕ
      next = table (turn n G (λ d. get_or marks d 0) k) 0 n

      missed : n ≤ lowest n (may x) (marked marks k) → Missed n (may x) (marked next) (k + 1)
      missed l i c m b h t = missed_next n (may x) (marked marks) k W l i c m b h
          (sym (turn_kept (omega arith) M (at_table (turn n G (λ d. get_or marks d 0) k) n) i c (omega arith) b) ∙ t)

      go : (c : ℕ) → c ≡ lowest n (may x) (marked marks k) → (b : Bool) → ltb (lowest n (may x) (marked marks k)) n ≡ b
          → (n ≤ lowest n (may x) (marked marks k) → Says n e may s x T (find n G (may x) f (k + 1) next))
          → Says n e may s x T (cond b (takes (lowest n (may x) (marked marks k)) (walk n G (marked marks) k (lowest n (may x) (marked marks k)))) (find n G (may x) f (k + 1) next))
      go c w true t r = levels_chosen H M.levels W (ltb-true (lowest n (may x) (marked marks k)) n t)
      go c w false t r = r (ltb-false (lowest n (may x) (marked marks k)) n t)

-- the chosen chain is computed, or there is none
pub chosen_of_says : (n e : ℕ) (may : ℕ → ℕ → Bool) (s : ℕ → ℕ) (x : ℕ) (T : ℕ → Bool) → Says n e may s x T (chosen_of n e may s x T)
unfolding chosen_of
chosen_of_says n e may s x T = find_says n e may s x (goes e may s) (goes_graph n e may s) T n 0 (table (λ c. cond (T c) 0 (n + 1)) 0 n)
    (marked_start (omega arith) (at_table (λ c. cond (T c) 0 (n + 1)) n)) (λ i c m. absurd (omega arith)) (omega arith)

-- ---- whether x reaches core a, by computing it

abbrev pub found : Way → Bool
found (takes c p) = true
found nothing = false

abbrev pub reached_of : ℕ → ℕ → (ℕ → ℕ → Bool) → (ℕ → ℕ) → ℕ → ℕ → Bool
reached_of n e may s x a = found (chosen_of n e may s x (λ c. eqb c a))

pub reached_of_yes : (n e : ℕ) (may : ℕ → ℕ → Bool) (s : ℕ → ℕ) (x a : ℕ) → reached_of n e may s x a ≡ true → Reached n e may s x a
reached_of_yes n e may s x a h = go (chosen_of n e may s x (λ c. eqb c a)) (chosen_of_says n e may s x (λ c. eqb c a)) h
  where
    go : (o : Way) → Says n e may s x (λ c. eqb c a) o → found o ≡ true → Reached n e may s x a
    go (takes c p) C t = record { c = c; p = p; chain = C.chain; ends = eqb_eq C.hits }
    go nothing U t = clash t refl

pub reached_of_no : (n e : ℕ) (may : ℕ → ℕ → Bool) (s : ℕ → ℕ) (x a : ℕ) → reached_of n e may s x a ≡ false → Reached n e may s x a → ⊥
reached_of_no n e may s x a h = go (chosen_of n e may s x (λ c. eqb c a)) (chosen_of_says n e may s x (λ c. eqb c a)) h
  where
    go : (o : Way) → Says n e may s x (λ c. eqb c a) o → found o ≡ false → Reached n e may s x a → ⊥
    go (takes c p) C t R = clash refl t
    go nothing U t R = U.none R.c R.p R.chain (eqb_true R.ends)
