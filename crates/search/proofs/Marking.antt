-- The rounds of marking: after k of them the marks are right for at most k steps, and once a round adds no core they are right for any number.
use Rattle.std.proofs.Common.{ℕ, zero, suc, ◌+◌, ◌≤◌, ◌<◌, ◌≡◌, refl, sym, ap, subst, ◌∙◌, ◌⊎◌, inl, inr, Bool, true, false, cond, List, [], ◌∷◌, arith, bit_and, leb, get_or, leb-true, leb-false, le-leb}
use native.Mathlib.Decide.{dec_lt}
use borrow.Author.Tests.{lt-leb}
use Rattle.laws.specs.Lists.{last}
use Rattle.laws.proofs.Deciding.{cases, clash}
use Rattle.masks.specs.Masks.{width, has}
use Rattle.masks.proofs.Operators.{small_below}
use Rattle.seating.specs.Chain.{Links}
use Rattle.seating.specs.Chosen.{Unreached}
use Rattle.seating.specs.Reached.{Reached}
use Rattle.seating.proofs.Reach.{reach_start, reach_step}
use Rattle.seating.proofs.Near.{Missed, missed_next, Exact, walk, walk_good, steps_links, turn, turn_kept, turn_marked, Marked, marked_full, marked_all}
use Rattle.search.specs.Sitters.{mask_on, leads}
use Rattle.search.specs.Leading.{Leading}
use Rattle.search.specs.Marks.{far, farthest, mark, within}
use Rattle.search.specs.Rounds.{Gathered, next_mark_of, Filled}
use Rattle.search.specs.Distances.{Complete, Distances}
use Rattle.search.proofs.Gathering.{meets, meets_none}
use Rattle.search.proofs.Following.{graph, unmarked}

-- after k rounds, with the marked cores gathered in near; by fewer than k steps no core of the start is near
pub record Rounds (n : ℕ) (masks : List ℕ) (start target : ℕ) (marks : List ℕ) (near k : ℕ) : Type 0 where
  pub marked : Marked far n (leads masks) (has target) (mark marks) k
  pub gathered : Gathered marks k n near
  pub missed : Missed n (has start) (within marks) k
  pub few : n ≤ width
  pub so_far : k ≤ n

module _ {n : ℕ} {masks : List ℕ} {start target : ℕ} {marks : List ℕ} {near k : ℕ} (R : Rounds n masks start target marks near k) where
  distances : (bit_and start near ≡ 0 → Complete n masks target marks near) → Distances n masks start target (record { marks = marks; near = near; limit = k })
  distances f = record { levels = R.marked.levels; gathered = R.gathered; missed = R.missed; complete = f }

  -- a core with a mark has one of at most k
  gathered_far : Gathered marks farthest n near
  gathered_far = record { below = R.gathered.below; each = λ c l. R.gathered.each c l ∙ at c l (cases (leb (mark marks c) k)) }
    where
      at : (c : ℕ) → c < n → (leb (mark marks c) k ≡ true) ⊎ (leb (mark marks c) k ≡ false) → leb (mark marks c) k ≡ leb (mark marks c) farthest
      at c l (inl t) = let u = leb-true (mark marks c) k t in let a = R.few in let b = R.so_far in t ∙ sym (le-leb (mark marks c) farthest (omega arith))
      at c l (inr t) = let u = R.marked.rest c l (leb-false (mark marks c) k t) in t ∙ sym (lt-leb (mark marks c) farthest (omega arith))

  -- where no mark is k
  calm_distances : ((c : ℕ) → c < n → leb (mark marks c) k ≡ true → mark marks c < k) → 0 < k → Distances n masks start target (record { marks = marks; near = near; limit = k })
  calm_distances calm p = distances (λ z. record { levels = marked_all R.marked calm p farthest (omega arith); gathered = gathered_far })

  -- after n rounds
  pub rounds_over : n ≤ k → Distances n masks start target (record { marks = marks; near = near; limit = n })
  rounds_over l = let Over : ℕ → Type 0 = λ i. Distances n masks start target (record { marks = marks; near = near; limit = i }) in subst Over (omega (arith, R.so_far)) (go (dec_lt 0 n))
    where
      go : Dec (0 < n) → Distances n masks start target (record { marks = marks; near = near; limit = k })
      go (yes t) = calm_distances (marked_full R.marked l) (omega arith)
      go (no t) = distances (λ z. record { levels = record { start = λ c m. absurd (omega arith); next = λ i c m b. absurd (omega arith) }; gathered = gathered_far })

  module _ (b : k < n) (z : bit_and start near ≡ 0) {next : List ℕ} (F : Filled (λ c. next_mark_of (mark marks c) (get_or masks c 0) near k) n next) where
    room : k + 1 < far
    room = let f = R.few in omega arith

    turned : (c : ℕ) → c < n → mark next c ≡ turn n (leads masks) (mark marks) k c
    unfolding turn
    turned c l =
        F.done c l
        ∙ sym (ap (λ (t : Bool). cond (leb (mark marks c) k) (mark marks c) (cond t (k + 1) (mark marks c))) (meets R.gathered (get_or masks c 0)))

    kept : (i c : ℕ) → i ≤ k → c < n → leb (mark next c) i ≡ leb (mark marks c) i
    kept = turn_kept room R.marked turned

    missed : Missed n (has start) (within marks) (k + 1)
    missed = missed_next n (has start) (within marks) k R.missed (meets_none R.gathered start z)

    pub rounds_next : {near' : ℕ} → Gathered next (k + 1) n near' → Rounds n masks start target next near' (k + 1)
    rounds_next G = record {
      marked = turn_marked room R.marked turned;
      gathered = G;
      missed = λ i c m l s h. missed i c m l s (sym (kept i c (omega arith) l) ∙ h);
      few = R.few;
      so_far = omega arith;
    }

-- a round that adds no core is the last
pub rounds_stuck : {n : ℕ} {masks : List ℕ} {start target : ℕ} {marks : List ℕ} {near k : ℕ} (R : Rounds n masks start target marks near k) → k < n → bit_and start near ≡ 0 → {next : List ℕ}
    → Filled (λ c. next_mark_of (mark marks c) (get_or masks c 0) near k) n next → {near' : ℕ} → Gathered next (k + 1) n near' → near' ≡ near
    → Distances n masks start target (record { marks = next; near = near; limit = k + 1 })
rounds_stuck {n} {k = k} R b z {next} F G e = calm_distances (rounds_next R b z F (rw e at G)) calm (omega arith)
  where
    calm : (c : ℕ) → c < n → leb (mark next c) (k + 1) ≡ true → mark next c < k + 1
    calm c l t =
        let u = leb-true (mark next c) k (kept R b z F k c (omega arith) l ∙ sym (R.gathered.each c l) ∙ ap (λ (m : ℕ). has m c) (sym e) ∙ G.each c l ∙ t) in
        omega arith

-- ---- the cores that lead to the target

reach_links : {n e : ℕ} {may : ℕ → ℕ → Bool} {s : ℕ → ℕ} {x c : ℕ} (p : List ℕ) → Reached n e may s x c → Links n e may s c p → Reached n e may s x (last c p)
reach_links [] R l = R
reach_links (d ∷ p) R l = reach_links p (reach_step R l.0 l.1) l.2

-- they are those with a mark
pub marks_leading : {n : ℕ} {masks : List ℕ} {target : ℕ} {marks : List ℕ} {r : ℕ} → n ≤ width → Complete n masks target marks r → Leading n masks target r
marks_leading {n} {masks} {target} {marks} {r} few C = record {
  small = small_below n r C.gathered.below;
  some = λ start c h k. leads_there start c h (C.gathered.below c k) k;
  none = λ start f. unmarked few C (λ c s h. clash h (f c s));
}
  where
    exact : (k c : ℕ) → mark marks c ≡ k → Exact (within marks) k c
    exact zero c e = tt
    exact (suc k) c e = lt-leb (mark marks c) k (omega arith)

    leads_there : (start c : ℕ) → has start c ≡ true → c < n → has r c ≡ true → Unreached n 0 has (mask_on masks) start (has target) → ⊥
    leads_there start c h l k U =
        let m = mark marks c in
        let W = walk_good C.levels m c (leb-true m farthest (sym (C.gathered.each c l) ∙ k)) l (le-leb m m (omega arith)) (exact m c refl) in
        let p = walk n (leads masks) (within marks) m c in
        let R = reach_links p (reach_start (l, h)) (steps_links (graph n masks) c p l W.steps) in
        U.none R.c R.p R.chain (ap (has target) R.ends ∙ W.hits)
