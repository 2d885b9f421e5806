-- The chain that the search takes by what is near: how it grows, and that it is the chosen one.
use Rattle.std.proofs.Common.{ℕ, suc, ◌+◌, ◌-◌, ◌≤◌, ◌<◌, ◌≡◌, refl, sym, ap, ◌∙◌, Bool, true, List, [], ◌∷◌, ◌++◌, append-nil, append_assoc, arith, bit_and, leb, length, take, length-append, leb-true, le-leb, zero, All, add-one, get_or, ◌≢◌}
use Rattle.laws.proofs.Deciding.{clash}
use Rattle.masks.specs.Masks.{width, has}
use Rattle.masks.proofs.Bits.{has_zero}
use Rattle.masks.proofs.Operators.{and_none}
use Rattle.seating.specs.Chosen.{Unreached}
use Rattle.seating.proofs.Near.{lowest, Levels, lowest_in, missed_exact, walk, next_facts, Graph, levels_chosen, levels_none, exact_below}
use Rattle.search.specs.Sitters.{mask_on, leads}
use Rattle.search.specs.Route.{route_of, Found, Nowhere}
use Rattle.search.specs.Taken.{ChainCores, Spelled}
use Rattle.search.specs.Marks.{farthest, mark, within}
use Rattle.search.specs.Distances.{Complete, Distances}
use Rattle.search.specs.Ready.{Ready}
use Rattle.search.specs.declared.Marks.{Marks}
use Rattle.search.specs.declared.Route.{Route}
use Rattle.std.proofs.lemmas.List.Elements.{All-nil, All-push, All-weaker}
use Rattle.search.proofs.Gathering.{meets_some}

-- ---- one step at a time

-- the walk of k cores for a task with this mask
abbrev pub onward : ℕ → List ℕ → (ℕ → ℕ → Bool) → ℕ → ℕ → List ℕ
onward n masks N zero mask = []
onward n masks N (suc k) mask = let d = lowest n (has mask) (N k) in d ∷ walk n (leads masks) N k d

-- the cores so far, and the k more that a task with this mask leads to, make the whole route
pub record Going (n : ℕ) (masks : List ℕ) (N : ℕ → ℕ → Bool) (route cores : List ℕ) (mask k : ℕ) : Type 0 where
  pub joined : cores ++ onward n masks N k mask ≡ route
  pub ready : (j : ℕ) → k ≡ suc j → Ready n masks N (lowest n (has mask) (N j)) j
  pub total : length cores + k ≤ n
  pub below : All (λ c. c < n) cores

pub going_start : {n : ℕ} {masks : List ℕ} {N : ℕ → ℕ → Bool} {start limit : ℕ} → Ready n masks N (lowest n (has start) (N limit)) limit
    → Going n masks N (onward n masks N (suc limit) start) [] start (limit + 1)
going_start {n} {masks} {N} {start} {limit} R = record {
  joined = ap (λ (k : ℕ). onward n masks N k start) (add-one limit);
  ready = λ j e. let same : limit ≡ j = omega arith in rw same at R;
  total = omega (arith, R.short);
  below = All-nil (λ c. c < n);
}

less_by : {n : ℕ} {G : ℕ → ℕ → Bool} {T : ℕ → Bool} {N : ℕ → ℕ → Bool} {j : ℕ} → Levels n G T N j → (i : ℕ) → i ≤ j → Levels n G T N i
less_by L i l = record { start = L.start; next = λ k c m b. L.next k c (omega arith) b }

ready_next : {n : ℕ} {masks : List ℕ} {N : ℕ → ℕ → Bool} {c k : ℕ} → Ready n masks N c (suc k) → Ready n masks N (lowest n (leads masks c) (N k)) k
ready_next {c} {k} R =
    let f = next_facts R.levels k c (omega arith) R.below R.near R.exact in
    record { T = R.T; levels = less_by R.levels k (omega arith); below = f.0; near = f.2; exact = f.3; short = omega (arith, R.short) }

-- from a core on the walk goes on as for the mask of the task there
onward_from : (n : ℕ) (masks : List ℕ) (N : ℕ → ℕ → Bool) (k c : ℕ) → onward n masks N k (get_or masks c 0) ≡ walk n (leads masks) N k c
onward_from n masks N zero c = refl
onward_from n masks N (suc k) c = refl

module _ {n : ℕ} {masks : List ℕ} {N : ℕ → ℕ → Bool} {route cores : List ℕ} {mask k : ℕ} (W : Going n masks N route cores mask k) (some : 0 < k) where
  one_less : k ≡ suc (k - 1)
  one_less = omega arith

  -- the smallest core that is near enough is one of the machine's
  pub nearer : lowest n (has mask) (N (k - 1)) < n
  nearer = (W.ready (k - 1) one_less).below

  pub going_next : {d : ℕ} → d ≡ lowest n (has mask) (N (k - 1)) → Going n masks N route (cores ++ d ∷ []) (get_or masks d 0) (k - 1)
  going_next {d} e = record {
    joined = append_assoc cores (d ∷ []) (onward n masks N (k - 1) (get_or masks d 0)) ∙ ap (λ (l : List ℕ). cores ++ d ∷ l) (onward_from n masks N (k - 1) d) ∙ walked;
    ready = λ j u. ready_next (rw u at R);
    total = omega (arith, length-append cores (d ∷ []), W.total);
    below = All-push (λ c. c < n) cores d W.below R.below;
  }
    where
      R : Ready n masks N d (k - 1)
      R = rw e (W.ready (k - 1) one_less)

      walked : cores ++ d ∷ walk n (leads masks) N (k - 1) d ≡ route
      walked = rw e (rw one_less at W.joined)

-- there is a place for one core more
pub room : {n : ℕ} {masks : List ℕ} {N : ℕ → ℕ → Bool} {route cores : List ℕ} {len mask k : ℕ} → Going n masks N route (take len cores) mask k → 0 < k → n ≤ width → Spelled cores len → len < width
room W some few S = omega (arith, W.total, S.size)

pub going_end : {n : ℕ} {masks : List ℕ} {N : ℕ → ℕ → Bool} {route cores : List ℕ} {mask k : ℕ} → Going n masks N route cores mask k → k ≤ 0 → cores ≡ route
going_end {cores = cores} {k = k} W l = sym (append-nil cores) ∙ (rw none at W.joined)
  where
    none : k ≡ 0
    none = omega arith

pub going_cores : {n : ℕ} {masks : List ℕ} {N : ℕ → ℕ → Bool} {first : ℕ} {rest cores : List ℕ} {mask k : ℕ} → n ≤ width → Going n masks N (first ∷ rest) cores mask k → k ≤ 0 → ChainCores cores
going_cores {n} {cores = cores} few W l = record {
  some = omega (arith, ap (λ (l : List ℕ). length l) (going_end W l));
  below = All-weaker (λ c. c < n) (λ c. c < width) (λ c m. omega arith) cores W.below;
}

-- ---- the answers

pub graph : (n : ℕ) (masks : List ℕ) → Graph n 0 has (mask_on masks) (leads masks)
unfolding mask_on
graph n masks = record { held = λ c d l m h z. clash h (ap (λ (t : ℕ). has t d) z ∙ has_zero d); used = λ c d l m h. h; back = λ c d l m h t. t }

-- where no core of the start has a mark
pub unmarked : {n : ℕ} {masks : List ℕ} {start target : ℕ} {marks : List ℕ} {near : ℕ} → n ≤ width → Complete n masks target marks near → ((c : ℕ) → has start c ≡ true → has near c ≡ true → ⊥)
    → Unreached n 0 has (mask_on masks) start (has target)
unmarked {n} {masks} {marks = marks} {near = near} few C none = levels_none (graph n masks) C.levels (omega arith) (λ i c m l s h. none c s (marked i c m l h))
  where
    marked : (i c : ℕ) → i < farthest → c < n → leb (mark marks c) i ≡ true → has near c ≡ true
    marked i c m l h = let u = leb-true (mark marks c) i h in C.gathered.each c l ∙ le-leb (mark marks c) farthest (omega arith)

module _ {n : ℕ} {masks : List ℕ} {start target : ℕ} {m : Marks} (few : n ≤ width) (D : Distances n masks start target m) where
  pub answer_none : bit_and start m.near ≡ 0 → Nowhere n masks start target
  answer_none apart = record { unreached = unmarked few (D.complete apart) (λ c. and_none start m.near c apart) }

  module _ (meets : bit_and start m.near ≢ 0) where
    begins : lowest n (has start) (within m.marks m.limit) < n
    begins = meets_some D.gathered start meets

    pub answer_ready : Ready n masks (within m.marks) (lowest n (has start) (within m.marks m.limit)) m.limit
    answer_ready =
        let f = lowest_in n (has start) (within m.marks m.limit) begins in
        let x = missed_exact n (has start) (within m.marks) m.limit D.missed (lowest n (has start) (within m.marks m.limit)) begins f.0 in
        record {
          T = has target;
          levels = D.levels;
          below = begins;
          near = f.1;
          exact = x;
          short = exact_below D.levels m.limit (lowest n (has start) (within m.marks m.limit)) (omega arith) begins f.1 x;
        }

    pub answer_found : {r : Route} → r ≡ route_of (lowest n (has start) (within m.marks m.limit)) (walk n (leads masks) (within m.marks) m.limit (lowest n (has start) (within m.marks m.limit)))
        → Found n masks start target r
    answer_found told = record {
      c = lowest n (has start) (within m.marks m.limit);
      p = walk n (leads masks) (within m.marks) m.limit (lowest n (has start) (within m.marks m.limit));
      chosen = levels_chosen (graph n masks) D.levels D.missed begins;
      told = told;
    }
