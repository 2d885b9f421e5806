-- From masks to tasks: what the search says of a table of masks holds of the seating whose sitters' masks it has.
use Rattle.std.proofs.Common.{ℕ, suc, ◌-◌, ◌≤◌, ◌<◌, ◌≡◌, refl, sym, ap, ◌∙◌, ◌⊎◌, inl, inr, ◌≢◌, Bool, true, false, List, [], ◌∷◌, arith, bit_and, eqb, length, get_or, set, length-set}
use native.Mathlib.Decide.{ℕ_discrete}
use Rattle.laws.specs.Lists.{In, last}
use Rattle.laws.proofs.Counting.{last_in}
use Rattle.laws.proofs.Deciding.{cases, clash}
use Rattle.laws.proofs.Lists.{get_d_any}
use Rattle.laws.proofs.Testing.{eqb_eq, eqb_true}
use Rattle.masks.specs.Masks.{has}
use Rattle.masks.proofs.Bits.{has_zero}
use Rattle.masks.proofs.Operators.{and_some, and_none}
use Rattle.seating.specs.Chain.{Links, Chain}
use Rattle.seating.specs.Chosen.{Chosen, Unreached}
use Rattle.seating.specs.Reached.{Reached}
use Rattle.seating.specs.Taking.{Goes}
use Rattle.seating.proofs.Choice.{chosen_target}
use Rattle.seating.proofs.Find.{reached_of, reached_of_yes, reached_of_no}
use Rattle.seating.proofs.Ranks.{reached_below}
use Rattle.seating.proofs.Rules.{took_takes}
use Rattle.seating.proofs.Take.{seats, take_chain_of, take_chain_took, chain_below}
use Rattle.search.specs.Sitters.{mask_on}
use Rattle.search.specs.Route.{Found, Nowhere}
use Rattle.search.specs.Leading.{Leading}
use Rattle.search.specs.Taken.{take_list}
use Rattle.search.specs.declared.Route.{Route}

-- M t is the mask of task t, and the table has the masks of the tasks that sit in s
pub record Masks (n e : ℕ) (may : ℕ → ℕ → Bool) (s : ℕ → ℕ) (M : ℕ → ℕ) (masks : List ℕ) : Type 0 where
  pub allows : (t c : ℕ) → c < n → may t c ≡ has (M t) c
  pub sitter : (c : ℕ) → c < n → s c ≢ e → get_or masks c 0 ≡ M (s c)
  pub idle : (c : ℕ) → c < n → s c ≡ e → get_or masks c 0 ≡ 0

module _ {n e : ℕ} {may : ℕ → ℕ → Bool} {s : ℕ → ℕ} {M : ℕ → ℕ} {masks : List ℕ} (A : Masks n e may s M masks) where
  -- ---- chains

  links_out : (c : ℕ) (p : List ℕ) → c < n → Links n e may s c p → Links n 0 has (mask_on masks) c p
  unfolding mask_on
  links_out c [] l w = tt
  links_out c (d ∷ p) l w =
      let t : has (get_or masks c 0) d ≡ true = ap (λ (m : ℕ). has m d) (A.sitter c l w.0) ∙ sym (A.allows (s c) d w.1.0) ∙ w.1.1 in
      (λ z. clash t (ap (λ (m : ℕ). has m d) z ∙ has_zero d), (w.1.0, t), links_out d p w.1.0 w.2)

  links_back : (c : ℕ) (p : List ℕ) → c < n → Links n 0 has (mask_on masks) c p → Links n e may s c p
  unfolding mask_on
  links_back c [] l w = tt
  links_back c (d ∷ p) l w = go (links_back d p w.1.0 w.2) (ℕ_discrete (s c) e)
    where
      go : Links n e may s d p → Dec (s c ≡ e) → Links n e may s c (d ∷ p)
      go rest (yes q) = absurd (w.0 (A.idle c l q))
      go rest (no q) = (q, (w.1.0, A.allows (s c) d w.1.0 ∙ ap (λ (m : ℕ). has m d) (sym (A.sitter c l q)) ∙ w.1.1), rest)

  pub chain_out : {x c : ℕ} {p : List ℕ} → Chain n e may s x c p → Chain n 0 has (mask_on masks) (M x) c p
  chain_out {x} {c} {p} h = record {
    start = (h.start.0, sym (A.allows x c h.start.0) ∙ h.start.1);
    links = links_out c p h.start.0 h.links;
    distinct = h.distinct;
  }

  pub chain_back : (x : ℕ) {c : ℕ} {p : List ℕ} → Chain n 0 has (mask_on masks) (M x) c p → Chain n e may s x c p
  chain_back x {c} {p} h = record {
    start = (h.start.0, A.allows x c h.start.0 ∙ h.start.1);
    links = links_back c p h.start.0 h.links;
    distinct = h.distinct;
  }

  -- ---- what is chosen and what is reached

  pub chosen_tasks : (x : ℕ) {T : ℕ → Bool} {c : ℕ} {p : List ℕ} → Chosen n 0 has (mask_on masks) (M x) T c p → Chosen n e may s x T c p
  chosen_tasks x C = record { chain = chain_back x C.chain; hits = C.hits; best = λ d q h t. C.best d q (chain_out h) t }

  pub unreached_tasks : (x : ℕ) {T : ℕ → Bool} → Unreached n 0 has (mask_on masks) (M x) T → Unreached n e may s x T
  unreached_tasks x U = record { none = λ d q h t. U.none d q (chain_out h) t }

  pub reaches_tasks : (x : ℕ) {c : ℕ} → Reached n 0 has (mask_on masks) (M x) c → Reached n e may s x c
  reaches_tasks x R = record { c = R.c; p = R.p; chain = chain_back x R.chain; ends = R.ends }

  pub tasks_reaches : {x c : ℕ} → Reached n e may s x c → Reached n 0 has (mask_on masks) (M x) c
  tasks_reaches R = record { c = R.c; p = R.p; chain = chain_out R.chain; ends = R.ends }

  -- a search that finds nothing says that no core of its target is reached
  pub reached_none : {x target z : ℕ} → Nowhere n masks (M x) target → has target z ≡ true → Reached n e may s x z → ⊥
  reached_none {target = target} N t R = N.unreached.none R.c R.p (chain_out R.chain) (ap (has target) R.ends ∙ t)

  -- ---- the cores that lead to core z

  module _ {target r z : ℕ} (L : Leading n masks target r) (aim : (c : ℕ) → c < n → has target c ≡ eqb c z) where
    -- a task whose mask shares a core with them reaches z,
    pub leading_reached : {w : ℕ} → bit_and (M w) r ≢ 0 → Reached n e may s w z
    leading_reached {w} h = go (cases (reached_of n e may s w z))
      where
        unreached : (Reached n e may s w z → ⊥) → Unreached n 0 has (mask_on masks) (M w) (has target)
        unreached never = record {
          none = λ d q k t. never (record { c = d; p = q; chain = chain_back w k; ends = eqb_eq (sym (aim (last d q) (chain_below k (last d q) (last_in d q))) ∙ t) });
        }

        go : (reached_of n e may s w z ≡ true) ⊎ (reached_of n e may s w z ≡ false) → Reached n e may s w z
        go (inl t) = reached_of_yes n e may s w z t
        go (inr f) = let (c, a, b) = and_some (M w) r h in absurd (L.some (M w) c a b (unreached (reached_of_no n e may s w z f)))

    -- and no other task does
    pub leading_unreached : {w : ℕ} → bit_and (M w) r ≡ 0 → Reached n e may s w z → ⊥
    leading_unreached {w} h R = (L.none (M w) apart).none R.c R.p (chain_out R.chain) (ap (has target) R.ends ∙ aim z (reached_below R) ∙ eqb_true (refl {a = z}))
      where
        apart : (c : ℕ) → has (M w) c ≡ true → has r c ≡ false
        apart c a = go (cases (has r c))
          where
            go : (has r c ≡ true) ⊎ (has r c ≡ false) → has r c ≡ false
            go (inl b) = absurd (and_none (M w) r c h a b)
            go (inr b) = b

-- ---- taking what was found

take_list_chain : (e : ℕ) (xs : List ℕ) (x c : ℕ) (p : List ℕ) → ((a : ℕ) → In a (c ∷ p) → a < length xs) → take_list xs x (c ∷ p) ≡ take_chain_of e xs x c p
take_list_chain e xs x c [] h = refl
take_list_chain e xs x c (d ∷ p) h =
    take_list_chain e (set xs c x) (get_or xs c 0) d p (λ a i. rw length-set (h a (inr i)))
    ∙ ap (λ (t : ℕ). take_chain_of e (set xs c x) t d p) (get_d_any xs c 0 e (h c (inl refl)))

-- taking the chain that was found is taking the chosen chain
found_taken : {n : ℕ} {masks : List ℕ} {start target : ℕ} {r : Route} (F : Found n masks start target r) (e : ℕ) (xs : List ℕ) (x : ℕ) → n ≤ length xs → take_list xs x r ≡ take_chain_of e xs x F.c F.p
found_taken F e xs x l = rw F.told (take_list_chain e xs x F.c F.p (λ a i. let u = chain_below F.chosen.chain a i in omega arith))

pub found_goes : {n e : ℕ} {may : ℕ → ℕ → Bool} (xs : List ℕ) {M : ℕ → ℕ} {masks : List ℕ} → n ≤ length xs → Masks n e may (seats e xs) M masks → (x : ℕ) {target : ℕ} {r : Route}
    → Found n masks (M x) target r → (T : ℕ → Bool) → ((c : ℕ) → c < n → has target c ≡ T c)
    → Goes n e may (seats e xs) x T (seats e (take_list xs x r)) (length r - 1)
found_goes {n} {e} {may} xs long A x {target} {r} F T aim = record {
  c = F.c;
  p = F.p;
  chosen = C;
  takes = rw (found_taken F e xs x long) (took_takes (take_chain_took xs long C.chain));
  count = ap (λ (q : Route). length q - 1) F.told ∙ one_less;
}
  where
    C : Chosen n e may (seats e xs) x T F.c F.p
    C = chosen_target T aim (chosen_tasks A x F.chosen)

    one_less : suc (length F.p) - 1 ≡ length F.p
    one_less = omega arith
