-- Any two results that the promise of `search`, `reached` or `leading` allows are the same. (The promise of `take_chain` names its result.)
use Rattle.std.proofs.Common.{ℕ, ◌<◌, ◌^◌, ◌≡◌, refl, sym, ap, ◌∙◌, ◌⊎◌, inl, inr, true, false, List, Option, Some, None}
use Rattle.laws.proofs.Deciding.{cases, clash}
use Rattle.laws.proofs.Testing.{eqb_eq, eqb_true}
use Rattle.masks.specs.Masks.{width, has}
use Rattle.masks.proofs.Operators.{has_power, same_bits}
use Rattle.seating.proofs.Choice.{chosen_same}
use Rattle.search.specs.Route.{Searched}
use Rattle.search.specs.ReachedCores.{ReachedCores}
use Rattle.search.specs.Leading.{Leading}
use Rattle.search.specs.declared.Route.{Route}

pub searched_same : (n : ℕ) (masks : List ℕ) (start target : ℕ) (r q : Option Route) → Searched n masks start target r → Searched n masks start target q → r ≡ q
searched_same n masks start target (Some r) (Some q) a b = ap Some (a.told ∙ chosen_same a.chosen b.chosen ∙ sym b.told)
searched_same n masks start target (Some r) None a b = absurd (b.unreached.none a.c a.p a.chosen.chain a.chosen.hits)
searched_same n masks start target None (Some q) a b = absurd (a.unreached.none b.c b.p b.chosen.chain b.chosen.hits)
searched_same n masks start target None None a b = refl

pub reached_same : {n : ℕ} {masks : List ℕ} {start r q : ℕ} → r < 2 ^ width → q < 2 ^ width → ReachedCores n masks start r → ReachedCores n masks start q → r ≡ q
reached_same {r = r} {q} l m A B = same_bits width r q l m (λ c. go c (cases (has r c)) (cases (has q c)))
  where
    go : (c : ℕ) → (has r c ≡ true) ⊎ (has r c ≡ false) → (has q c ≡ true) ⊎ (has q c ≡ false) → has r c ≡ has q c
    go c (inl a) (inl b) = a ∙ sym b
    go c (inl a) (inr b) = clash (B.all c (A.only c a)) b
    go c (inr a) (inl b) = clash (A.all c (B.only c b)) a
    go c (inr a) (inr b) = a ∙ sym b

-- a task that may use core c alone tells whether c leads to the target
pub leading_same : {n : ℕ} {masks : List ℕ} {target r q : ℕ} → Leading n masks target r → Leading n masks target q → r ≡ q
leading_same {n} {r = r} {q} A B = same_bits n r q A.small B.small (λ c. go c (cases (has r c)) (cases (has q c)))
  where
    itself : (c : ℕ) → has (2 ^ c) c ≡ true
    itself c = has_power c c ∙ eqb_true (refl {a = c})

    alone : (m c : ℕ) → has m c ≡ false → (k : ℕ) → has (2 ^ c) k ≡ true → has m k ≡ false
    alone m c f k h = ap (has m) (eqb_eq (sym (has_power c k) ∙ h)) ∙ f

    go : (c : ℕ) → (has r c ≡ true) ⊎ (has r c ≡ false) → (has q c ≡ true) ⊎ (has q c ≡ false) → has r c ≡ has q c
    go c (inl a) (inl b) = a ∙ sym b
    go c (inl a) (inr b) = absurd (A.some (2 ^ c) c (itself c) a (B.none (2 ^ c) (alone q c b)))
    go c (inr a) (inl b) = absurd (B.some (2 ^ c) c (itself c) b (A.none (2 ^ c) (alone r c a)))
    go c (inr a) (inr b) = a ∙ sym b
