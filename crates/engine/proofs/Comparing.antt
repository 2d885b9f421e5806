-- Whether a slot's task runs, by the table of the cores on which slots sit; of any dispatcher, sound or not. And that a comparison has one result.
use Prim.Native.Nat.{ℕ, ◌≤◌, ◌<◌, min}
use mathlib.Core.Path.{◌≡◌, refl, sym, ap, ◌∙◌}
use mathlib.Core.Logic.{◌≢◌, inl, inr}
use mathlib.Core.Bool.{Bool, false, not}
use mathlib.Core.List.{List}
use Rattle.std.specs.Prelude.{Option, Some, None, MatchOption, Result, Ok, Err, IfOk}
use Rattle.std.specs.List.{zip, AllWithin, HoldsAt}
use Rattle.std.proofs.lemmas.Slice.Zip.{get_or-zip, length-zip}
use native.Mathlib.Decide.{dec_lt}
use native.Mathlib.Omega.{arith}
use lib.Dec.{eqb}
use lib.ListN.{length, get_or, take, length-take}
use lib.Seq.{get_or-take}
use Rattle.laws.specs.Decides.{Decides}
use Rattle.laws.proofs.Deciding.{decides_by, decides_eq, decides_not, decides_yes}
use Rattle.laws.proofs.Testing.{eqb_ne, eqb_false, not_true, not_false}
use Rattle.laws.proofs.Lists.{get_d_beyond}
use Rattle.laws.proofs.Lowering.{lowest_same}
use Rattle.dispatcher.specs.Limits.{core_limit, slot_limit, none}
use Rattle.dispatcher.specs.Slots.{Shaped}
use Rattle.dispatcher.specs.declared.Refusal.{Refusal}
use Rattle.dispatcher.specs.declared.Dispatcher.{Dispatcher}
use Rattle.order.specs.Places.{FirstPlace, FirstPlaces, places_of}
use Rattle.shifting.specs.Board.{Runs}
use Rattle.engine.specs.declared.Kept.{Kept}
use Rattle.engine.specs.Keep.{answer_in}
use Rattle.engine.specs.Difference.{HasCore, Alike, Difference, Compares}
use Rattle.engine.proofs.Keeping.{tasks_in, keep_same}

-- n is the core count, but no more than there can be
pub record Counted (d : Dispatcher) (n : ℕ) : Type 0 where
  pub few : n ≤ core_limit
  pub within : n ≤ d.cores
  pub all : (c : ℕ) → c < d.cores → c < core_limit → c < n

pub counted : {d : Dispatcher} {n : ℕ} → n ≡ min d.cores core_limit → Counted d n
counted e = record { few = omega arith; within = omega arith; all = λ c b m. omega arith }

runs_told : {d : Dispatcher} {n : ℕ} {cores : List ℕ} → length d.seats ≡ core_limit → Counted d n → FirstPlaces (take n d.seats) cores → {t : ℕ} → t < slot_limit
    → Decides (Runs d t) (not (eqb (get_or cores t 0) none))
runs_told {d} {n} {cores} long N C {t} small = decides_by (λ q. sits q (C.each t small)) (λ r q. off r q (C.each t small)) (decides_not (decides_eq (get_or cores t 0) none))
  where
    looked : places_of (take n d.seats) ≡ n
    looked = omega (arith, length-take n d.seats, long, N.few)

    sits : get_or cores t 0 ≢ none → FirstPlace (λ j. get_or (take n d.seats) j none) 0 (places_of (take n d.seats)) t (get_or cores t 0) → Runs d t
    sits q (inl f) =
        let below : get_or cores t 0 < n = omega (arith, f.below, looked) in
        record { real = λ e. omega arith; core = get_or cores t 0; below = omega (arith, below, N.within); sits = sym (get_or-take n d.seats (get_or cores t 0) none below) ∙ f.holds }
    sits q (inr f) = absurd (q f.mark)

    off : Runs d t → get_or cores t 0 ≡ none → FirstPlace (λ j. get_or (take n d.seats) j none) 0 (places_of (take n d.seats)) t (get_or cores t 0) → ⊥
    off r q (inl f) = omega (arith, q, f.below, looked, N.few)
    off r q (inr f) = f.nowhere r.core (omega arith) (omega (arith, below, looked)) (get_or-take n d.seats r.core none below ∙ r.sits)
      where
        real : Dec (r.core < core_limit) → r.core < core_limit
        real (yes l) = l
        real (no l) = absurd (r.real (sym r.sits ∙ get_d_beyond d.seats r.core none (omega (arith, long))))

        below : r.core < n
        below = N.all r.core r.below (real (dec_lt r.core core_limit))

-- ---- slot by slot

module _ {d : Dispatcher} {n : ℕ} {cores : List ℕ} (long : length d.seats ≡ core_limit) (N : Counted d n) (C : FirstPlaces (take n d.seats) cores) (tasks : List Bool) (marks : length tasks ≡ slot_limit) where
  core_alike : {t : ℕ} → t < slot_limit → HasCore (get_or tasks t false) (get_or cores t 0) → Alike d tasks t
  core_alike {t} l h = let D = runs_told long N C l in (λ m. D.yes (not_false (eqb_false (h.0 m))), λ r. h.1 (eqb_ne (not_true (decides_yes D r))))

  alike_core : {t : ℕ} → t < slot_limit → Alike d tasks t → HasCore (get_or tasks t false) (get_or cores t 0)
  alike_core {t} l a = let D = runs_told long N C l in (λ m. eqb_ne (not_true (decides_yes D (a.0 m))), λ q. a.1 (D.yes (not_false (eqb_false q))))

  -- a mark beside its core
  pair : {t : ℕ} → t < slot_limit → get_or (zip tasks cores) t (false, 0) ≡ (get_or tasks t false, get_or cores t 0)
  pair {t} l = get_or-zip tasks cores t (false, 0) (rw marks l) (rw C.long l)

  paired : length (zip tasks cores) ≡ slot_limit
  paired = omega (arith, length-zip tasks cores, marks, C.long)

  like : {t high : ℕ} → high ≤ slot_limit → AllWithin (λ (p : Bool × ℕ). HasCore p.0 p.1) (zip tasks cores) 0 high → t < high → Alike d tasks t
  like {t} {high} m A l = let below : t < slot_limit = omega arith in core_alike below (rw (pair below) at (A t (false, 0) (omega arith) l))

  -- the first mark that is not like its core is that of the lowest slot that differs
  pub difference_told : (slot : Option ℕ)
      → MatchOption slot (AllWithin (λ (p : Bool × ℕ). HasCore p.0 p.1) (zip tasks cores) 0 (length (zip tasks cores)))
      (λ t. (t < length (zip tasks cores)) × HoldsAt (λ (p : Bool × ℕ). HasCore p.0 p.1 → ⊥) (zip tasks cores) t × AllWithin (λ (p : Bool × ℕ). HasCore p.0 p.1) (zip tasks cores) 0 t)
      → Difference d tasks slot
  difference_told None h = λ t l. like (omega (arith, paired)) h (rw paired l)
  difference_told (Some t) h =
      let below : t < slot_limit = omega (arith, paired, h.0) in
      record { below = below; fails = λ a. (rw (pair below) at (h.1 (false, 0))) (alike_core below a); lower = λ u l. like (omega arith) h.2 l }

-- no two slots are the difference
difference_same : (d : Dispatcher) (tasks : List Bool) (a b : Option ℕ) → Difference d tasks a → Difference d tasks b → a ≡ b
difference_same d tasks (Some a) (Some b) A B = ap Some (lowest_same A B)
difference_same d tasks (Some a) None A B = absurd (A.fails (B a A.below))
difference_same d tasks None (Some b) A B = absurd (B.fails (A b B.below))
difference_same d tasks None None A B = refl

-- ---- engine and dispatcher

err_is : (r : Result (Option ℕ) Refusal) {e : Refusal} → answer_in r ≡ Err e → r ≡ Err e
err_is (Ok slot) q = cc
err_is (Err refusal) q = cc

-- two results that the promise allows are the same
pub compare_same : {d : Dispatcher} {r q : Result (Option ℕ) Refusal} → Shaped d → Compares d r → Compares d q → r ≡ q
compare_same {d} {r} {q} L A B = go A.kept B.kept (keep_same L A.keeps B.keeps) r q A.answer B.answer A.done B.done
  where
    go : (k h : Result Kept Refusal) → tasks_in k ≡ tasks_in h → (r q : Result (Option ℕ) Refusal) → answer_in r ≡ answer_in k → answer_in q ≡ answer_in h → IfOk k (λ y. IfOk r (Difference d y.tasks))
        → IfOk h (λ y. IfOk q (Difference d y.tasks)) → r ≡ q
    go (Ok k) (Ok h) e (Ok a) (Ok b) f g A B = let same : k.tasks ≡ h.tasks = cc in ap Ok (difference_same d h.tasks a b (rw same at A) B)
    go (Ok k) (Ok h) e (Ok a) (Err b) f g A B = cc
    go (Ok k) (Ok h) e (Err a) q f g A B = cc
    go (Ok k) (Err h) e r q f g A B = cc
    go (Err k) (Ok h) e r q f g A B = cc
    go (Err k) (Err h) e r q f g A B = let same : k ≡ h = cc in err_is r f ∙ ap Err same ∙ sym (err_is q g)
