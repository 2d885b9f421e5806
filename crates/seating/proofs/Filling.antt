-- How a filling is decided: by the first of the waiting tasks that reach the idle core, and by a search from it.
use Prim.Native.Nat.{ℕ, ◌≤◌, ◌<◌}
use mathlib.Core.Path.{◌≡◌, refl}
use mathlib.Core.Logic.{◌⊎◌, inl, inr, ◌≢◌}
use mathlib.Core.Bool.{Bool, true, false, cond}
use mathlib.Core.List.{List}
use native.Mathlib.Omega.{arith}
use lib.ListN.{length}
use lib.Dec.{eqb, ltb, leb}
use borrow.Author.Tests.{ltb-true, ltb-false, leb-true}
use Rattle.laws.specs.Decides.{Decides}
use Rattle.laws.specs.Pick.{Picked, Picks}
use Rattle.laws.proofs.Deciding.{clash, cases}
use Rattle.laws.proofs.Testing.{eqb_true}
use Rattle.laws.proofs.Picking.{by_key, turned, pick, pick_picks, none_picked}
use Rattle.seating.specs.Running.{Waiting}
use Rattle.seating.specs.Reached.{Reached}
use Rattle.seating.specs.Taking.{Goes}
use Rattle.seating.specs.Filling.{Fills}
use Rattle.seating.proofs.Take.{seats}
use Rattle.seating.proofs.Ranks.{Ranked}
use Rattle.seating.proofs.Find.{Way, takes, nothing, chosen_of, Says, chosen_of_says, reached_of, reached_of_yes, reached_of_no}
use Rattle.seating.proofs.Arriving.{Step, still_of, gone_by, chosen_goes}

-- a test of the waiting tasks that reach z, which are all below k
pub record Seeks (n e : ℕ) (may : ℕ → ℕ → Bool) (R : ℕ → Type 0) (s : ℕ → ℕ) (z k : ℕ) (f : ℕ → Bool) : Type 0 where
  pub only : (w : ℕ) → w < k → f w ≡ true → Waiting n e R s w × Reached n e may s w z
  pub all : (w : ℕ) → Waiting n e R s w → Reached n e may s w z → f w ≡ true
  pub small : (w : ℕ) → Waiting n e R s w → w < k

module _ {n e : ℕ} {may : ℕ → ℕ → Bool} {Before : ℕ → ℕ → Type 0} {rank : ℕ → ℕ} {R : ℕ → Type 0} {s : ℕ → ℕ} {z k : ℕ} {f : ℕ → Bool}
    (O : Ranked R Before rank) (F : Seeks n e may R s z k f) where
  pub fills : {h : ℕ} {s' : ℕ → ℕ} {moves : ℕ} → Picked (λ a b. leb (rank b) (rank a)) f k h → Goes n e may s h (λ c. eqb c z) s' moves → Fills n e may Before R s z s' moves h
  fills {h} P g = inl (record { first = record { waits = u; reaches = (F.only h P.below P.passes).1; rest = λ w v r d. O.before h w u.ready v.ready (strict w v r d) }; goes = g })
    where
      u : Waiting n e R s h
      u = (F.only h P.below P.passes).0

      strict : (w : ℕ) → Waiting n e R s w → Reached n e may s w z → w ≢ h → rank h < rank w
      strict w v r d =
          let l = leb-true (rank h) (rank w) (P.last w (F.small w v) (F.all w v r)) in
          let o : rank w ≢ rank h = λ q. d (O.once w h v.ready u.ready q) in
          omega arith

  pub stays_idle : ((w : ℕ) → w < k → f w ≡ false) → Fills n e may Before R s z s 0 e
  stays_idle h = inr (record { none = λ w u r. clash (F.all w u r) (h w (F.small w u)); stays = record { seats = λ a. refl; count = refl }; starts = refl })

-- ---- by computing it

-- waiting: a test of the waiting tasks, which are all below k
abbrev pub seek_of : ℕ → ℕ → (ℕ → ℕ → Bool) → (ℕ → Bool) → List ℕ → ℕ → ℕ → Bool
seek_of n e may waiting xs z w = cond (waiting w) (reached_of n e may (seats e xs) w z) false

abbrev pub first_of : ℕ → ℕ → (ℕ → ℕ → Bool) → (ℕ → ℕ) → (ℕ → Bool) → ℕ → List ℕ → ℕ → ℕ
first_of n e may rank waiting k xs z = pick k (λ a b. leb (rank b) (rank a)) (seek_of n e may waiting xs z) k

abbrev pub start_of : ℕ → ℕ → (ℕ → ℕ → Bool) → List ℕ → ℕ → ℕ → ℕ → Step
start_of n e may xs z k h = cond (ltb h k) (gone_by e xs h e (still_of e xs) (chosen_of n e may (seats e xs) h (λ c. eqb c z))) (still_of e xs)

unfoldable pub fill_of : ℕ → ℕ → (ℕ → ℕ → Bool) → (ℕ → ℕ) → (ℕ → Bool) → ℕ → List ℕ → ℕ → Step
fill_of n e may rank waiting k xs z = start_of n e may xs z k (first_of n e may rank waiting k xs z)

module _ (n e : ℕ) (may : ℕ → ℕ → Bool) (Before : ℕ → ℕ → Type 0) (rank : ℕ → ℕ) (R : ℕ → Type 0) (waiting : ℕ → Bool) (k : ℕ) (xs : List ℕ) (z : ℕ) (size : n ≤ length xs)
    (O : Ranked R Before rank) (test : (w : ℕ) → w < k → Decides (Waiting n e R (seats e xs) w) (waiting w)) (small : (w : ℕ) → Waiting n e R (seats e xs) w → w < k) where
  seeks : Seeks n e may R (seats e xs) z k (seek_of n e may waiting xs z)
  seeks = record { only = λ w l. only w (waiting w) (test w l); all = λ w u r. all w u r (cases (waiting w)) (cases (reached_of n e may (seats e xs) w z)); small = small }
    where
      only : (w : ℕ) (b : Bool) → Decides (Waiting n e R (seats e xs) w) b → cond b (reached_of n e may (seats e xs) w z) false ≡ true → Waiting n e R (seats e xs) w × Reached n e may (seats e xs) w z
      only w true D h = (D.yes refl, reached_of_yes n e may (seats e xs) w z h)
      only w false D h = clash h refl

      all : (w : ℕ) → Waiting n e R (seats e xs) w → Reached n e may (seats e xs) w z → (waiting w ≡ true) ⊎ (waiting w ≡ false)
          → (reached_of n e may (seats e xs) w z ≡ true) ⊎ (reached_of n e may (seats e xs) w z ≡ false) → cond (waiting w) (reached_of n e may (seats e xs) w z) false ≡ true
      all w u r (inl t) (inl q) = rw (t, q)
      all w u r (inl t) (inr q) = absurd (reached_of_no n e may (seats e xs) w z q r)
      all w u r (inr t) q = absurd ((test w (small w u)).no t u)

  abbrev Good : Step → Type 0
  Good r = Fills n e may Before R (seats e xs) z (seats e r.seats) r.moves r.started × (r.stopped ≡ e)

  abbrev Firsts : ℕ → Type 0
  Firsts h = Picks k (λ a b. leb (rank b) (rank a)) (seek_of n e may waiting xs z) k h

  start_good : (h : ℕ) → Firsts h → (o : Way) → Says n e may (seats e xs) h (λ c. eqb c z) o → (b : Bool) → ltb h k ≡ b → Good (cond b (gone_by e xs h e (still_of e xs) o) (still_of e xs))
  start_good h P o C false b = (stays_idle O seeks (none_picked (omega arith) P (mark P)), refl)
    where
      mark : Firsts h → h ≡ k
      mark (inl q) = absurd (let l = ltb-false h k b in let m = q.below in omega arith)
      mark (inr q) = q.is
  start_good h (inl P) (takes c p) C true b = (fills O seeks P (chosen_goes xs size C), refl)
  start_good h (inl P) nothing C true b = let r = (seeks.only h P.below P.passes).1 in absurd (C.none r.c r.p r.chain (eqb_true r.ends))
  start_good h (inr P) o C true b = absurd (let l = ltb-true h k b in let m = P.is in omega arith)

  pub fill_of_fills : Good (fill_of n e may rank waiting k xs z)
  unfolding fill_of
  fill_of_fills =
      let h = first_of n e may rank waiting k xs z in
      start_good h (pick_picks k (λ a b. leb (rank b) (rank a)) (seek_of n e may waiting xs z) k (turned (by_key rank)) (omega arith)) (chosen_of n e may (seats e xs) h (λ c. eqb c z))
      (chosen_of_says n e may (seats e xs) h (λ c. eqb c z)) (ltb h k) refl
