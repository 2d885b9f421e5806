-- How an arrival is decided: by a search to the idle cores, by the last of the tasks on reached cores, and by a search to its core.
use Prim.Native.Nat.{ℕ, ◌≤◌, ◌<◌}
use mathlib.Core.Path.{◌≡◌, refl, ap, ◌∙◌}
use mathlib.Core.Logic.{◌⊎◌, inl, inr, ◌≢◌}
use mathlib.Core.Bool.{Bool, true, false, cond}
use mathlib.Core.List.{List}
use native.Mathlib.Omega.{arith}
use lib.ListN.{length}
use lib.Dec.{eqb, ltb, leb}
use borrow.Author.Tests.{ltb-true, ltb-false, leb-true}
use Rattle.laws.specs.Pick.{Picked, Picks}
use Rattle.laws.proofs.Deciding.{cases, clash}
use Rattle.laws.proofs.Testing.{eqb_true}
use Rattle.laws.proofs.Picking.{by_key, pick, pick_picks}
use Rattle.seating.specs.Reached.{Reached}
use Rattle.seating.specs.Chosen.{Chosen, Unreached}
use Rattle.seating.specs.Taking.{Goes}
use Rattle.seating.specs.Arrival.{NoIdle, Last, Arrives}
use Rattle.seating.specs.Strong.{Legal}
use Rattle.seating.proofs.Take.{seats, take_chain_of, take_chain_took}
use Rattle.seating.proofs.Ranks.{Ranked, reached_below}
use Rattle.seating.proofs.Rules.{took_takes}
use Rattle.seating.proofs.Find.{Way, takes, nothing, chosen_of, Says, chosen_of_says, reached_of, reached_of_yes, reached_of_no}

pub no_idle : {n e : ℕ} {may : ℕ → ℕ → Bool} {s : ℕ → ℕ} {x : ℕ} → Unreached n e may s x (λ c. eqb (s c) e) → NoIdle n e may s x
no_idle {s = s} U = record { held = λ c r q. U.none r.c r.p r.chain (eqb_true (ap s r.ends ∙ q)) }

pub to_idle : {n e : ℕ} {may : ℕ → ℕ → Bool} {Before : ℕ → ℕ → Type 0} {s : ℕ → ℕ} {x : ℕ} {s' : ℕ → ℕ} {moves : ℕ} → Goes n e may s x (λ c. eqb (s c) e) s' moves → Arrives n e may Before s x s' moves x e
to_idle g = inl (record { goes = g; starts = refl; stops = refl })

-- a test of the reached cores
pub record Tells (n e : ℕ) (may : ℕ → ℕ → Bool) (s : ℕ → ℕ) (x : ℕ) (f : ℕ → Bool) : Type 0 where
  pub only : (c : ℕ) → f c ≡ true → Reached n e may s x c
  pub all : (c : ℕ) → Reached n e may s x c → f c ≡ true

module _ {n e : ℕ} {may : ℕ → ℕ → Bool} {Before : ℕ → ℕ → Type 0} {rank : ℕ → ℕ} {R : ℕ → Type 0} {s : ℕ → ℕ} {x : ℕ} {f : ℕ → Bool}
    (L : Legal n e may R s) (O : Ranked R Before rank) (ready : R x) (N : NoIdle n e may s x) (F : Tells n e may s x f) where
  sits : (c : ℕ) → Reached n e may s x c → R (s c)
  sits c r = L.ready c (reached_below r) (N.held c r)

  last_picked : {z : ℕ} → Picked (λ a b. leb (rank (s a)) (rank (s b))) f n z → Last n e may Before s x z
  last_picked {z} P = record { reached = there; others = λ c r d. O.before (s c) (s z) (sits c r) (sits z there) (strict c r d) }
    where
      there : Reached n e may s x z
      there = F.only z P.passes

      strict : (c : ℕ) → Reached n e may s x c → c ≢ z → rank (s c) < rank (s z)
      strict c r d =
          let l = leb-true (rank (s c)) (rank (s z)) (P.last c (reached_below r) (F.all c r)) in
          let o : rank (s c) ≢ rank (s z) = λ q. d (L.once c z (reached_below r) P.below (N.held c r) (O.once (s c) (s z) (sits c r) (sits z there) q)) in
          omega arith

  pub pushes : {z : ℕ} {s' : ℕ → ℕ} {moves : ℕ} → Picked (λ a b. leb (rank (s a)) (rank (s b))) f n z → rank x < rank (s z) → Goes n e may s x (λ c. eqb c z) s' moves
      → Arrives n e may Before s x s' moves x (s z)
  pushes {z} P l g = inr (inl (record {
    full = N;
    core = z;
    last = last_picked P;
    before = O.before x (s z) ready (sits z (F.only z P.passes)) l;
    goes = g;
    starts = refl;
    stops = refl;
  }))

  -- nothing is reached, or the last does not come after x
  pub waits : {z : ℕ} → Picks n (λ a b. leb (rank (s a)) (rank (s b))) f n z → (z < n → rank (s z) ≤ rank x) → Arrives n e may Before s x s 0 e e
  waits {z} P h = inr (inr (record { full = N; not_before = λ y t b. late y t b P; stays = record { seats = λ a. refl; count = refl }; starts = refl; stops = refl }))
    where
      late : (y : ℕ) → Last n e may Before s x y → Before x (s y) → Picks n (λ a b. leb (rank (s a)) (rank (s b))) f n z → ⊥
      late y t b (inr p) = clash (F.all y t.reached) (p.none y (reached_below t.reached))
      late y t b (inl p) =
          let r = t.reached in
          let a = leb-true (rank (s y)) (rank (s z)) (p.last y (reached_below r) (F.all y r)) in
          let c = O.lower x (s y) ready (sits y r) b in
          let k = h p.below in
          omega arith

-- ---- by computing it

-- the seats after a call's inner step, and what it reports
pub record Step : Type 0 where
  pub seats : List ℕ
  pub moves : ℕ
  pub started : ℕ
  pub stopped : ℕ

abbrev pub still_of : ℕ → List ℕ → Step
still_of e xs = record { seats = xs; moves = 0; started = e; stopped = e }

-- x takes the chain that was found, if there is one, and v stops
abbrev pub gone_by : ℕ → List ℕ → ℕ → ℕ → Step → Way → Step
gone_by e xs x v other (takes c p) = record { seats = take_chain_of e xs x c p; moves = length p; started = x; stopped = v }
gone_by e xs x v other nothing = other

-- z is the core of the last task that is reached, n where there is none
abbrev pub push_of : ℕ → ℕ → (ℕ → ℕ → Bool) → (ℕ → ℕ) → List ℕ → ℕ → ℕ → Step
push_of n e may rank xs x z =
    cond (ltb z n)
    (cond (ltb (rank x) (rank (seats e xs z))) (gone_by e xs x (seats e xs z) (still_of e xs) (chosen_of n e may (seats e xs) x (λ c. eqb c z))) (still_of e xs)) (still_of e xs)

abbrev pub last_of : ℕ → ℕ → (ℕ → ℕ → Bool) → (ℕ → ℕ) → List ℕ → ℕ → ℕ
last_of n e may rank xs x = pick n (λ a b. leb (rank (seats e xs a)) (rank (seats e xs b))) (reached_of n e may (seats e xs) x) n

unfoldable pub arrive_of : ℕ → ℕ → (ℕ → ℕ → Bool) → (ℕ → ℕ) → List ℕ → ℕ → Step
arrive_of n e may rank xs x = gone_by e xs x e (push_of n e may rank xs x (last_of n e may rank xs x)) (chosen_of n e may (seats e xs) x (λ c. eqb (seats e xs c) e))

reached_tells : (n e : ℕ) (may : ℕ → ℕ → Bool) (s : ℕ → ℕ) (x : ℕ) → Tells n e may s x (reached_of n e may s x)
reached_tells n e may s x = record { only = λ c. reached_of_yes n e may s x c; all = λ c r. go c r (cases (reached_of n e may s x c)) }
  where
    go : (c : ℕ) → Reached n e may s x c → (reached_of n e may s x c ≡ true) ⊎ (reached_of n e may s x c ≡ false) → reached_of n e may s x c ≡ true
    go c r (inl t) = t
    go c r (inr t) = absurd (reached_of_no n e may s x c t r)

pub chosen_goes : {n e : ℕ} {may : ℕ → ℕ → Bool} (xs : List ℕ) {x : ℕ} {T : ℕ → Bool} {c : ℕ} {p : List ℕ} → n ≤ length xs → Chosen n e may (seats e xs) x T c p
    → Goes n e may (seats e xs) x T (seats e (take_chain_of e xs x c p)) (length p)
chosen_goes xs {c = c} {p} l C = record { c = c; p = p; chosen = C; takes = took_takes (take_chain_took xs l C.chain); count = refl }

module _ (n e : ℕ) (may : ℕ → ℕ → Bool) (Before : ℕ → ℕ → Type 0) (rank : ℕ → ℕ) (R : ℕ → Type 0) (xs : List ℕ) (x : ℕ) (size : n ≤ length xs)
    (L : Legal n e may R (seats e xs)) (O : Ranked R Before rank) (ready : R x) where
  abbrev Good : Step → Type 0
  Good r = Arrives n e may Before (seats e xs) x (seats e r.seats) r.moves r.started r.stopped

  abbrev Lasts : ℕ → Type 0
  Lasts z = Picks n (λ a b. leb (rank (seats e xs a)) (rank (seats e xs b))) (reached_of n e may (seats e xs) x) n z

  picked : {z : ℕ} → Lasts z → ltb z n ≡ true → Picked (λ a b. leb (rank (seats e xs a)) (rank (seats e xs b))) (reached_of n e may (seats e xs) x) n z
  picked (inl q) b = q
  picked {z} (inr q) b = absurd (let u = ltb-true z n b in let v = q.is in omega arith)

  push_good : (z : ℕ) → NoIdle n e may (seats e xs) x → Lasts z → (o : Way) → Says n e may (seats e xs) x (λ c. eqb c z) o → (b : Bool) → ltb z n ≡ b → (d : Bool) → ltb (rank x) (rank (seats e xs z)) ≡ d
      → Good (cond b (cond d (gone_by e xs x (seats e xs z) (still_of e xs) o) (still_of e xs)) (still_of e xs))
  push_good z N P o C false b d k = waits L O ready N (reached_tells n e may (seats e xs) x) P (λ l. let u = ltb-false z n b in absurd (omega arith))
  push_good z N P o C true b false k = waits L O ready N (reached_tells n e may (seats e xs) x) P (λ l. ltb-false (rank x) (rank (seats e xs z)) k)
  push_good z N P (takes c p) C true b true k = pushes L O ready N (reached_tells n e may (seats e xs) x) (picked P b) (ltb-true (rank x) (rank (seats e xs z)) k) (chosen_goes xs size C)
  push_good z N P nothing C true b true k = let r = reached_of_yes n e may (seats e xs) x z (picked P b).passes in absurd (C.none r.c r.p r.chain (eqb_true r.ends))

  idle_good : (z : ℕ) → Lasts z → (o : Way) → Says n e may (seats e xs) x (λ c. eqb (seats e xs c) e) o → Good (gone_by e xs x e (push_of n e may rank xs x z) o)
  idle_good z P (takes c p) C = to_idle (chosen_goes xs size C)
  idle_good z P nothing U =
      push_good z (no_idle U) P (chosen_of n e may (seats e xs) x (λ c. eqb c z)) (chosen_of_says n e may (seats e xs) x (λ c. eqb c z)) (ltb z n) refl (ltb (rank x) (rank (seats e xs z))) refl

  pub arrive_of_arrives : Good (arrive_of n e may rank xs x)
  unfolding arrive_of
  arrive_of_arrives =
      idle_good (last_of n e may rank xs x) (pick_picks n (λ a b. leb (rank (seats e xs a)) (rank (seats e xs b))) (reached_of n e may (seats e xs) x) n (by_key (λ c. rank (seats e xs c))) (omega arith))
      (chosen_of n e may (seats e xs) x (λ c. eqb (seats e xs c) e)) (chosen_of_says n e may (seats e xs) x (λ c. eqb (seats e xs c) e))
