-- What a contract says of each event, in the words of `Seat` and `Moved` alone, and why what the program does meets it.
use Prim.Native.Nat.{ℕ, ◌≤◌, ◌<◌}
use mathlib.Core.Path.{◌≡◌, ap, ◌∙◌}
use mathlib.Core.Logic.{◌⊎◌, inl, inr, ◌≢◌}
use mathlib.Core.Bool.{Bool, true}
use mathlib.Core.List.{List}
use native.Mathlib.Omega.{arith}
use lib.ListN.{length}
use Rattle.laws.proofs.Counting.{last_in}
use Rattle.laws.specs.Lists.{last}
use Rattle.seating.proofs.Keep.{Cage, Joins, Pen, Settled, arrive_full, arrive_idle, arrive_waits, fill, leave_legal, leave_pen, narrow, settled_strong}
use Rattle.seating.proofs.Moving.{least, moved_none}
use Rattle.seating.proofs.Same.{links_inside}
use Rattle.seating.proofs.Shut.{RankStrong, Shut}
use Rattle.seating.proofs.Take.{Took, chain_below}
use Rattle.seating.specs.Chain.{Chain}
use Rattle.seating.specs.Moved.{moved}
use Rattle.seating.specs.Running.{Running, Waiting}
use Rattle.seating.specs.Strong.{Legal}

-- s' is a strong seating of the ready tasks R, and none moves fewer of the tasks that s runs
pub record Best (n e : ℕ) (may : ℕ → ℕ → Bool) (rank : ℕ → ℕ) (R : ℕ → Type 0) (s s' : ℕ → ℕ) : Type 0 where
  pub legal : Legal n e may R s'
  pub strong : RankStrong n e may rank R s'
  pub fewest : (s'' : ℕ → ℕ) → Legal n e may R s'' → RankStrong n e may rank R s'' → moved n e s s' ≤ moved n e s s''

pub best_stays : {n e : ℕ} {may : ℕ → ℕ → Bool} {rank : ℕ → ℕ} {R : ℕ → Type 0} {s : ℕ → ℕ} → Settled n e may rank R s → Best n e may rank R s s
best_stays H = record { legal = H.legal; strong = settled_strong H; fewest = λ s'' L S. let z = moved_none H.legal in omega arith }

-- ---- a task x arrives

module _ {n e : ℕ} {may : ℕ → ℕ → Bool} {rank : ℕ → ℕ} {R R' : ℕ → Type 0} {s : ℕ → ℕ} {x : ℕ} (H : Settled n e may rank R s) (J : Joins R R' x) where
  -- the tasks on all the cores that it reaches come before it: it waits
  pub best_waits : Shut n e may rank s x → Best n e may rank R' s s
  best_waits S = best_stays (arrive_waits H J S)

  module _ {s' : ℕ → ℕ} {c : ℕ} {p : List ℕ} (real : x ≢ e) (out : Running n e s x → ⊥) (k : Took n e may s s' x c p) where
    -- it takes a shortest chain to an idle core
    pub best_idle : s (last c p) ≡ e → ((d : ℕ) (q : List ℕ) → Chain n e may s x d q → s (last d q) ≡ e → length p ≤ length q) → Best n e may rank R' s s'
    best_idle idle short = record { legal = A.legal; strong = settled_strong A; fewest = λ s'' L S. least H.legal real out k near A.legal (settled_strong A) L S }
      where
        A : Settled n e may rank R' s'
        A = arrive_idle H J real out k idle

        near : (d : ℕ) (q : List ℕ) → Chain n e may s x d q → (s (last d q) ≡ e) ⊎ (s (last d q) ≡ s (last c p)) → length p ≤ length q
        near d q h (inl i) = short d q h i
        near d q h (inr i) = short d q h (i ∙ idle)

    -- it reaches no idle core, and takes a shortest chain to the latest of the tasks that it reaches, which it comes before
    pub best_full : (G : Cage n e may s x) → ((a : ℕ) → G.K a ≡ true → a ≢ last c p → rank (s a) < rank (s (last c p))) → rank x < rank (s (last c p))
        → ((d : ℕ) (q : List ℕ) → Chain n e may s x d q → last d q ≡ last c p → length p ≤ length q) → Best n e may rank R' s s'
    best_full G latest l short = record { legal = A.legal; strong = settled_strong A; fewest = λ s'' L S. least H.legal real out k near A.legal (settled_strong A) L S }
      where
        A : Settled n e may rank R' s'
        A = arrive_full H J real out k G latest l

        held : (d : ℕ) (q : List ℕ) → Chain n e may s x d q → s (last d q) ≢ e
        held d q h = G.full (last d q) (links_inside n e may s G.K G.closed d q (G.starts d h.start) h.links (last d q) (last_in d q))

        near : (d : ℕ) (q : List ℕ) → Chain n e may s x d q → (s (last d q) ≡ e) ⊎ (s (last d q) ≡ s (last c p)) → length p ≤ length q
        near d q h (inl i) = absurd (held d q h i)
        near d q h (inr i) = short d q h (H.legal.once (last d q) (last c p) (chain_below h (last d q) (last_in d q)) (chain_below k.chain (last c p) (last_in c p)) (held d q h) i)

-- ---- a core z falls idle, by its task's leaving or by its coming back

-- z is idle, and each waiting task would be shut in if z were held by a task that comes before it
pub record Leaky (n e : ℕ) (may : ℕ → ℕ → Bool) (rank : ℕ → ℕ) (R : ℕ → Type 0) (s : ℕ → ℕ) (z : ℕ) : Type 0 where
  pub legal : Legal n e may R s
  pub idle : s z ≡ e
  pub pen : (w : ℕ) → Waiting n e R s w → Pen n e may rank s z w (rank w)

pub leave_leaky : {n e : ℕ} {may : ℕ → ℕ → Bool} {rank : ℕ → ℕ} {R R' : ℕ → Type 0} {s s' : ℕ → ℕ} {z : ℕ} → Settled n e may rank R s → z < n
    → s z ≢ e → ((t : ℕ) → R' t → R t × (t ≢ s z)) → ((t : ℕ) → R t → t ≢ s z → R' t)
    → s' z ≡ e → ((a : ℕ) → a ≢ z → s' a ≡ s a) → Leaky n e may rank R' s' z
leave_leaky H l held less rest idle off = record { legal = leave_legal H l held less rest idle off; idle = idle; pen = leave_pen H l held less rest idle off }

module _ {n e : ℕ} {may : ℕ → ℕ → Bool} {rank : ℕ → ℕ} {R : ℕ → Type 0} {s : ℕ → ℕ} {z : ℕ} (H : Leaky n e may rank R s z) where
  -- no waiting task reaches an idle core: all stays
  pub fill_none : ((w : ℕ) → Waiting n e R s w → Cage n e may s w) → Settled n e may rank R s
  fill_none f = record { legal = H.legal; shut = λ w u. narrow H.idle (f w u) (H.pen w u) }

  -- h is the first that does, and takes a shortest chain to z
  module _ {s' : ℕ → ℕ} {h c : ℕ} {p : List ℕ} (real : h ≢ e) (u : Waiting n e R s h) (k : Took n e may s s' h c p) (to-z : last c p ≡ z)
      (f : (w : ℕ) → Waiting n e R s w → w ≢ h → Cage n e may s w ⊎ (rank h < rank w)) where
    pub fill_first : Settled n e may rank R s'
    fill_first = fill H.legal real u k (ap s to-z ∙ H.idle) (rw to-z (H.pen h u)) others
      where
        others : (w : ℕ) → Waiting n e R s w → w ≢ h → Shut n e may rank s w ⊎ ((rank h < rank w) × Pen n e may rank s (last c p) w (rank w))
        others w v d = go (f w v d)
          where
            go : Cage n e may s w ⊎ (rank h < rank w) → Shut n e may rank s w ⊎ ((rank h < rank w) × Pen n e may rank s (last c p) w (rank w))
            go (inl G) = inl (narrow H.idle G (H.pen w v))
            go (inr l) = inr (l, rw to-z (H.pen w v))

    pub best_fill : ((d : ℕ) (q : List ℕ) → Chain n e may s h d q → s (last d q) ≡ e → length p ≤ length q) → Best n e may rank R s s'
    best_fill short = record {
      legal = fill_first.legal;
      strong = settled_strong fill_first;
      fewest = λ s'' L S. least H.legal real u.off k near fill_first.legal (settled_strong fill_first) L S;
    }
      where
        near : (d : ℕ) (q : List ℕ) → Chain n e may s h d q → (s (last d q) ≡ e) ⊎ (s (last d q) ≡ s (last c p)) → length p ≤ length q
        near d q g (inl i) = short d q g i
        near d q g (inr i) = short d q g (i ∙ ap s to-z ∙ H.idle)
