-- The ready tasks take their turns in their order: what holds after each turn, and at the end.
use Prim.Native.Nat.{ℕ, ◌≤◌, ◌<◌}
use mathlib.Core.Path.{◌≡◌, refl, sym, ap, ◌∙◌, fun_ext}
use mathlib.Core.Logic.{◌≢◌, ◌⊎◌, inl, inr}
use mathlib.Core.Bool.{Bool, true, false, not}
use mathlib.Core.List.{List}
use native.Mathlib.Decide.{ℕ_discrete}
use native.Mathlib.Omega.{arith}
use lib.Dec.{eqb}
use lib.ListN.{length, get_or, set, length-set, length-replicate}
use lib.Seq.{get_or-set_same, get_or-set_other}
use Rattle.laws.specs.Counting.{count}
use Rattle.laws.proofs.Deciding.{cases, decides_yes}
use Rattle.laws.proofs.Lists.{get_d_any, get_or_all}
use Rattle.laws.proofs.Testing.{eqb_ne, eqb_false, not_true, not_false}
use Rattle.laws.proofs.Counting.{count_more}
use Rattle.masks.specs.Masks.{has}
use Rattle.masks.proofs.Bits.{has_zero}
use Rattle.seating.proofs.Keep.{Joins}
use Rattle.seating.proofs.Take.{chain_below}
use Rattle.seating.proofs.Seeking as seeking
use Rattle.seating.proofs.Turns.{Turns, turns_start, turns_next, turns_iff}
use Rattle.seating.proofs.Greedy.{settled_greedy}
use Rattle.dispatcher.specs.Limits.{core_limit, slot_limit, none}
use Rattle.dispatcher.specs.Slots.{order_at, Ready, Shaped}
use Rattle.dispatcher.specs.Sound.{Sound}
use Rattle.dispatcher.specs.declared.Dispatcher.{Dispatcher}
use Rattle.dispatcher.proofs.Ready.{ready_real}
use Rattle.order.proofs.Ranking.{rank_before, before_not_back}
use Rattle.shifting.specs.Board.{may_run}
use Rattle.shifting.specs.Picking.{rank_at}
use Rattle.shifting.proofs.Board.{ranked}
use Rattle.engine.specs.declared.Kept.{Kept}
use Rattle.engine.specs.declared.places.Board.{Board}
use Rattle.engine.specs.Seats.{Seats}
use Rattle.engine.specs.Search.{MasksOf, allowed}
use Rattle.engine.specs.Turns.{LeftOf, IsFirst, NoneLeft, CanTurn, Turned}
use Rattle.engine.specs.Keep.{kept_in, seat_of, nothing, WorkedOut}
use Rattle.engine.proofs.Earliest.{left_at, left_ready}

-- the turn of slot t has come: it is ready and no longer left
pub record Had (d : Dispatcher) (left : List ℕ) (t : ℕ) : Type 0 where
  pub ready : Ready d t
  pub gone : (k : ℕ) → k < slot_limit → left_at left k ≢ t

pub record Going (d : Dispatcher) (left : List ℕ) (kept : Kept) : Type 0 where
  pub size : length left ≡ slot_limit
  pub same : (k : ℕ) → left_at left k ≢ none → left_at left k ≡ order_at d k
  pub after : (t : ℕ) → Had d left t → (k : ℕ) → k < slot_limit → left_at left k ≢ none → rank_at d t < rank_at d (left_at left k)
  pub turns : Turns d.cores none (may_run d) (rank_at d) (Had d left) (seat_of kept) (kept_in kept)
  pub slots : length kept.tasks ≡ slot_limit
  pub seats : Seats kept.seats
  pub missing : (c : ℕ) → d.cores ≤ c → seat_of kept c ≡ none

-- how many are left
abbrev pub still_left : List ℕ → ℕ → Bool
still_left left k = not (eqb (left_at left k) none)

pub how_many : List ℕ → ℕ
how_many left = count (still_left left) slot_limit

-- ---- before the first turn

nobody : (c : ℕ) → seat_of nothing c ≡ none
nobody c = get_or_all {A = ℕ} core_limit none c

unmarked : (t : ℕ) → kept_in nothing t ≡ false
unmarked t = get_or_all slot_limit false t

pub going_start : {d : Dispatcher} → Shaped d → Going d d.order nothing
going_start {d} L = record {
  size = L.order;
  same = λ k u. refl;
  after = λ t h. absurd (h.gone h.ready.place h.ready.within h.ready.stands);
  turns = turns_start (λ t h. h.gone h.ready.place h.ready.within h.ready.stands) (λ c l. nobody c) unmarked;
  slots = length-replicate slot_limit false;
  seats = record { size = length-replicate {A = ℕ} core_limit none; slots = λ c q. absurd (q (nobody c)) };
  missing = λ c l. nobody c;
}

-- ---- a turn

allowed_same : {d : Dispatcher} {masks : List ℕ} → MasksOf d masks → allowed masks ≡ may_run d
allowed_same M = fun_ext λ t. fun_ext λ c. ap (λ (m : ℕ). has m c) (M.each t)

module _ {d : Dispatcher} {left : List ℕ} {kept : Kept} (L : Shaped d) (S : Sound d) (G : Going d left kept) where
  pub going_left : LeftOf d left
  going_left = record { shaped = L; sound = S; same = G.same }

  module _ {k : ℕ} (F : IsFirst d left k) where
    abbrev t : ℕ
    t = left_at left k

    abbrev left' : List ℕ
    left' = set left k none

    -- the machine reads 0 beyond a list
    pub read : get_or left k 0 ≡ t
    read = get_d_any left k 0 none (rw G.size F.below)

    ready : Ready d t
    ready = left_ready going_left F.below F.used

    pub going_can : CanTurn kept t
    going_can = record { slot_below = ready.slot; seats = G.seats }

    at : left_at left' k ≡ none
    at = get_or-set_same left k none none (rw G.size F.below)

    off : (j : ℕ) → j ≢ k → left_at left' j ≡ left_at left j
    off j q = get_or-set_other left k j none none q

    not_at : (j : ℕ) → left_at left' j ≢ none → j ≢ k
    not_at j u q = u (ap (left_at left') q ∙ at)

    joins : Joins (Had d left) (Had d left') t
    joins = record {
      old = λ u h. record { ready = h.ready; gone = λ j l. old u h j l (ℕ_discrete j k) };
      new = record { ready = ready; gone = λ j l. new j l (ℕ_discrete j k) };
      only = λ u h. only u h (ℕ_discrete u t);
    }
      where
        old : (u : ℕ) → Had d left u → (j : ℕ) → j < slot_limit → Dec (j ≡ k) → left_at left' j ≢ u
        old u h j l (yes q) e = ready_real h.ready (sym e ∙ ap (left_at left') q ∙ at)
        old u h j l (no q) e = h.gone j l (sym (off j q) ∙ e)

        new : (j : ℕ) → j < slot_limit → Dec (j ≡ k) → left_at left' j ≢ t
        new j l (yes q) e = F.used (sym e ∙ ap (left_at left') q ∙ at)
        new j l (no q) e =
            let s : left_at left j ≡ t = sym (off j q) ∙ e in
            let b = F.rest j l (λ z. F.used (sym s ∙ z)) q in
            before_not_back d t t (rw s at b) (rw s at b)

        only : (u : ℕ) → Had d left' u → Dec (u ≡ t) → Had d left u ⊎ (u ≡ t)
        only u h (yes q) = inr q
        only u h (no q) = inl (record { ready = h.ready; gone = λ j l e. h.gone j l (off j (λ i. q (sym e ∙ ap (left_at left) i)) ∙ e) })

    after' : (u : ℕ) → Had d left' u → (j : ℕ) → j < slot_limit → left_at left' j ≢ none → rank_at d u < rank_at d (left_at left' j)
    after' u h j l v = rw (off j o) (go (joins.only u h))
      where
        o : j ≢ k
        o = not_at j v

        still : left_at left j ≢ none
        still = rw (off j o) at v

        go : Had d left u ⊎ (u ≡ t) → rank_at d u < rank_at d (left_at left j)
        go (inl i) = G.after u i j l still
        go (inr i) = rw i (rank_before S L ready (left_ready going_left l still) (F.rest j l still o))

    pub going_fewer : how_many left' < how_many left
    unfolding how_many
    going_fewer = count_more (still_left left') (still_left left) slot_limit k (λ j h. let u = eqb_ne (not_true h) in not_false (eqb_false (rw (off j (not_at j u)) at u))) F.below (not_false (eqb_false F.used)) (rw at)

    module _ {b : Board} {r : Kept} (count : b.cores ≡ d.cores) (M : MasksOf d b.masks) (T : Turned b kept t r) where
      abbrev came : seeking.Tried
      came = record { found = T.found; seat = seat_of r; asked = T.asked }

      sought : seeking.Sought d.cores none (may_run d) (seat_of kept) (has 0) t came
      sought = rw (count, allowed_same M) at T.sought

      beyond : (c : ℕ) → d.cores ≤ c → seat_of r c ≡ seat_of kept c
      beyond c l = go (cases T.found)
        where
          go : (T.found ≡ true) ⊎ (T.found ≡ false) → seat_of r c ≡ seat_of kept c
          go (inl f) = let P = sought.place f in P.took.off c (λ i. let below = chain_below P.took.chain c i in omega arith)
          go (inr f) = ap (λ (s : ℕ → ℕ). s c) (sought.as_was f)

      own : kept_in r t ≡ T.found
      own = rw T.tasks (get_or-set_same kept.tasks t T.found false (rw G.slots ready.slot))

      others : (x : ℕ) → x ≢ t → kept_in r x ≡ kept_in kept x
      others x q = rw T.tasks (get_or-set_other kept.tasks t x T.found false q)

      pub going_on : Going d left' r
      going_on = record {
        size = rw length-set G.size;
        same = λ j u. let o = off j (not_at j u) in o ∙ G.same j (rw o at u);
        after = after';
        turns = turns_next G.turns joins F.used (λ u h. G.after u h k F.below F.used) has_zero sought own others;
        slots = rw (T.tasks, length-set) G.slots;
        seats = T.seats;
        missing = λ c l. beyond c l ∙ G.missing c l;
      }

  -- ---- after the last turn

  pub going_end : NoneLeft left → WorkedOut d kept
  going_end N = record {
    slots = G.slots;
    greedy = settled_greedy (ranked L S) all.settled all.runs;
    legal = all.settled.legal;
    seated = λ t. (decides_yes (all.runs t), (all.runs t).yes);
    missing = G.missing;
  }
    where
      all : Turns d.cores none (may_run d) (rank_at d) (Ready d) (seat_of kept) (kept_in kept)
      all = turns_iff (λ t h. h.ready) (λ t r. record { ready = r; gone = λ j l e. ready_real r (sym e ∙ N j l) }) G.turns
