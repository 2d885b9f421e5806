-- What the answers of the search say of a dispatcher: how a task arrives, and how a core is filled.
use Rattle.std.proofs.Common.{ℕ, ◌≤◌, ◌<◌, ◌≡◌, refl, ◌∙◌, inl, inr, List, arith, eqb, leb, get_or, Option, Some, None, IsSome, rules}
use native.Mathlib.Decide.{dec_lt}
use Rattle.laws.specs.Pick.{Picked}
use Rattle.laws.proofs.Deciding.{decides_yes}
use Rattle.laws.proofs.Testing.{eqb_true}
use Rattle.masks.specs.Masks.{has, Added}
use Rattle.seating.proofs.Choice.{unreached_target}
use Rattle.seating.proofs.Arriving.{no_idle, to_idle, Tells, pushes, waits}
use Rattle.seating.proofs.Ranks.{reached_below}
use Rattle.seating.proofs.Filling.{Seeks, fills, stays_idle}
use Rattle.dispatcher.specs.Limits.{core_limit, slot_limit, none}
use Rattle.dispatcher.specs.Slots.{task_at, seat_at, Ready, Shaped}
use Rattle.dispatcher.specs.Sound.{Sound}
use Rattle.dispatcher.specs.declared.Dispatcher.{Dispatcher}
use Rattle.dispatcher.proofs.Reading.{seat_read}
use Rattle.order.specs.ComesBefore.{ComesBefore}
use Rattle.order.proofs.Ranking.{rank_before, before_rank}
use Rattle.search.specs.Route.{Found, Nowhere, Searched}
use Rattle.search.specs.ReachedCores.{ReachedCores}
use Rattle.search.specs.Leading.{Leading}
use Rattle.search.specs.declared.Route.{Route}
use Rattle.search.specs.declared.Sitters.{Sitters}
use Rattle.search.proofs.Bridge.{Masks, unreached_tasks, reaches_tasks, tasks_reaches, reached_none, leading_reached, leading_unreached}
use Rattle.shifting.specs.Board.{may_run}
use Rattle.shifting.specs.Tables.{SittersOf, IdleCores}
use Rattle.shifting.specs.Arriving.{Arriving, Pushing}
use Rattle.shifting.specs.Filling.{Freed}
use Rattle.shifting.specs.Shifts.{Arrived, Refilled, still_at, taken_by}
use Rattle.shifting.specs.Picking.{rank_at, LastOn, Held, FirstSeeking}
use Rattle.shifting.specs.declared.Shift.{Shift}
use Rattle.shifting.proofs.Board.{core_below, legal, ranked, sitters_masks, found_shift}
use Rattle.masks.proofs.Adding.{only_core}

pub searched_found : (n : ℕ) (masks : List ℕ) (start target : ℕ) (r : Option Route) {route : Route} → Searched n masks start target r → r ≡ Some route → Found n masks start target route
searched_found n masks start target r S e = rw e at S

pub searched_nowhere : (n : ℕ) (masks : List ℕ) (start target : ℕ) (r : Option Route) → Searched n masks start target r → r ≡ None → Nowhere n masks start target
searched_nowhere n masks start target r S e = rw e at S

-- ---- a task arrives

module _ {d : Dispatcher} {s : Sitters} {x : ℕ} (L : Shaped d) (A : Arriving d x) (T : SittersOf d s) where
  M : Masks d.cores none (may_run d) (seat_at d) (λ t. (task_at d t).mask) s.masks
  M = sitters_masks L A.sound T

  pub idle_taken : {idle : ℕ} {route : Route} {r : Shift} → IdleCores d idle → Found s.count s.masks (task_at d x).mask idle route → r ≡ taken_by d.seats route x none → Arrived d x r
  idle_taken I F q = rw q (to_idle (found_shift L A.sound T (rw T.count at F) (λ c. eqb (seat_at d c) none) I.each))

  pub idle_none : {idle : ℕ} → IdleCores d idle → Nowhere s.count s.masks (task_at d x).mask idle → Pushing d s x
  idle_none I N = record {
    shaped = L;
    arriving = A;
    sitters = T;
    full = no_idle (unreached_target (λ c. eqb (seat_at d c) none) I.each (unreached_tasks M x (rw T.count at N.unreached)));
  }

-- ---- it reaches no idle core

module _ {d : Dispatcher} {s : Sitters} {x seen : ℕ} (P : Pushing d s x) (R : ReachedCores s.count s.masks (task_at d x).mask seen) where
  S : Sound d
  S = P.arriving.sound

  told : Tells d.cores none (may_run d) (seat_at d) x (has seen)
  told = let M = sitters_masks P.shaped S P.sitters in let C = rw P.sitters.count at R in record { only = λ c h. reaches_tasks M x (C.only c h); all = λ c r. C.all c (tasks_reaches M r) }

  pub reached_held : Held d seen
  reached_held = record { lent = record { shaped = P.shaped; sound = S }; below = λ c h. reached_below (told.only c h); held = λ c h. P.full.held c (told.only c h) }

  pub none_to_push : {r : Shift} → LastOn d seen None → r ≡ still_at d.seats → Arrived d x r
  none_to_push h q =
      rw q (waits (legal S) (ranked P.shaped S) P.arriving.waits.ready P.full told {z = d.cores} (inr (record { none = h; is = refl })) (λ l. absurd (omega arith)))

  module _ {z : ℕ} (last : LastOn d seen (Some z)) where
    -- a core is picked
    pub last_real : Picked (λ a b. leb (rank_at d (seat_at d a)) (rank_at d (seat_at d b))) (has seen) d.cores z
    last_real = last

    pub last_ready : Ready d (seat_at d z)
    last_ready = (S.seats z (core_below S last.below) (P.full.held z (told.only z last.passes))).ready

    -- the last task's core is one of the machine's,
    pub last_below : z < core_limit
    last_below = core_below S last.below

    last_read : seat_at d z ≡ get_or d.seats z 0
    last_read = seat_read d z P.shaped.seats last_below

    -- and so is its slot
    pub last_slot : get_or d.seats z 0 < slot_limit
    last_slot = rw (← last_read) last_ready.slot

    pub must_wait : {r : Shift} → (ComesBefore d x (get_or d.seats z 0) → ⊥) → r ≡ still_at d.seats → Arrived d x r
    must_wait h q = rw q (waits (legal S) (ranked P.shaped S) P.arriving.waits.ready P.full told (inl last) (λ _. go (dec_lt (rank_at d x) (rank_at d (seat_at d z)))))
      where
        go : Dec (rank_at d x < rank_at d (seat_at d z)) → rank_at d (seat_at d z) ≤ rank_at d x
        go (yes k) = absurd (h (rw (← last_read) (before_rank S P.shaped P.arriving.waits.ready last_ready k)))
        go (no k) = omega arith

    -- its core is reached, so a chain to it is found
    pub loser_found : (target : ℕ) (route : Option Route) → Added 0 z target → Searched s.count s.masks (task_at d x).mask target route → IsSome route
    loser_found target (Some route) m F = search rules
    loser_found target None m N =
        absurd (reached_none (sitters_masks P.shaped S P.sitters) (rw P.sitters.count at N) (only_core last_below m z ∙ eqb_true (refl {a = z})) (told.only z last.passes))

    pub loser_pushed : {target : ℕ} {route : Route} {r : Shift} → Added 0 z target → ComesBefore d x (get_or d.seats z 0) → Found s.count s.masks (task_at d x).mask target route
        → r ≡ taken_by d.seats route x (get_or d.seats z 0) → Arrived d x r
    loser_pushed m b F q =
        rw (q, ← last_read) (pushes (legal S) (ranked P.shaped S) P.arriving.waits.ready P.full told last (rank_before S P.shaped P.arriving.waits.ready last_ready (rw last_read b))
        (found_shift P.shaped S P.sitters (rw P.sitters.count at F) (λ c. eqb c z) (λ c k. only_core last_below m c)))

-- ---- a core is filled

module _ {d : Dispatcher} {s : Sitters} {z target lead : ℕ} (L : Shaped d) (A : Freed d z) (T : SittersOf d s) (a : Added 0 z target) (B : Leading s.count s.masks target lead) where
  N : Masks d.cores none (may_run d) (seat_at d) (λ t. (task_at d t).mask) s.masks
  N = sitters_masks L A.sound T

  aim : (c : ℕ) → c < d.cores → has target c ≡ eqb c z
  aim c l = only_core (core_below A.sound A.below) a c

  seeks : {first : Option ℕ} (P : FirstSeeking d lead first) → Seeks d.cores none (may_run d) (Ready d) (seat_at d) z slot_limit P.test
  seeks P = let C = rw T.count at B in record {
    only = λ w l t. let h = (P.tells w l).yes t in (h.0, leading_reached N C aim h.1);
    all = λ w u r. decides_yes (P.tells w u.ready.slot) (u, λ e. leading_unreached N C aim e r);
    small = λ w u. u.ready.slot;
  }

  pub nobody_starts : {r : Shift} → FirstSeeking d lead None → r ≡ still_at d.seats → Refilled d z r
  nobody_starts P q = rw q (stays_idle (ranked L A.sound) (seeks P) P.picks, refl)

  module _ {first : ℕ} (P : FirstSeeking d lead (Some first)) where
    pub first_real : Picked (λ a b. leb (rank_at d b) (rank_at d a)) P.test slot_limit first
    first_real = P.picks

    pub first_found : (route : Option Route) → Searched s.count s.masks (task_at d first).mask target route → IsSome route
    first_found (Some route) F = search rules
    first_found None Q = absurd (reached_none N (rw T.count at Q) (aim z A.below ∙ eqb_true (refl {a = z})) ((seeks P).only first P.picks.below P.picks.passes).1)

    pub first_starts : {route : Route} {r : Shift} → Found s.count s.masks (task_at d first).mask target route → r ≡ taken_by d.seats route first none → Refilled d z r
    first_starts F q = rw q (fills (ranked L A.sound) (seeks P) P.picks (found_shift L A.sound T (rw T.count at F) (λ c. eqb c z) aim), refl)
