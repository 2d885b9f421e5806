-- Wake and block keep a dispatcher sound and keep demands 2 and 3; and who is ready afterwards.
use Prim.Native.Nat.{ℕ, ◌<◌}
use mathlib.Core.Path.{◌≡◌, refl, sym, ap, ◌∙◌}
use mathlib.Core.Logic.{◌≢◌, ◌⊎◌, inl, inr, ◌↔◌}
use mathlib.Core.List.{List}
use native.Mathlib.Decide.{ℕ_discrete}
use native.Mathlib.Omega.{arith}
use lib.ListN.{set}
use lib.Seq.{get_or-set_other}
use Rattle.laws.specs.Answering.{Refusal}
use Rattle.laws.proofs.Answering.{none_applies}
use Rattle.seating.proofs.Same.{runs_dec, runs_ready}
use Rattle.seating.proofs.Keep.{Joins}
use Rattle.seating.proofs.Ranks.{Ranked, reached_below}
use Rattle.seating.proofs.Rules.{arrives_keeps, leaves_keeps, fills_keeps, keeps_agree}
use Rattle.seating.proofs.Legality.{arrives_legal, arrives_beyond, fills_legal, fills_beyond}
use Rattle.dispatcher.specs.Limits.{core_limit, slot_limit, none}
use Rattle.dispatcher.specs.Slots.{task_at, seat_at, Used, Ready, Shaped}
use Rattle.dispatcher.specs.Sound.{Sound}
use Rattle.dispatcher.specs.Answers.{number_of}
use Rattle.dispatcher.specs.Promise.{Promised}
use Rattle.dispatcher.specs.declared.Report.{Report}
use Rattle.dispatcher.specs.declared.Dispatcher.{Dispatcher}
use Rattle.dispatcher.specs.declared.Outcome.{Outcome}
use Rattle.dispatcher.proofs.Unsound.{done_own}
use Rattle.dispatcher.proofs.Promises.{called_below}
use Rattle.order.specs.ComesBefore.{ComesBefore, priority_of}
use Rattle.order.specs.Changes.{joined_of, left_of}
use Rattle.order.proofs.Joining.{joined_shaped, joined_new, joined_old, joined_only, joined_before, joined_sound, joined_last}
use Rattle.order.proofs.Leaving.{left_shaped, left_only, left_old, left_before, left_sound}
use Rattle.shifting.specs.Board.{Runs, Waits, with_seats}
use Rattle.shifting.specs.Picking.{rank_at}
use Rattle.shifting.specs.Rule.{KeepsIn, LeastIn}
use Rattle.shifting.proofs.Board.{seat_below, legal, ranked}
use Rattle.readiness.specs.Wake.{Woken, Wakes}
use Rattle.readiness.specs.Block.{freed_of, Refills, Blocks}
use Rattle.readiness.proofs.Freeing.{freed_idle, freed_sound}
use Rattle.readiness.proofs.Same.{block_was}
use Rattle.readiness.proofs.Reseating.{reseated_ready, ready_before, reseated_keeps, reseated_least, reseated}
use Rattle.dispatcher.proofs.Ready.{ready_real}
use Rattle.shifting.specs.Arriving.{ArrivesIn}

-- ---- a call that may be refused

-- what held before it, and holds after it where it is done, holds after it
pub promised_keeps : {rs : List Refusal} {d : Dispatcher} {Does : Outcome → Type 0} {r : Outcome} (P : Dispatcher → Type 0) → Promised rs d Does r → P d
    → (number_of r.report.answer ≡ 0 → P r.dispatcher) → P r.dispatcher
promised_keeps {r = r} P h before done = elim (ℕ_discrete (number_of r.report.answer) 0) [ yes z ↦ done z | no z ↦ rw (h.kept z) before ]

-- from the seats of d, x keeps demand 2, and demand 3 with so many moves
abbrev pub Rule : Dispatcher → Dispatcher → ℕ → Type 0
Rule d x moves = KeepsIn x (seat_at x) × LeastIn x (seat_at d) (seat_at x) moves

-- a call on d, refused or done, keeps demand 2, and where it is done demand 3
abbrev pub Ruled : Dispatcher → Outcome → Type 0
Ruled d r = KeepsIn r.dispatcher (seat_at r.dispatcher) × (number_of r.report.answer ≡ 0 → LeastIn r.dispatcher (seat_at d) (seat_at r.dispatcher) r.report.moves)

pub promised_rule : {rs : List Refusal} {d : Dispatcher} {Does : Outcome → Type 0} {r : Outcome} → Promised rs d Does r → KeepsIn d (seat_at d)
    → (number_of r.report.answer ≡ 0 → Rule d r.dispatcher r.report.moves) → Ruled d r
promised_rule h K done = (promised_keeps (λ x. KeepsIn x (seat_at x)) h K (λ z. (done z).0), λ z. (done z).1)

pub some_core : {d : Dispatcher} → Sound d → 0 < d.cores
some_core S = omega (arith, S.count.0)

-- ---- a wake that is done

module _ {d : Dispatcher} {slot : ℕ} (L : Shaped d) (S : Sound d) (below : slot < slot_limit) (off : Ready d slot → ⊥) where
  out : Runs d slot → ⊥
  out r = off (runs_ready (legal S) r)

  joins : Joins (Ready d) (Ready (joined_of d slot)) slot
  joins = record { old = λ t r. joined_old L S below off r; new = joined_new L S below off; only = λ t r. joined_only L S below off r }

  woken_keeps : {r : Outcome} → Used (task_at d slot) → Woken d slot r → Shaped r.dispatcher × Sound r.dispatcher
  woken_keeps used W =
      let J = joined_sound L S below off used in
      reseated (joined_of d slot) (joined_shaped slot L) J W.rest W.size (arrives_legal (legal J) (λ e. omega arith) (joined_new L S below off) out W.arrives) (arrives_beyond W.arrives)

  woken_rule : {r : Outcome} → Used (task_at d slot) → KeepsIn d (seat_at d) → Woken d slot r → Rule d r.dispatcher r.report.moves
  woken_rule {r} used K W =
      let J = joined_sound L S below off used in
      let before = keeps_agree (λ t c q b. refl) (λ t u q p b. (joined_before L S below off q p).0 b) (λ t q. q) (λ t q. q) K in
      let k = arrives_keeps (some_core S) (ranked (joined_shaped slot L) J) before joins (λ e. omega arith) out W.arrives in
      rw W.rest (reseated_keeps r.dispatcher.seats k.0, reseated_least r.dispatcher.seats k.1)

  woken_ready : {r : Outcome} → Woken d slot r → (t : ℕ) → Ready r.dispatcher t ↔ (Ready d t ⊎ (t ≡ slot))
  woken_ready {r} W t = rw W.rest (
    (λ q. joins.only t (ready_before (joined_of d slot) r.dispatcher.seats q)),
    λ q. reseated_ready r.dispatcher.seats (elim q [ inl old ↦ joins.old t old | inr e ↦ rw e joins.new ]),
  )

-- ---- a wake

module _ {d : Dispatcher} {slot : ℕ} {r : Outcome} (L : Shaped d) (S : Sound d) (W : Wakes d slot r) where
  module _ (z : number_of r.report.answer ≡ 0) where
    wake_off : Ready d slot → ⊥
    wake_off q = none_applies (done_own d _ W.answer z) refl 9 (inr (inr (inl (refl, q))))

    wake_used : Used (task_at d slot)
    wake_used e = none_applies (done_own d _ W.answer z) refl 5 (inr (inl (refl, e)))

  pub wake_keeps : Shaped r.dispatcher × Sound r.dispatcher
  wake_keeps = promised_keeps (λ x. Shaped x × Sound x) W (L, S) (λ z. woken_keeps L S (called_below d W.answer z) (wake_off z) (wake_used z) (W.done z))

  pub wake_ready : number_of r.report.answer ≡ 0 → (t : ℕ) → Ready r.dispatcher t ↔ (Ready d t ⊎ (t ≡ slot))
  wake_ready z = woken_ready L S (called_below d W.answer z) (wake_off z) (W.done z)

pub wake_rule : {d : Dispatcher} {slot : ℕ} {r : Outcome} → Shaped d → Sound d → KeepsIn d (seat_at d) → Wakes d slot r → Ruled d r
wake_rule {d} L S K W = promised_rule W K (λ z. woken_rule L S (called_below d W.answer z) (wake_off L S W z) (wake_used L S W z) K (W.done z))

-- an equal priority never pushes: who stops has a lower one
pub stopped_lower : {d : Dispatcher} {slot : ℕ} {r : Outcome} → Shaped d → Sound d → Wakes d slot r → number_of r.report.answer ≡ 0 → r.report.stopped ≢ none
    → priority_of d r.report.stopped < priority_of d slot
stopped_lower {d} {slot} {r} L S W z n = go (W.done z).arrives
  where
    go : ArrivesIn (joined_of d slot) slot (seat_at r.dispatcher) r.report.moves r.report.started r.report.stopped → priority_of d r.report.stopped < priority_of d slot
    go (inl h) = absurd (n h.stops)
    go (inr (inr h)) = absurd (n h.stops)
    go (inr (inl h)) = rw h.stops (lower h.before)
      where
        sitter : Ready d (seat_at d h.core)
        sitter = (legal S).ready h.core (reached_below h.last.reached) (h.full.held h.core h.last.reached)

        lower : ComesBefore (joined_of d slot) slot (seat_at d h.core) → priority_of d (seat_at d h.core) < priority_of d slot
        lower (inl l) = l
        lower (inr (e, l)) = let k = joined_last L S (called_below d W.answer z) (wake_off L S W z) sitter in absurd (omega arith)

-- ---- a task leaves the wake order, and the seats are l

module _ {d : Dispatcher} (slot : ℕ) (L : Shaped d) (S : Sound d) (l : List ℕ) where
  gone_only : (t : ℕ) → Ready (with_seats (left_of d slot) l) t → Ready d t × (t ≢ slot)
  gone_only t r = left_only slot L S (ready_before (left_of d slot) l r)

  gone_old : (t : ℕ) → Ready d t → t ≢ slot → Ready (with_seats (left_of d slot) l) t
  gone_old t r n = reseated_ready l (left_old slot L S r n)

  -- the order of those who stay is that of their ranks before
  gone_ranked : Ranked (Ready (with_seats (left_of d slot) l)) (ComesBefore (left_of d slot)) (rank_at d)
  gone_ranked = record {
    lower = λ t u r q b. O.lower t u (gone_only t r).0 (gone_only u q).0 ((left_before slot L S (old r) (old q)).0 b);
    before = λ t u r q b. (left_before slot L S (old r) (old q)).1 (O.before t u (gone_only t r).0 (gone_only u q).0 b);
    once = λ t u r q. O.once t u (gone_only t r).0 (gone_only u q).0;
  }
    where
      O : Ranked (Ready d) (ComesBefore d) (rank_at d)
      O = ranked L S

      old : {t : ℕ} → Ready (with_seats (left_of d slot) l) t → Ready (left_of d slot) t
      old r = ready_before (left_of d slot) l r

  gone_ready : (t : ℕ) → Ready (with_seats (left_of d slot) l) t ↔ (Ready d t × (t ≢ slot))
  gone_ready t = (gone_only t, λ q. gone_old t q.0 q.1)

-- ---- a block that is done: the task waited

module _ {d : Dispatcher} {slot : ℕ} (L : Shaped d) (S : Sound d) (W : Waits d slot) where
  unseated : (c : ℕ) → c < core_limit → seat_at d c ≢ slot
  unseated c l e = W.off (record { real = ready_real W.ready; core = c; below = seat_below S l (λ z. ready_real W.ready (sym e ∙ z)); sits = e })

  waited_keeps : Shaped (left_of d slot) × Sound (left_of d slot)
  waited_keeps = (left_shaped slot L, left_sound slot L S unseated)

  waited_rule : KeepsIn d (seat_at d) → Rule d (left_of d slot) 0
  waited_rule K = leaves_keeps (some_core S) (ranked L S) (gone_ranked slot L S d.seats) K (gone_only slot L S d.seats) (gone_old slot L S d.seats) W.off

-- ---- a block that is done: the task ran on core z

refills_keeps : {d : Dispatcher} {z : ℕ} {r : Outcome} → Shaped d → Sound d → Refills d z r → Shaped r.dispatcher × Sound r.dispatcher
refills_keeps {d} L S F = reseated d L S F.rest F.size (fills_legal (legal S) (λ t q. ready_real q) F.fills) (fills_beyond F.fills)

module _ {d : Dispatcher} {slot z : ℕ} {r : Outcome} (L : Shaped d) (S : Sound d) (below : z < d.cores) (sits : seat_at d z ≡ slot) (F : Refills (freed_of d slot z) z r) where
  ran_rule : Ready d slot → KeepsIn d (seat_at d) → Rule d r.dispatcher r.report.moves
  ran_rule ready K =
      let freed = set d.seats z none in
      let k = fills_keeps (some_core S) (ranked L S) (gone_ranked slot L S freed) K (gone_only slot L S freed) (gone_old slot L S freed) below sits ready (λ t q. ready_real q)
      (freed_idle L S (ready_real ready) below sits) (λ c n. get_or-set_other d.seats z c none none n) F.fills in
      rw F.rest (reseated_keeps r.dispatcher.seats k.0, reseated_least r.dispatcher.seats k.1)

-- ---- a block

module _ {d : Dispatcher} {slot : ℕ} {r : Outcome} (B : Blocks d slot r) where
  -- who is blocked ran on some core, or waited
  ran_or_waited : number_of r.report.answer ≡ 0 → Runs d slot ⊎ Waits d slot
  ran_or_waited y = elim (runs_dec d.cores none (seat_at d) slot) [ inl on ↦ inl on | inr off ↦ inr (record { ready = block_was B y; off = off }) ]

  -- every slot keeps its task
  pub block_tasks : number_of r.report.answer ≡ 0 → r.dispatcher.tasks ≡ d.tasks
  block_tasks y = elim (ran_or_waited y) [ inl on ↦ ap (λ (x : Dispatcher). x.tasks) ((B.done y).ran on.core on.below on.sits).rest | inr w ↦ ap (λ (x : Dispatcher). x.tasks) ((B.done y).waited w).0 ]

  pub block_stops_nobody : r.report.stopped ≡ none
  block_stops_nobody = elim (ℕ_discrete (number_of r.report.answer) 0) [
    | yes y ↦ elim (ran_or_waited y) [ inl on ↦ ((B.done y).ran on.core on.below on.sits).stops | inr w ↦ ap (λ (x : Report). x.stopped) ((B.done y).waited w).1 ]
    | no n ↦ ap (λ (x : Report). x.stopped) (B.still n)
  ]

module _ {d : Dispatcher} {slot : ℕ} {r : Outcome} (L : Shaped d) (S : Sound d) (B : Blocks d slot r) where
  pub block_keeps : Shaped r.dispatcher × Sound r.dispatcher
  block_keeps = promised_keeps (λ x. Shaped x × Sound x) B (L, S) (λ y. elim (ran_or_waited B y) [
    | inl on ↦ let f = freed_sound L S on.real on.below on.sits in refills_keeps f.0 f.1 ((B.done y).ran on.core on.below on.sits)
    | inr w ↦ rw ((B.done y).waited w).0 (waited_keeps L S w)
  ])

  pub block_ready : number_of r.report.answer ≡ 0 → (t : ℕ) → Ready r.dispatcher t ↔ (Ready d t × (t ≢ slot))
  block_ready y t = elim (ran_or_waited B y) [
    | inl on ↦ rw ((B.done y).ran on.core on.below on.sits).rest (gone_ready slot L S r.dispatcher.seats t)
    | inr w ↦ rw ((B.done y).waited w).0 (gone_ready slot L S d.seats t)
  ]

pub block_rule : {d : Dispatcher} {slot : ℕ} {r : Outcome} → Shaped d → Sound d → KeepsIn d (seat_at d) → Blocks d slot r → Ruled d r
block_rule L S K B = promised_rule B K (λ y. elim (ran_or_waited B y) [
  | inl on ↦ ran_rule L S on.below on.sits ((B.done y).ran on.core on.below on.sits) (block_was B y) K
  | inr w ↦ let f = (B.done y).waited w in rw (f.0, f.1) (waited_rule L S w K)
])
