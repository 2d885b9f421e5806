-- A day as a whole: a well-formed file has one call for each record and event, and these calls from a fresh dispatcher have one text.
use Prim.Native.Nat.{ℕ, zero, suc, ◌+◌, ◌-◌, ◌≤◌, ◌<◌}
use mathlib.Core.Path.{◌≡◌, refl, sym}
use mathlib.Core.Bool.{true}
use mathlib.Core.List.{List, [], ◌∷◌, ◌++◌}
use native.Mathlib.Decide.{ℕ_discrete, dec_lt}
use native.Mathlib.Numerals.{add-one}
use native.Mathlib.Omega.{arith}
use lib.ListN.{length}
use Rattle.laws.proofs.Deciding.{decides_true}
use Rattle.dispatcher.specs.Slots.{seat_at, Shaped}
use Rattle.dispatcher.specs.Sound.{Sound}
use Rattle.dispatcher.specs.Answers.{number_of}
use Rattle.dispatcher.specs.Fresh.{Freshly}
use Rattle.dispatcher.specs.declared.Dispatcher.{Dispatcher}
use Rattle.dispatcher.specs.declared.Outcome.{Outcome}
use Rattle.dispatcher.proofs.Freshness.{fresh_of, freshly, freshly_keeps}
use Rattle.dispatcher.proofs.Same.{freshly_same}
use Rattle.files.specs.Layout.{byte, lowest_first, mask_bytes, core_count, record_count_of, record_place, event_count, event_place, HasEvent}
use Rattle.files.specs.Faults.{IsEventKind, WellFormed}
use Rattle.files.specs.Day.{Bytes}
use Rattle.lines.specs.Line.{text_of}
use Rattle.shifting.specs.Rule.{LeastIn}
use Rattle.calls.specs.Call.{Call, create, delete, load, wake, block, Fits}
use Rattle.calls.specs.Sequence.{Step, After}
use Rattle.calls.specs.Demands.{Demand2}
use Rattle.calls.proofs.Calling.{does_keeps, model_of, model_does}
use Rattle.calls.proofs.Demands.{demand_2, demand_3}
use Rattle.days.specs.Calls.{CallAt, HasNoCall}
use Rattle.days.specs.Step.{line_of}
use Rattle.days.specs.Replay.{LineAt, Prints, DayText, CallsOf}
use Rattle.days.proofs.Same.{prints_same}

-- ---- the calls of a file

pub call_there : (b : List ℕ) → WellFormed b → (k : ℕ) → k < record_count_of b + event_count b → (c : Call) × CallAt b k c
call_there b w k l = go (dec_lt k (record_count_of b))
  where
    i : ℕ
    i = k - record_count_of b

    event : record_count_of b ≤ k → HasEvent b i
    event m = record { counted = omega arith; there = omega (arith, w.whole) }

    kind : ℕ
    kind = byte b (event_place b i)

    of_kind : record_count_of b ≤ k → IsEventKind kind → Dec (kind ≡ 1) → Dec (kind ≡ 2) → (c : Call) × CallAt b k c
    of_kind m q (yes e) _ = (wake _, (m, (event m, sym e, refl)))
    of_kind m q (no n) (yes e) = (block _, (m, (event m, sym e, refl)))
    of_kind m q (no n) (no o) = (delete _, (m, (event m, omega arith, refl)))

    go : Dec (k < record_count_of b) → (c : Call) × CallAt b k c
    go (yes m) =
        let p = record_place b k in
        (create (byte b p) (byte b (p + 1)) (lowest_first mask_bytes b (p + 2)), (record { counted = m; there = omega (arith, w.whole) }, refl, refl, refl))
    go (no m) = of_kind (omega arith) (w.kinds i (omega arith)) (ℕ_discrete kind 1) (ℕ_discrete kind 2)

pub no_call_there : (b : List ℕ) (k : ℕ) → record_count_of b + event_count b ≤ k → HasNoCall b k
no_call_there b k l (create _ _ _) a = omega (arith, a.0.counted)
no_call_there b k l (wake _) a = omega (arith, a.1.0.counted)
no_call_there b k l (block _) a = omega (arith, a.1.0.counted)
no_call_there b k l (delete _) a = omega (arith, a.1.0.counted)
no_call_there b k l (load _) a = a

-- a priority that is read is a byte
pub call_fits : (b : List ℕ) (k : ℕ) (c : Call) → Bytes b → CallAt b k c → Fits c
call_fits b k (create _ _ _) bytes a = omega (arith, a.2, bytes (record_place b k + 1))
call_fits b k (wake _) bytes a = tt
call_fits b k (block _) bytes a = tt
call_fits b k (delete _) bytes a = tt
call_fits b k (load _) bytes a = absurd a

-- ---- runs

goes_on : (n : ℕ) (b : List ℕ) → Bytes b → (l : List Step) (d : Dispatcher) → After n l d → CallsOf b l → (m : ℕ) (e : Dispatcher) (t : List ℕ) → Prints b (length l) d m e t
    → (s : List Step) × After n s e × (length s ≡ length l + m) × CallsOf b s
goes_on n b bytes l d after calls zero e t (p, q) = (l, rw p after, omega arith, calls)
goes_on n b bytes l d after calls (suc m) e t (o, _, u, line, _, rest) =
    let step : Step = record { call = line.call; outcome = o } in
    let made : After n (step ∷ l) o.dispatcher = (d, after, call_fits b (length l) line.call bytes line.at, line.does, refl) in
    let (s, ends, long, all) = goes_on n b bytes (step ∷ l) o.dispatcher made (line.at, calls) m e u (rw (add-one (length l)) at rest) in
    (s, ends, omega arith, all)

-- a run from a fresh dispatcher is a sequence of calls, those of the file
pub prints_after : (n : ℕ) (b : List ℕ) → Bytes b → (r : Outcome) → Freshly n r → (m : ℕ) (e : Dispatcher) (t : List ℕ) → Prints b 0 r.dispatcher m e t
    → (l : List Step) × After n l e × (length l ≡ m) × CallsOf b l
prints_after n b bytes r fresh m e t h = let (l, after, long, calls) = goes_on n b bytes [] r.dispatcher (r, fresh, refl) tt m e t h in (l, after, omega arith, calls)

-- so demand 2 holds after each line
pub day_demand_2 : (b : List ℕ) → Bytes b → (r : Outcome) → Freshly (core_count b) r → (m : ℕ) (e : Dispatcher) (t : List ℕ) → Prints b 0 r.dispatcher m e t
    → (l : List Step) × After (core_count b) l e × Demand2 l e × (length l ≡ m) × CallsOf b l
day_demand_2 b bytes r fresh m e t h =
    let (l, after, long, calls) = prints_after (core_count b) b bytes r fresh m e t h in
    (l, after, demand_2 (core_count b) l e after, long, calls)

-- and of the next line, where its call is accepted, the moves that it tells are the fewest
pub day_demand_3 : (b : List ℕ) → Bytes b → (r : Outcome) → Freshly (core_count b) r → (m : ℕ) (e : Dispatcher) (t : List ℕ) → Prints b 0 r.dispatcher m e t
    → (o : Outcome) (l : List ℕ) → LineAt b m e o l → number_of o.report.answer ≡ 0
    → LeastIn o.dispatcher (seat_at e) (seat_at o.dispatcher) o.report.moves
day_demand_3 b bytes r fresh m e t h o l line done =
    let (steps, after, _, _) = prints_after (core_count b) b bytes r fresh m e t h in
    demand_3 (core_count b) steps e line.call o after line.does done

-- ---- the text of a day

-- a call that is there has a result and a line, and what it leaves is sound again
line_there : (b : List ℕ) → Bytes b → (k : ℕ) (c : Call) → CallAt b k c → {d : Dispatcher} → Shaped d → Sound d
    → (o : Outcome) × (l : List ℕ) × LineAt b k d o l × Shaped o.dispatcher
line_there b bytes k c at {d} L S =
    let o = model_of c d in
    let does = model_does c L S in
    let keeps = does_keeps c o (call_fits b k c bytes at) L S does in
    (o, text_of (line_of k c o) o.dispatcher, record { call = c; at = at; does = does; sound = keeps.1; text = refl }, keeps.0)

abbrev Run : List ℕ → ℕ → Dispatcher → ℕ → Type 0
Run b k d n = (e : Dispatcher) × (t : List ℕ) × Prints b k d n e t

run_from : {b : List ℕ} {k : ℕ} {d : Dispatcher} {o : Outcome} {l : List ℕ} (n : ℕ) → LineAt b k d o l → Run b (k + 1) o.dispatcher n → Run b k d (suc n)
run_from {o} {l} n line (e, u, rest) = (e, l ++ u, (o, l, u, line, refl, rest))

run_there : (b : List ℕ) → Bytes b → WellFormed b → (n k : ℕ) (d : Dispatcher) → k + n ≤ record_count_of b + event_count b → Shaped d → Sound d → Run b k d n
run_there b bytes w zero k d fits L S = (d, [], (refl, refl))
run_there b bytes w (suc n) k d fits L S =
    let (c, at) = call_there b w k (omega arith) in
    let (o, l, line, shaped) = line_there b bytes k c at L S in
    run_from n line (run_there b bytes w n (k + 1) o.dispatcher (omega arith) shaped line.sound)

pub day_text : (b : List ℕ) → Bytes b → WellFormed b → (t : List ℕ) × DayText b t
day_text b bytes w =
    let fresh = freshly (decides_true w.count) in
    let keeps = freshly_keeps fresh in
    let (e, t, prints) = run_there b bytes w (record_count_of b + event_count b) 0 _ (omega arith) keeps.0 keeps.1 in
    (t, record { well_formed = w; fresh = fresh_of true (core_count b); freshly = fresh; after = e; prints = prints })

pub day_text_same : {b t u : List ℕ} → DayText b t → DayText b u → t ≡ u
day_text_same {b} x y =
    let same = freshly_same x.freshly y.freshly in
    (prints_same b 0 x.fresh.dispatcher (record_count_of b + event_count b) x.prints (rw (← same) at y.prints)).1
