-- Any two results that a promise allows are the same: a place of the file has one call, a call one result, and a result one line.
use Prim.Native.Nat.{ℕ, zero, suc, ◌+◌, ◌≤◌, ◌<◌}
use mathlib.Core.Path.{◌≡◌, refl, sym, ap, ◌∙◌}
use mathlib.Core.Logic.{inl, inr}
use mathlib.Core.List.{List, ◌++◌}
use native.Mathlib.Decide.{dec_lt}
use native.Mathlib.Nat.{add-zero}
use native.Mathlib.Omega.{arith}
use lib.ListN.{length, drop, length-append, length-drop}
use Rattle.std.specs.Prelude.{Option, Some, None, Result, Ok, Err}
use Rattle.laws.specs.Answering.{Applies}
use Rattle.dispatcher.specs.Limits.{core_limit}
use Rattle.dispatcher.specs.Sound.{Sound}
use Rattle.dispatcher.specs.Answers.{Answer}
use Rattle.dispatcher.specs.declared.Refusal.{Refusal}
use Rattle.dispatcher.specs.declared.Dispatcher.{Dispatcher}
use Rattle.dispatcher.specs.declared.Outcome.{Outcome}
use Rattle.dispatcher.proofs.Unsound.{sound_own}
use Rattle.dispatcher.proofs.Same.{refusal_positive}
use Rattle.lines.specs.Line.{IsLineKind, text_refusals, line_refusals}
use Rattle.lines.specs.declared.Line.{Line}
use Rattle.lines.proofs.Longest.{Wide, line_longest}
use Rattle.lines.proofs.Same.{writes_same}
use Rattle.calls.specs.Call.{Call, create, delete, load, wake, block, Does}
use Rattle.calls.proofs.Calling.{does_same}
use Rattle.days.specs.declared.FileCall.{FileCall}
use Rattle.days.specs.declared.FileCall.TheVariants.{Create, Wake, Block, Delete}
use Rattle.days.specs.declared.Stepped.{Stepped}
use Rattle.days.specs.declared.Replayed.{Replayed}
use Rattle.days.specs.Calls.{CallAt, call_of, ReadsCall}
use Rattle.days.specs.Step.{kind_of, line_of, Told, Steps}
use Rattle.days.specs.Replay.{LineAt, Short, Prints, stop_of, Stops, Replays}
use Rattle.days.proofs.Calling.{call_same}

-- ---- the call that is read

-- what is asked for tells the call; no file asks for a load
asked : Call → FileCall
asked (create slot priority mask) = Create (record { slot = slot; priority = priority; mask = mask })
asked (wake slot) = Wake slot
asked (block slot) = Block slot
asked (delete slot) = Delete slot
asked (load list) = Wake 0

asked_back : (f : FileCall) → asked (call_of f) ≡ f
unfolding asked
asked_back (Create r) = refl
asked_back (Wake slot) = refl
asked_back (Block slot) = refl
asked_back (Delete slot) = refl

pub reads_call_same : (b : List ℕ) (k : ℕ) (f g : Option FileCall) → ReadsCall b k f → ReadsCall b k g → f ≡ g
reads_call_same b k (Some f) (Some g) x y = ap Some (sym (asked_back f) ∙ ap asked (call_same b k (call_of f) (call_of g) x y) ∙ asked_back g)
reads_call_same b k (Some f) None x y = absurd (y (call_of f) x)
reads_call_same b k None (Some g) x y = absurd (x (call_of g) y)
reads_call_same b k None None x y = refl

-- ---- a step

made_same : (b : List ℕ) (k : ℕ) (d : Dispatcher) (c e : Call) {o p : Outcome} → CallAt b k c → CallAt b k e → Does c d o → Does e d p → (c ≡ e) × (o ≡ p)
made_same b k d c e at bt x y = let same = call_same b k c e at bt in (same, does_same c d x (rw same y))

-- where a call has a line of its fields' widths, no other line can be there
pub short_of : {b : List ℕ} {k : ℕ} {d : Dispatcher} (c : Call) (o : Outcome) → CallAt b k c → Does c d o → Wide (line_of k c o) → length o.dispatcher.seats ≡ core_limit → Short b k d
short_of {b} {k} {d} c o at does wide seats p t x =
    let same = made_same b k d x.call c x.at at x.does does in
    let sound : Sound o.dispatcher = rw same.1 at x.sound in
    rw (x.text, same.0, same.1) (line_longest (line_of k c o) o.dispatcher wide sound seats)

told_same : (line : Line) (made : Outcome) (before : List ℕ) {after after' : List ℕ} (r q : Result (Option Stepped) Refusal)
    → Told line made before after r → Told line made before after' q → (r ≡ q) × (after ≡ after')
told_same line made before (Ok (Some s)) (Ok (Some u)) x y =
    let same = writes_same line made.dispatcher {r = Ok s.length} {q = Ok u.length} x.0 y.0 in
    let size : s.length ≡ u.length = cc in
    (λ i. Ok (Some (record { length = size i; dispatcher = (x.1 ∙ sym y.1) i })), same.1)
told_same line made before (Ok (Some s)) (Err e) x y = cc (writes_same line made.dispatcher {r = Ok s.length} {q = Err e} x.0 y).0
told_same line made before (Err e) (Ok (Some u)) x y = cc (writes_same line made.dispatcher {r = Err e} {q = Ok u.length} x y.0).0
told_same line made before (Err e) (Err f) x y =
    let same = writes_same line made.dispatcher {r = Err e} {q = Err f} x y in
    (cc same.0, same.1)
told_same line made before (Ok None) q x y = absurd x
told_same line made before (Ok (Some s)) (Ok None) x y = absurd y
told_same line made before (Err e) (Ok None) x y = absurd y

pub steps_same : {b : List ℕ} {k : ℕ} {d : Dispatcher} (before : List ℕ) {after after' : List ℕ} (r q : Result (Option Stepped) Refusal)
    → Steps b k d before after r → Steps b k d before after' q → (r ≡ q) × (after ≡ after')
steps_same {b} {k} {d} before r q (inl x) (inl y) =
    let same = made_same b k d x.call y.call x.at y.at x.does y.does in
    told_same (line_of k x.call x.outcome) x.outcome before r q x.told (rw (← same.0, ← same.1) at y.told)
steps_same before r q (inl x) (inr y) = absurd (y.none x.call x.at)
steps_same before r q (inr x) (inl y) = absurd (x.none y.call y.at)
steps_same before r q (inr x) (inr y) = (x.nothing ∙ sym y.nothing, x.bytes ∙ sym y.bytes)

-- ---- the lines

line_same : {b : List ℕ} {k : ℕ} {d : Dispatcher} {o p : Outcome} {l m : List ℕ} → LineAt b k d o l → LineAt b k d p m → (o ≡ p) × (l ≡ m)
line_same {b} {k} {d} x y =
    let same = made_same b k d x.call y.call x.at y.at x.does y.does in
    (same.1, x.text ∙ rw (same.0, same.1) (sym y.text))

pub prints_same : (b : List ℕ) (k : ℕ) (d : Dispatcher) (n : ℕ) {e f : Dispatcher} {t u : List ℕ} → Prints b k d n e t → Prints b k d n f u → (e ≡ f) × (t ≡ u)
prints_same b k d zero (p, q) (p', q') = (p ∙ sym p', q ∙ sym q')
prints_same b k d (suc n) (o, l, v, at, text, rest) (o', l', v', at', text', rest') =
    let same = line_same at at' in
    let more = prints_same b (k + 1) o.dispatcher n rest (rw (← same.0) at rest') in
    (more.0, text ∙ rw (same.1, more.1) (sym text'))

-- after the text t and from e there is a line more of call k, within the text u
record Further (b : List ℕ) (k : ℕ) (e : Dispatcher) (t u : List ℕ) : Type 0 where
  outcome : Outcome
  line : List ℕ
  at : LineAt b k e outcome line
  within : length t + length line ≤ length u

further : {b : List ℕ} {k j : ℕ} {e : Dispatcher} {t u v w : List ℕ} (l : List ℕ) → v ≡ l ++ t → w ≡ l ++ u → j ≡ k → Further b k e t u → Further b j e v w
further {t} {u} l p q same h = record {
  outcome = h.outcome;
  line = h.line;
  at = rw same h.at;
  within = rw (p, q, length-append l t, length-append l u) (omega arith);
}

-- of two runs the longer has a line more, where the shorter ends
next_line : (b : List ℕ) (k : ℕ) (d : Dispatcher) (n m : ℕ) {e : Dispatcher} (f : Dispatcher) {t u : List ℕ} → n < m → Prints b k d n e t → Prints b k d m f u → Further b (k + n) e t u
next_line b k d zero zero f less x y = absurd (omega arith)
next_line b k d (suc n) zero f less x y = absurd (omega arith)
next_line b k d zero (suc m) f less (p, q) (o, l, v, at, text, rest) =
    record { outcome = o; line = l; at = rw (p, add-zero k) at; within = rw (q, text, length-append l v) (omega arith) }
next_line b k d (suc n) (suc m) f less (o, l, v, at, text, rest) (o', l', v', at', text', rest') =
    let same = line_same at at' in
    further l text (rw same.1 text') (omega arith) (next_line b (k + 1) o.dispatcher n m f (omega arith) rest (rw (← same.0) at rest'))

-- ---- a run

pub kind_small : (c : Call) → IsLineKind (kind_of c)
kind_small (create slot priority mask) = omega arith
kind_small (wake slot) = omega arith
kind_small (block slot) = omega arith
kind_small (delete slot) = omega arith
kind_small (load list) = omega arith

-- a line that fits is written
not_stopped : {b : List ℕ} {k : ℕ} {d : Dispatcher} {room l : List ℕ} {o : Outcome} {a : Answer} → LineAt b k d o l → length l ≤ length room → Stops b k d room a → ⊥
not_stopped {b} {k} {d} {room} {o} {a = a} x fits stops = go a stops.steps
  where
    none_refuses : (c : Call) (p : Outcome) → c ≡ x.call → p ≡ o → (m : ℕ) → Applies (line_refusals (line_of k c p) p.dispatcher room) m → ⊥
    none_refuses c p same made m h = elim (sound_own p.dispatcher (rw made x.sound) (text_refusals (line_of k c p) p.dispatcher room) m h) [
      | inl (_, bad) ↦ bad (kind_small c)
      | inr (inl (_, long)) ↦ let short = rw (same, made, ← x.text) at long in omega arith
      | inr (inr a) ↦ a
    ]

    go : (a : Answer) → Steps b k d room stops.after (stop_of a) → ⊥
    go (Ok done) (inl t) = t.told
    go (Err r) (inl t) =
        let same = made_same b k d t.call x.call t.at x.at t.does x.does in
        none_refuses t.call t.outcome same.0 same.1 _ (t.told.answer.answer.listed (refusal_positive r))
    go (Ok done) (inr e) = e.none x.call x.at
    go (Err r) (inr e) = e.none x.call x.at

stop_same : (a c : Answer) → stop_of a ≡ stop_of c → a ≡ c
stop_same (Ok done) (Ok done') e = refl
stop_same (Ok done) (Err r) e = cc e
stop_same (Err r) (Ok done) e = cc e
stop_same (Err r) (Err q) e = cc e

-- a run does not stop where another goes on
not_fewer : {b : List ℕ} {k : ℕ} {d : Dispatcher} {before after after' : List ℕ} {r q : Replayed}
    → (x : Replays b k d before after r) (y : Replays b k d before after' q) → x.made < y.made → ⊥
not_fewer {b} {k} {d} {before} {q} x y less =
    let next = next_line b k d x.made y.made q.dispatcher less x.prints y.prints in
    not_stopped next.at (rw (length-drop (length x.text) before) (omega (arith, y.fits))) x.stops

pub replays_same : {b : List ℕ} {k : ℕ} {d : Dispatcher} {before after after' : List ℕ} {r q : Replayed}
    → Replays b k d before after r → Replays b k d before after' q → (r ≡ q) × (after ≡ after')
replays_same {b} {k} {d} {before} {after} {after'} {r} {q} x y = go (dec_lt x.made y.made) (dec_lt y.made x.made)
  where
    equal : x.made ≡ y.made → (r ≡ q) × (after ≡ after')
    equal many =
        let (kept, text) = prints_same b k d x.made x.prints (rw (← many) at y.prints) in
        let stops : Stops b (k + x.made) r.dispatcher (drop (length x.text) before) q.answer = rw (many, kept, text) y.stops in
        let answer = stop_same r.answer q.answer (steps_same _ _ _ x.stops.steps stops.steps).0 in
        let next : r.next ≡ q.next = omega arith in
        let size : r.length ≡ q.length = cc in
        ((λ i. record { answer = answer i; next = next i; length = size i; dispatcher = kept i }), x.written ∙ rw text (sym y.written))

    go : Dec (x.made < y.made) → Dec (y.made < x.made) → (r ≡ q) × (after ≡ after')
    go (yes l) _ = absurd (not_fewer x y l)
    go (no l) (yes g) = absurd (not_fewer y x g)
    go (no l) (no g) = equal (omega arith)
