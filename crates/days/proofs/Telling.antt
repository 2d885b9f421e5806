-- A day that is told piece by piece: the pieces so far are the text of the calls before the next, and a block always holds a line more.
use Prim.Native.Nat.{ℕ, zero, suc, ◌+◌, ◌≤◌, ◌<◌}
use mathlib.Core.Path.{◌≡◌, refl, sym, ap, ◌∙◌}
use mathlib.Core.Logic.{inl, inr}
use mathlib.Core.List.{List, [], ◌∷◌, ◌++◌, append_assoc, append-nil}
use native.Mathlib.Decide.{ℕ_discrete, dec_lt}
use native.Mathlib.Nat.{add-zero, zero-add}
use native.Mathlib.Omega.{arith}
use denote.Ref.{Bor}
use lib.ListN.{length, take}
use lib.Seq.{take_at}
use Rattle.std.specs.Prelude.{Result, Ok, Err, ⊤}
use Rattle.std.specs.Fn.{Mut, CalledAt}
use Rattle.std.specs.List.{concat}
use Rattle.std.proofs.lemmas.Fn.{FoldsTo-push}
use Rattle.dispatcher.specs.Slots.{Shaped}
use Rattle.dispatcher.specs.Sound.{Sound}
use Rattle.dispatcher.specs.Answers.{Answer}
use Rattle.dispatcher.specs.Fresh.{Freshly}
use Rattle.dispatcher.specs.declared.Dispatcher.{Dispatcher}
use Rattle.dispatcher.specs.declared.Outcome.{Outcome}
use Rattle.dispatcher.proofs.Same.{refusal_positive}
use Rattle.dispatcher.proofs.Unsound.{sound_own}
use Rattle.files.specs.Layout.{core_count, record_count_of, event_count}
use Rattle.files.specs.Faults.{WellFormed}
use Rattle.files.specs.Day.{Bytes}
use Rattle.lines.specs.Line.{text_refusals}
use Rattle.calls.proofs.Calling.{does_keeps}
use Rattle.calls.proofs.Demands.{sound_after}
use Rattle.days.specs.declared.Replayed.{Replayed}
use Rattle.days.specs.Step.{line_of, Steps}
use Rattle.days.specs.Replay.{Prints, stop_of, Short, Replays}
use Rattle.days.specs.Telling.{Hears, Fails}
use Rattle.days.proofs.Printing.{prints_join}
use Rattle.days.proofs.Same.{kind_small}
use Rattle.days.proofs.Days.{call_fits, call_there, no_call_there, prints_after}

-- no more calls are made than a well-formed file has
prints_within : (b : List ℕ) → WellFormed b → (k : ℕ) (d : Dispatcher) (n : ℕ) (e : Dispatcher) (t : List ℕ) → Prints b k d n e t
    → k ≤ record_count_of b + event_count b → k + n ≤ record_count_of b + event_count b
prints_within b w k d zero e t p l = rw (add-zero k) l
prints_within b w k d (suc n) e t (o, line, u, at, _, rest) l =
    elim (dec_lt k (record_count_of b + event_count b)) [
      | yes m ↦ let more : k + 1 + n ≤ record_count_of b + event_count b = prints_within b w (k + 1) o.dispatcher n e u rest (omega arith) in omega arith
      | no m ↦ absurd (no_call_there b k (omega arith) at.call at.at)
    ]

-- the next line of a sound dispatcher has room in a block
module _ {b : List ℕ} {k : ℕ} {d : Dispatcher} {room : List ℕ} (bytes : Bytes b) (w : WellFormed b) (L : Shaped d) (S : Sound d) (more : k < record_count_of b + event_count b) (wide : 231 ≤ length room) where
  never_stops : Short b k d → (a : Answer) (after : List ℕ) → Steps b k d room after (stop_of a) → ⊥
  never_stops short (Ok done) after (inl t) = t.told
  never_stops short (Err r) after (inl t) =
      let keeps = does_keeps t.call t.outcome (call_fits b k t.call bytes t.at) L S t.does in
      let line = line_of k t.call t.outcome in
      elim (sound_own t.outcome.dispatcher keeps.1 (text_refusals line t.outcome.dispatcher room) _ (t.told.answer.answer.listed (refusal_positive r))) [
        | inl (_, bad) ↦ bad (kind_small t.call)
        | inr (inl (_, long)) ↦ omega (arith, short t.outcome _ (record { call = t.call; at = t.at; does = t.does; sound = keeps.1; text = refl }))
        | inr (inr none) ↦ none
      ]
  never_stops short (Ok done) after (inr e) = let there = call_there b w k more in e.none there.0 there.1
  never_stops short (Err r) after (inr e) = let there = call_there b w k more in e.none there.0 there.1

  pub goes_further : {after : List ℕ} {r : Replayed} → Replays b k d room after r → Short b r.next r.dispatcher → k < r.next
  goes_further {r = r} x short = elim (ℕ_discrete x.made 0) [ yes e ↦ absurd (stuck e) | no n ↦ omega (arith, x.next) ]
    where
      stuck : x.made ≡ 0 → ⊥
      stuck e =
          let made = rw e at x.prints in
          let stops = x.stops in
          let here : r.next ≡ k = omega (arith, x.next) in
          never_stops (rw (made.0, here) at short) r.answer stops.after (rw (made.0, made.1, e, add-zero k) at stops.steps)

-- what was told before the next call, whose dispatcher is e
pub record SoFarTold {F E : Type 0} (calls : Mut F (Bor (List ℕ) × Unit {0}) (Result ⊤ E)) (b : List ℕ) (start : F) (d : Dispatcher) (f : F) (next : ℕ) (e : Dispatcher) : Type 0 where
  pub pieces : List (List ℕ)
  pub hears : Hears calls start pieces f
  pub prints : Prints b 0 d next e (concat pieces)
  pub within : next ≤ record_count_of b + event_count b

concat_push : (ts : List (List ℕ)) (t : List ℕ) → concat (ts ++ (t ∷ [])) ≡ concat ts ++ t
concat_push [] t = append-nil t
concat_push (u ∷ ts) t = ap (λ (l : List ℕ). u ++ l) (concat_push ts t) ∙ sym (append_assoc u (concat ts) t)

sound_at : (b : List ℕ) {n : ℕ} {r : Outcome} → Bytes b → Freshly n r → (m : ℕ) {e : Dispatcher} (t : List ℕ) → Prints b 0 r.dispatcher m e t → Shaped e × Sound e
sound_at b {n} {r} bytes fresh m {e} t prints = let (steps, after, _, _) = prints_after n b bytes r fresh m e t prints in sound_after n steps e after

module _ {F E : Type 0} {calls : Mut F (Bor (List ℕ) × Unit {0}) (Result ⊤ E)} {b : List ℕ} {start f : F} {next : ℕ} (fresh : Outcome) {e : Dispatcher} {room after : List ℕ} {r : Replayed}
    (w : WellFormed b) (s : SoFarTold calls b start fresh.dispatcher f next e) (x : Replays b next e room after r) where
  pub told_further : Bytes b → (n : ℕ) → Freshly n fresh → next < record_count_of b + event_count b → 231 ≤ length room → Short b r.next r.dispatcher → next < r.next
  told_further bytes n freshly more wide short = let sound = sound_at b {n = n} {r = fresh} bytes freshly next (concat s.pieces) s.prints in goes_further bytes w sound.0 sound.1 more wide x short

  -- what was told with the next piece is the text of the calls before the one after it
  told_text : {piece : List ℕ} → piece ≡ take r.length after → Prints b 0 fresh.dispatcher r.next r.dispatcher (concat s.pieces ++ piece)
  told_text {piece} is = rw (x.next, text) (prints_join b 0 fresh.dispatcher next x.made e r.dispatcher (concat s.pieces) x.text s.prints (rw (zero-add next) x.prints))
    where
      text : piece ≡ x.text
      text = is ∙ ap (take r.length) x.written ∙ take_at x.text _ r.length (sym x.length_told)

  pub told_more : {piece : List ℕ} {g : F} → CalledAt calls f piece (Ok tt) g → piece ≡ take r.length after → SoFarTold calls b start fresh.dispatcher g r.next r.dispatcher
  told_more {piece} {g} heard is = record {
    pieces = s.pieces ++ (piece ∷ []);
    hears = FoldsTo-push _ start s.pieces f piece g s.hears heard;
    prints = rw (concat_push s.pieces piece) (told_text is);
    within = rw x.next (prints_within b w next e x.made r.dispatcher x.text x.prints s.within);
  }

  pub told_fails : Freshly (core_count b) fresh → {piece : List ℕ} {g : F} {error : E} → CalledAt calls f piece (Err error) g → piece ≡ take r.length after → Fails calls start b error
  told_fails freshly {piece} {g} failed is = record {
    pieces = s.pieces;
    before = f;
    hears = s.hears;
    piece = piece;
    after = g;
    failed = failed;
    fresh = fresh;
    freshly = freshly;
    made = r.next;
    dispatcher = r.dispatcher;
    prints = told_text is;
  }
