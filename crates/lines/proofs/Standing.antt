-- The ends of writing a line: refused, which changes nothing, or handed over.
use Rattle.std.proofs.Common.{ℕ, ◌≤◌, ◌<◌, ◌≡◌, refl, List, [], ◌∷◌, ◌++◌, length, drop, length-append, inl, inr, arith}
use Rattle.std.specs.Prelude.{Option, Some, None, Ok, Err, IfOk}
use Rattle.std.specs.Option.{ok_or}
use Rattle.laws.specs.Answering.{◌when◌, Applies, turn_of}
use Rattle.laws.proofs.Answering.{answers_first, answers_then, answers_one, answers_none}
use Rattle.texts.specs.HandOver.{HandsOver}
use Rattle.dispatcher.specs.Answers.{Answer}
use Rattle.dispatcher.specs.Unsound.{unsound_refusals}
use Rattle.dispatcher.specs.Sound.{Sound}
use Rattle.dispatcher.specs.Promise.{Answered}
use Rattle.dispatcher.specs.declared.Dispatcher.{Dispatcher}
use Rattle.dispatcher.specs.declared.Refusal.{Refusal as Reason}
use Rattle.dispatcher.specs.declared.Refusal.TheVariants.{BadKind, LineLong}
use Rattle.dispatcher.proofs.Same.{refusal_positive}
use Rattle.dispatcher.proofs.Unsound.{done_sound, unsound_first, sound_then}
use Rattle.lines.specs.declared.Line.{Line}
use Rattle.lines.specs.Line.{IsLineKind, IsLong, SaysLong, Written, text_of, text_refusals, Stands, Writes}

pub stands_refused : {Says : Answer → Type 0} {text before : List ℕ} {r : Reason} → Says (Err r) → Stands Says text before before (Err r)
stands_refused h = record { answer = h; length_told = tt; written = tt; kept = refl }

pub stands_done : {Says : Answer → Type 0} {text before after : List ℕ} {n : ℕ} → Says (Ok tt) → n ≡ length text → after ≡ text ++ drop (length text) before
    → Stands Says text before after (Ok n)
stands_done h e w = record { answer = h; length_told = e; written = w; kept = tt }

-- what was written lies within the buffer
pub stands_within : {Says : Answer → Type 0} {text before after : List ℕ} {r : Written} → Stands Says text before after r → IfOk r (λ n. n ≤ length after)
stands_within {text = text} {r = Ok n} s = rw (s.length_told, s.written, length-append text) (omega arith)
stands_within {r = Err r} s = tt

pub handed_done : {text before after : List ℕ} {n : ℕ} → HandsOver text before after (Some n) → Stands (SaysLong text before) text before after (Ok n)
handed_done h = stands_done (answers_none 15 (λ long. grind (arith, h.room))) h.length_told h.written

-- 15 is answered where there is no room
pub handed_refused : {text before after : List ℕ} → HandsOver text before after None → Stands (SaysLong text before) text before after (Err LineLong)
handed_refused h = record { answer = answers_one 15 (omega arith) (grind (arith, h.room)); length_told = tt; written = tt; kept = h.kept }

pub stands_handed : {text before after : List ℕ} (o : Option ℕ) → HandsOver text before after o → Stands (SaysLong text before) text before after (ok_or o LineLong)
stands_handed None h = handed_refused h
stands_handed (Some n) h = handed_done h

-- ---- a line: what is unsound, then 14, then 15

module _ (l : Line) (d : Dispatcher) {before : List ℕ} where
  pub writes_unsound : {r : Reason} → Answered (unsound_refusals d) d (Err r) → Writes l d before before (Err r)
  writes_unsound {r} h = stands_refused (unsound_first (text_refusals l d before) (omega arith, (omega arith, tt)) h (refusal_positive r))

  pub writes_bad_kind : Sound d → (IsLineKind l.kind → ⊥) → Writes l d before before (Err BadKind)
  writes_bad_kind sound bad = stands_refused (sound_then (text_refusals l d before) (omega arith, (omega arith, tt)) sound
      (answers_first (14 when (IsLineKind l.kind → ⊥) ∷ []) _ (answers_one 14 (omega arith) bad) (λ z. omega arith) above))
    where
      above : (m : ℕ) → Applies (15 when IsLong (text_of l d) before ∷ []) m → turn_of 14 < turn_of m
      above m (inl (e, _)) = rw e (omega arith)
      above m (inr a) = absurd a

  pub writes_handed : {text after : List ℕ} {o : Option ℕ} {r : Written} → HandsOver text before after o → text ≡ text_of l d → r ≡ ok_or o LineLong
      → Answered (unsound_refusals d) d (Ok tt) → IsLineKind l.kind → Writes l d before after r
  writes_handed {o = o} hands same e sound kind =
      let s = stands_handed o (rw same at hands) in
      rw e
      (record {
        answer = sound_then (text_refusals l d before) (omega arith, (omega arith, tt)) (done_sound d sound.answer refl)
            (answers_then (14 when (IsLineKind l.kind → ⊥) ∷ []) _ (answers_none 14 (λ bad. bad kind)) s.answer);
        length_told = s.length_told;
        written = s.written;
        kept = s.kept;
      })
