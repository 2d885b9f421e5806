-- What a step leaves: a line and the dispatcher after its call, or, where it writes nothing, everything as it stood.
use Prim.Native.Nat.{ℕ, ◌≤◌}
use mathlib.Core.Path.{◌≡◌, refl}
use mathlib.Core.Logic.{inl, inr}
use mathlib.Core.List.{List, [], ◌∷◌, ◌++◌}
use native.Mathlib.Omega.{arith}
use native.Mathlib.Decide.{dec_le}
use lib.ListN.{length, drop, length-append}
use Rattle.std.specs.Prelude.{Some, Ok, Err}
use Rattle.dispatcher.specs.Answers.{Answer}
use Rattle.laws.proofs.Answering.{none_applies}
use Rattle.texts.specs.Joined.{newline, space, joined}
use Rattle.dispatcher.specs.declared.Dispatcher.{Dispatcher}
use Rattle.dispatcher.specs.declared.Outcome.{Outcome}
use Rattle.dispatcher.proofs.Stable.{by_dec}
use Rattle.dispatcher.proofs.Unsound.{done_sound, done_own}
use Rattle.lines.specs.Text.{fields_of, seats_text, line_text}
use Rattle.lines.specs.Line.{text_of}
use Rattle.lines.specs.declared.Line.{Line}
use Rattle.days.specs.declared.Stepped.{Stepped}
use Rattle.days.specs.Step.{line_of, Steps}
use Rattle.days.specs.Replay.{LineAt, stop_of}

-- a step that writes a line made a call, and the line stands at the start of the room
pub record Accepted (b : List ℕ) (k : ℕ) (d : Dispatcher) (before after : List ℕ) (s : Stepped) : Type 0 where
  pub outcome : Outcome
  pub line : List ℕ
  pub line_at : LineAt b k d outcome line
  pub bytes : after ≡ line ++ drop (length line) before
  pub told : s.length ≡ length line
  pub fits : length line ≤ length before
  pub next : s.dispatcher ≡ outcome.dispatcher

-- a line is never empty: its newline is one byte
pub line_some : (l : Line) (seats : List ℕ) → 1 ≤ length (line_text l seats)
unfolding line_text
line_some l seats = rw (length-append (joined space (fields_of l ++ (seats_text seats ∷ []))) (newline ∷ [])) (omega arith)

pub accepted : {b : List ℕ} {k : ℕ} {d : Dispatcher} {before after : List ℕ} {s : Stepped} → Steps b k d before after (Ok (Some s)) → Accepted b k d before after s
accepted {k} {before} (inl t) =
    let w = t.told.0 in
    let line = text_of (line_of k t.call t.outcome) t.outcome.dispatcher in
    record {
      outcome = t.outcome;
      line = line;
      line_at = record { call = t.call; at = t.at; does = t.does; sound = done_sound t.outcome.dispatcher w.answer.answer refl; text = refl };
      bytes = w.written;
      told = w.length_told;
      fits = by_dec (dec_le (length line) (length before)) (λ n. none_applies (done_own t.outcome.dispatcher _ w.answer.answer refl) refl 15 (inr (inl (refl, omega (arith, n)))));
      next = t.told.1;
    }
accepted (inr e) = cc e.nothing

-- a step that writes nothing leaves the room as it was
pub nothing_kept : {b : List ℕ} {k : ℕ} {d : Dispatcher} {before after : List ℕ} (a : Answer) → Steps b k d before after (stop_of a) → after ≡ before
nothing_kept (Ok done) (inl t) = absurd t.told
nothing_kept (Err r) (inl t) = t.told.kept
nothing_kept (Ok done) (inr e) = e.bytes
nothing_kept (Err r) (inr e) = e.bytes
