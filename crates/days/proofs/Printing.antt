-- The lines so far, in a loop that makes one call after the other: they grow by a line at their end.
use Prim.Native.Nat.{ℕ, zero, suc, ◌+◌, ◌-◌, ◌≤◌}
use mathlib.Core.Path.{◌≡◌, refl, sym, ap, subst, ◌∙◌}
use mathlib.Core.List.{List, [], ◌++◌, append_assoc, append-nil}
use native.Mathlib.Omega.{arith}
use native.Mathlib.Nat.{add-zero, zero-add, suc-add}
use native.Mathlib.Numerals.{add-one}
use lib.ListN.{length, take, drop, length-append, length-drop}
use Rattle.std.specs.Prelude.{Option, Some, Result, Ok}
use Rattle.dispatcher.specs.Answers.{Answer}
use Rattle.dispatcher.specs.declared.Refusal.{Refusal}
use lib.Seq.{take_at, drop_at, take_all, drop-length, drop-drop}
use borrow.Rule.Slice.PartMut.{put_mid}
use Rattle.dispatcher.specs.declared.Dispatcher.{Dispatcher}
use Rattle.days.specs.declared.Stepped.{Stepped}
use Rattle.days.specs.Step.{line_of, Steps}
use Rattle.days.specs.Replay.{Prints, stop_of, Stops, Replays}
use Rattle.days.proofs.Stepping.{Accepted, line_some, accepted, nothing_kept}

pub prints_join : (b : List ℕ) (k : ℕ) (d : Dispatcher) (n m : ℕ) (e f : Dispatcher) (t u : List ℕ) → Prints b k d n e t → Prints b (k + n) e m f u → Prints b k d (n + m) f (t ++ u)
prints_join b k d zero m e f t u (p, q) y = rw (zero-add m, q) (rw (add-zero k, p) at y)
prints_join b k d (suc n) m e f t u (o, l, v, at, text, rest) y =
    let place : k + suc n ≡ k + 1 + n = omega arith in
    rw (suc-add n m) (o, l, v ++ u, at, ap (λ (x : List ℕ). x ++ u) text ∙ append_assoc l v u, prints_join b (k + 1) o.dispatcher n m e f v u rest (rw place at y))

pub record SoFar (b : List ℕ) (k : ℕ) (d : Dispatcher) (before after : List ℕ) (next size : ℕ) (e : Dispatcher) : Type 0 where
  pub made : ℕ
  pub text : List ℕ
  pub prints : Prints b k d made e text
  pub next_is : next ≡ k + made
  pub size_is : size ≡ length text
  pub written : after ≡ text ++ drop (length text) before
  pub fits : length text ≤ length before

pub start : (b : List ℕ) (k : ℕ) (d : Dispatcher) (before : List ℕ) → SoFar b k d before before k 0 d
start b k d before =
    record { made = 0; text = []; prints = (refl, refl); next_is = sym (add-zero k); size_is = refl; written = refl; fits = omega arith }

module _ {b : List ℕ} {k : ℕ} {d e : Dispatcher} {before after : List ℕ} {next size : ℕ} (s : SoFar b k d before after next size e) where
  pub length_kept : length after ≡ length before
  length_kept =
      ap length s.written ∙ length-append s.text _ ∙ ap (λ (n : ℕ). length s.text + n) (length-drop (length s.text) before) ∙ omega (arith, s.fits)

  pub within : size ≤ length after
  within = omega (arith, length_kept, s.size_is, s.fits)

  -- what is lent to the next step
  room : take (length after - size) (drop size after) ≡ drop (length s.text) before
  room =
      ap (λ (l : List ℕ). take (length after - size) l) rest
      ∙ take_all (length after - size) _ (rw (length-drop (length s.text) before) (omega (arith, length_kept, s.size_is)))
    where
      rest : drop size after ≡ drop (length s.text) before
      rest = ap (drop size) s.written ∙ drop_at s.text _ size (sym s.size_is)

  -- what the buffer is when it comes back
  back : (part : List ℕ) → put_mid size (length after - size) after part ≡ s.text ++ part
  back part =
      ap (λ (l : List ℕ). l ++ (part ++ drop (length after - size) (drop size after))) front
      ∙ ap (λ (l : List ℕ). s.text ++ (part ++ l)) (drop-drop (length after - size) size after ∙ ap (λ (n : ℕ). drop n after) whole ∙ drop-length after)
      ∙ ap (λ (l : List ℕ). s.text ++ l) (append-nil part)
    where
      front : take size after ≡ s.text
      front = ap (take size) s.written ∙ take_at s.text _ size (sym s.size_is)

      whole : size + (length after - size) ≡ length after
      whole = omega (arith, within)

  steps : {part : List ℕ} {r : Result (Option Stepped) Refusal} → Steps b next e (take (length after - size) (drop size after)) part r → Steps b next e (drop (length s.text) before) part r
  steps {part} {r} lent = subst (λ (l : List ℕ). Steps b next e l part r) room lent

  module _ (part : List ℕ) (a : Answer) (lent : Steps b next e (take (length after - size) (drop size after)) part (stop_of a)) where
    -- a step that writes nothing leaves the buffer
    pub stays : put_mid size (length after - size) after part ≡ s.text ++ drop (length s.text) before
    stays = back part ∙ ap (λ (l : List ℕ). s.text ++ l) (nothing_kept a (steps lent))

    pub stops : Stops b (k + s.made) e (drop (length s.text) before) a
    stops = record { after = part; steps = subst (λ (n : ℕ). Steps b n e (drop (length s.text) before) part (stop_of a)) s.next_is (steps lent) }

    pub ends : Replays b k d before (put_mid size (length after - size) after part) (record { answer = a; next = next; length = size; dispatcher = e })
    ends = record { made = s.made; text = s.text; prints = s.prints; next = s.next_is; length_told = s.size_is; fits = s.fits; written = stays; stops = stops }

  module _ (part : List ℕ) (r : Stepped) (lent : Steps b next e (take (length after - size) (drop size after)) part (Ok (Some r))) where
    -- any other adds a line
    pub added : Accepted b next e (drop (length s.text) before) part r
    added = accepted (steps lent)

    pub more : SoFar b k d before (put_mid size (length after - size) after part) (next + 1) (size + r.length) r.dispatcher
    more = record {
      made = suc s.made;
      text = s.text ++ a.line;
      prints = subst (λ (x : Dispatcher). Prints b k d (suc s.made) x (s.text ++ a.line)) (sym a.next) all;
      next_is = omega (arith, s.next_is);
      size_is = rw (length-append s.text a.line) (omega (arith, s.size_is, a.told));
      written = back part ∙ ap (λ (l : List ℕ). s.text ++ l) (a.bytes ∙ ap (λ (l : List ℕ). a.line ++ l) after_both) ∙ sym (append_assoc s.text a.line _);
      fits = rw (length-append s.text a.line) (omega (arith, s.fits, line_fits));
    }
      where
        a : Accepted b next e (drop (length s.text) before) part r
        a = added

        last : Prints b next e 1 a.outcome.dispatcher a.line
        last = (a.outcome, a.line, [], a.line_at, sym (append-nil a.line), (refl, refl))

        all : Prints b k d (suc s.made) a.outcome.dispatcher (s.text ++ a.line)
        all =
            subst (λ (n : ℕ). Prints b k d n a.outcome.dispatcher (s.text ++ a.line)) (add-one s.made)
            (prints_join b k d s.made 1 e a.outcome.dispatcher s.text a.line s.prints (subst (λ (n : ℕ). Prints b n e 1 a.outcome.dispatcher a.line) s.next_is last))

        line_fits : length a.line ≤ length before - length s.text
        line_fits = rw (← length-drop (length s.text) before) a.fits

        after_both : drop (length a.line) (drop (length s.text) before) ≡ drop (length (s.text ++ a.line)) before
        after_both = drop-drop (length a.line) (length s.text) before ∙ ap (λ (n : ℕ). drop n before) (sym (length-append s.text a.line))

    -- a line takes room
    pub longer : (size + r.length ≤ length before) × (1 ≤ r.length)
    longer = let some = line_some (line_of next added.line_at.call added.outcome) (take added.outcome.dispatcher.cores added.outcome.dispatcher.seats) in
        (omega (arith, more.fits, more.size_is), omega (arith, added.told, rw (← added.line_at.text) at some))
