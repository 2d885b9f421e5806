-- The records of a list, one after the other: how far a load has come, and what it comes to.
use Prim.Native.Nat.{ℕ, ◌+◌, ◌<◌}
use mathlib.Core.Path.{◌≡◌, refl, sym, ap, ◌∙◌}
use mathlib.Core.Logic.{◌≢◌, inl, inr}
use Rattle.std.specs.Prelude.{Ok}
use mathlib.Core.List.{List, ◌∷◌}
use native.Mathlib.Nat.{add-zero}
use native.Mathlib.Omega.{arith}
use lib.ListN.{length, drop, length-drop}
use lib.Seq.{get_or-drop, drop-drop}
use Rattle.laws.specs.Answering.{Answers}
use Rattle.dispatcher.specs.Slots.{no_record, Shaped}
use Rattle.dispatcher.specs.Sound.{Sound}
use Rattle.dispatcher.specs.Answers.{Answer, number_of}
use Rattle.dispatcher.specs.Unsound.{unsound_refusals}
use Rattle.dispatcher.specs.Reports.{still_of}
use Rattle.dispatcher.specs.Promise.{Answered}
use Rattle.dispatcher.specs.declared.TaskRecord.{TaskRecord}
use Rattle.dispatcher.specs.declared.Dispatcher.{Dispatcher}
use Rattle.dispatcher.proofs.Unsound.{not_first, unsound_is_first, unsound_first, sound_then}
use Rattle.boot.specs.Load.{record_at, FirstRefused, list_refusals, Loads}
use Rattle.boot.specs.Loading.{Filling, Comes}
use Rattle.boot.proofs.Refusing.{entry_of, entry_record, Accepted, accepted_next, record_later, list_later, refused_answers, accepted_answers}
use Rattle.boot.proofs.Filling.{with_record, filling_created, filling_none, filling_alike, filling_next}

-- e is what the first k records have made of d, and none of them was refused
pub record Goes (d : Dispatcher) (list : List TaskRecord) (k : ℕ) (e : Dispatcher) : Type 0 where
  pub sound : Sound d
  pub before : Accepted d list k
  pub filling : Filling d list k e

pub goes_none : {d : Dispatcher} (list : List TaskRecord) → Sound d → Goes d list 0 d
goes_none {d} list S = record { sound = S; before = λ j l. absurd (omega arith); filling = filling_none d list }

module _ {d e : Dispatcher} {list : List TaskRecord} {k : ℕ} (g : Goes d list k e) where
  -- the next record is refused, or it is created
  pub goes_next : Shaped d → Answers (entry_of e (record_at list k)) 0 → Goes d list (k + 1) (with_record e (record_at list k))
  goes_next L a =
      let accepted = entry_record (filling_alike g.filling g.before) a in
      record { sound = g.sound; before = accepted_next d list k g.before accepted; filling = filling_next L g.filling accepted }

  pub goes_refused : {n : ℕ} → k < length list → Answers (entry_of e (record_at list k)) n → n ≢ 0 → FirstRefused d list k n
  goes_refused l a z = record { within = l; number = entry_record (filling_alike g.filling g.before) a; refused = z; earlier = g.before }

-- ---- what the list comes to

module _ {d : Dispatcher} {list : List TaskRecord} {e : Dispatcher} where
  pub comes_unsound : (a : Answer) → Answered (unsound_refusals d) d a → number_of a ≢ 0 → Comes d list a 0 e
  comes_unsound a u z = record {
    answer = unsound_first (list_refusals d list) (list_later d list) u z;
    names = record { whole = λ _. refl; record_number = λ n out. absurd (out (unsound_is_first d u.answer n)) };
    filled = λ y. absurd (z y);
  }

  pub comes_refused : (a : Answer) {i : ℕ} → Sound d → FirstRefused d list i (number_of a) → Comes d list a i e
  comes_refused a S f = record {
    answer = sound_then (list_refusals d list) (list_later d list) S (refused_answers f);
    names = record { whole = λ h. elim h [ inl z ↦ absurd (f.refused z) | inr first ↦ absurd (not_first _ (record_later f) first) ]; record_number = λ _ _. f };
    filled = λ z. absurd (f.refused z);
  }

  pub comes_done : Goes d list (length list) e → Comes d list (Ok tt) 0 e
  comes_done g = record {
    answer = sound_then (list_refusals d list) (list_later d list) g.sound (accepted_answers g.before);
    names = record { whole = λ _. refl; record_number = λ n _. absurd (n refl) };
    filled = λ _. g.filling;
  }

-- all the records stay, or none
pub comes_loads : {d e f : Dispatcher} {list : List TaskRecord} {index : ℕ} (a : Answer) → Comes d list a index e → (number_of a ≡ 0 → f ≡ e) → (number_of a ≢ 0 → f ≡ d)
    → Loads d list (record { report = record { report = still_of a; index = index }; dispatcher = f })
comes_loads a c done kept = record {
  all_or_none = record {
    answer = c.answer.answer;
    place = c.answer.place;
    done = λ z. filling_created (rw (done z) (c.filled z)) refl;
    kept = kept;
    still = λ _. refl;
  };
  names = c.names;
}

-- ---- the records that are left

module _ (list : List TaskRecord) {t : TaskRecord} (ts : List TaskRecord) (i : ℕ) (left : drop i list ≡ t ∷ ts) where
  pub left_below : i < length list
  left_below = omega (arith, length-drop i list, ap length left)

  pub left_here : record_at list i ≡ t
  left_here = rw (← add-zero i, ← get_or-drop i list 0 no_record, left) refl

  pub left_later : drop (i + 1) list ≡ ts
  left_later = sym (drop-drop 1 i list) ∙ ap (drop 1) left
