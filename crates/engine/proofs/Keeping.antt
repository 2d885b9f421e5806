-- What the engine promises, refused and not; that only the seating is left open by it.
use mathlib.Core.Path.{◌≡◌, refl, sym, ap, ◌∙◌}
use mathlib.Core.List.{List, []}
use mathlib.Core.Bool.{Bool, false}
use lib.Seq.{ext_get_or}
use Rattle.std.specs.Prelude.{Result, Ok, Err, IfOk, IsOkAnd}
use Rattle.std.specs.Result.{result_map_both}
use Rattle.seating.proofs.Greedy.{greedy_same}
use Rattle.dispatcher.specs.Slots.{Shaped}
use Rattle.dispatcher.specs.Sound.{Sound}
use Rattle.dispatcher.specs.Unsound.{unsound_refusals}
use Rattle.dispatcher.specs.Promise.{Answered}
use Rattle.dispatcher.specs.declared.Refusal.{Refusal}
use Rattle.dispatcher.specs.declared.Dispatcher.{Dispatcher}
use Rattle.dispatcher.proofs.Unsound.{done_sound, sound_answered}
use Rattle.dispatcher.proofs.Same.{answered_same}
use Rattle.shifting.proofs.Board.{ranked}
use Rattle.engine.specs.declared.Kept.{Kept}
use Rattle.engine.specs.Keep.{WorkedOut, answer_in, EngineKeeps}

pub refused_keeps : {d : Dispatcher} {refusal : Refusal} → Answered (unsound_refusals d) d (Err refusal) → EngineKeeps d (Err refusal)
refused_keeps h = record { answered = h; done = tt }

pub sound_keeps : {d : Dispatcher} {kept : Kept} → Sound d → WorkedOut d kept → EngineKeeps d (Ok kept)
sound_keeps S W = record { answered = sound_answered S; done = W }

-- a sound dispatcher is not refused
pub sound_kept : {d : Dispatcher} {r : Result Kept Refusal} → Sound d → EngineKeeps d r → IsOkAnd r (WorkedOut d)
sound_kept {d} {r} S K = go r K.done (answered_same K.answered (sound_answered S))
  where
    go : (r : Result Kept Refusal) → IfOk r (WorkedOut d) → answer_in r ≡ Ok tt → IsOkAnd r (WorkedOut d)
    go (Ok kept) W e = W
    go (Err refusal) W e = cc

-- two results that the promise allows: the answer and the tasks kept are the same; the seating is free
abbrev pub tasks_in : Result Kept Refusal → Result (List Bool) Refusal
tasks_in r = result_map_both (λ k. k.tasks) (λ e. e) r

pub keep_same : {d : Dispatcher} {r q : Result Kept Refusal} → Shaped d → EngineKeeps d r → EngineKeeps d q → tasks_in r ≡ tasks_in q
keep_same {d} {r} {q} L K H = go r q K.answered H.answered K.done H.done (answered_same K.answered H.answered)
  where
    go : (r q : Result Kept Refusal) → Answered (unsound_refusals d) d (answer_in r) → Answered (unsound_refusals d) d (answer_in q) → IfOk r (WorkedOut d) → IfOk q (WorkedOut d) → answer_in r ≡ answer_in q
        → tasks_in r ≡ tasks_in q
    go (Ok k) (Ok h) A B W U e =
        ap Ok (ext_get_or false k.tasks h.tasks (W.slots ∙ sym U.slots) (λ t l. greedy_same (ranked L (done_sound d {rs = []} A.answer refl)) W.greedy U.greedy t))
    go (Ok k) (Err f) A B W U e = cc
    go (Err f) (Ok k) A B W U e = cc
    go (Err f) (Err g) A B W U e = cc
