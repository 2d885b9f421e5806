-- Over all calls: one result, soundness kept, and a model that computes on a sound dispatcher.
use mathlib.Core.Path.{◌≡◌}
use Rattle.dispatcher.specs.Slots.{Shaped}
use Rattle.dispatcher.specs.Sound.{Sound}
use Rattle.std.specs.Prelude.{Ok}
use Rattle.dispatcher.specs.declared.Dispatcher.{Dispatcher}
use Rattle.dispatcher.specs.declared.Outcome.{Outcome}
use Rattle.dispatcher.proofs.Unsound.{sound_answered}
use Rattle.tasks.proofs.Model.{create_of, create_creates}
use Rattle.tasks.proofs.Same.{creates_same}
use Rattle.tasks.proofs.Keeping.{create_keeps}
use Rattle.boot.proofs.Model.{load_of, load_loads}
use Rattle.boot.proofs.Same.{all_or_none_same}
use Rattle.boot.proofs.Keeping.{load_keeps}
use Rattle.readiness.proofs.Model.{wake_of, wake_wakes, block_of, block_blocks}
use Rattle.readiness.proofs.Same.{wakes_same, blocks_same}
use Rattle.readiness.proofs.Keeping.{wake_keeps, block_keeps}
use Rattle.deletion.proofs.Model.{delete_of, delete_deletes}
use Rattle.deletion.proofs.Same.{deletes_same}
use Rattle.deletion.proofs.Keeping.{delete_keeps}
use Rattle.calls.specs.Call.{Call, create, delete, load, wake, block, Does, Fits}

pub does_same : (c : Call) (d : Dispatcher) {r q : Outcome} → Does c d r → Does c d q → r ≡ q
does_same (create slot priority mask) d a b = creates_same a b
does_same (delete slot) d a b = deletes_same a b
does_same (load list) d a b = all_or_none_same a b
does_same (wake slot) d a b = wakes_same a b
does_same (block slot) d a b = blocks_same a b

pub does_keeps : (c : Call) {d : Dispatcher} (r : Outcome) → Fits c → Shaped d → Sound d → Does c d r → Shaped r.dispatcher × Sound r.dispatcher
does_keeps (create slot priority mask) r f L S h = create_keeps L S f h
does_keeps (delete slot) r f L S h = delete_keeps L S h
does_keeps (load list) r f L S h = load_keeps L S f h
does_keeps (wake slot) r f L S h = wake_keeps L S h
does_keeps (block slot) r f L S h = block_keeps L S h

abbrev pub model_of : Call → Dispatcher → Outcome
model_of (create slot priority mask) d = create_of (Ok tt) d slot priority mask
model_of (delete slot) d = delete_of (Ok tt) d slot
model_of (load list) d = load_of (Ok tt) d list
model_of (wake slot) d = wake_of (Ok tt) d slot
model_of (block slot) d = block_of (Ok tt) d slot

pub model_does : (c : Call) {d : Dispatcher} → Shaped d → Sound d → Does c d (model_of c d)
model_does (create slot priority mask) L S = create_creates (Ok tt) slot priority mask (sound_answered S)
model_does (delete slot) L S = delete_deletes (Ok tt) slot L (sound_answered S)
model_does (load list) L S = load_loads (Ok tt) list L (sound_answered S)
model_does (wake slot) L S = wake_wakes (Ok tt) slot L (sound_answered S)
model_does (block slot) L S = block_blocks (Ok tt) slot L (sound_answered S)
