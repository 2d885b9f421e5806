-- Whatever number of lines of a day has been printed, engine and dispatcher agree: no day makes `bench` say `differ`.
use Prim.Native.Nat.{ℕ}
use mathlib.Core.Path.{◌≡◌}
use mathlib.Core.List.{List}
use Rattle.std.specs.Prelude.{Option, None, Result, Ok}
use Rattle.dispatcher.specs.Fresh.{Freshly}
use Rattle.dispatcher.specs.declared.Refusal.{Refusal}
use Rattle.dispatcher.specs.declared.Dispatcher.{Dispatcher}
use Rattle.dispatcher.specs.declared.Outcome.{Outcome}
use Rattle.engine.specs.Difference.{Compares}
use Rattle.engine.proofs.Agreement.{never_differs}
use Rattle.files.specs.Day.{Bytes}
use Rattle.days.specs.Replay.{Prints}
use Rattle.days.proofs.Days.{prints_after}

pub day_agrees : (n : ℕ) (b : List ℕ) → Bytes b → (r : Outcome) → Freshly n r → (m : ℕ) (e : Dispatcher) (t : List ℕ) → Prints b 0 r.dispatcher m e t
    → (c : Result (Option ℕ) Refusal) → Compares e c → c ≡ Ok None
day_agrees n b bytes r f m e t p c h = let q = prints_after n b bytes r f m e t p in never_differs n q.0 e c q.1 h
