-- No text that we write is longer than the room that a writer takes: three characters for each core.
use Prim.Native.Nat.{ℕ, ◌+◌, ◌-◌, ◌*◌, ◌≤◌, ◌<◌}
use mathlib.Core.Logic.{inl, inr}
use mathlib.Core.List.{List, [], ◌∷◌, map}
use native.Mathlib.Omega.{arith}
use lib.ListN.{length, length-append}
use Rattle.laws.specs.Lists.{Any}
use Rattle.masks.specs.Masks.{NamesMissing}
use Rattle.texts.specs.Joined.{comma, each_after}
use Rattle.cpusets.specs.Limit.{set_bits}
use Rattle.cpulists.specs.List.{item_text, list_text, Run, Covers, Ascending, run_item, ListOf}
use Rattle.cpulists.specs.Progress.{list_room}
use Rattle.cpulists.proofs.RunText.{run_length}
use Rattle.cpulists.proofs.Written.{covered_below}

-- runs from core c on, each after its comma
runs_room : (c : ℕ) (rs : List Run) → Ascending c rs → ((k : ℕ) → Any (Covers k) rs → k < set_bits)
    → length (each_after comma (map item_text (map run_item rs))) ≤ 3 * (set_bits - c)
runs_room c [] a below = omega arith
runs_room c (r ∷ rs) a below =
    let last = below r.last (inl (a.1, omega arith)) in
    let rest = runs_room (r.last + 2) rs a.2 (λ k i. below k (inr i)) in
    omega (arith, a.0, a.1, last, rest, run_length 1 r.first r.last a.1 last, length-append (item_text (run_item r)) (each_after comma (map item_text (map run_item rs))))

pub list_room_lem : {n s : ℕ} {t : List ℕ} → n ≤ set_bits → (NamesMissing n s → ⊥) → ListOf s t → length t ≤ list_room
list_room_lem few none w = rw w.is (go w.runs w.ascending (λ k i. omega (arith, covered_below w none k i)))
  where
    go : (rs : List Run) → Ascending 0 rs → ((k : ℕ) → Any (Covers k) rs → k < set_bits) → length (list_text (map run_item rs)) ≤ list_room
    go [] a below = omega arith
    go (r ∷ rs) a below = omega (arith, runs_room 0 (r ∷ rs) a below)
