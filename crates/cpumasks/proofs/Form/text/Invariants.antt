-- The places passed are written.
use Rattle.std.proofs.Common.{◌≡◌, ℕ, ◌<◌, length}
use Rattle.cpusets.specs.Characters.{character}
use Rattle.cpumasks.specs.Progress.{IsWritten}
use Rattle.cpumasks.proofs.Form.text.Given as goal

abbrev pub invariant-loop-place : goal.invariant-loop-place
invariant-loop-place l = record {
  whole : length l.text.items ≡ l.place;
  each : (o : ℕ) → o < l.place → IsWritten l.self.words l.set o (character l.text.items o);
}
