-- What the reader and the writer of Mask texts promise, n being how many cores there may be.
use Rattle.std.specs.Prelude.{ℕ, List}
use Rattle.cpusets.specs.Answers.{Reading, Written}
use Rattle.cpusets.specs.Reading.{Reads}
use Rattle.cpusets.specs.Writing.{Writes}
use Rattle.cpumasks.specs.Mask.{words_of, MeansMask, MaskOf}
use Rattle.cpumasks.specs.Faults.{mask_faults}

abbrev pub ReadsMask : ℕ → List ℕ → Reading → Type 0
ReadsMask n t r = Reads (mask_faults n (words_of n) t) (MeansMask (words_of n) t) r

abbrev pub WritesMask : ℕ → ℕ → List ℕ → List ℕ → Written → Type 0
WritesMask n s before after r = Writes (MaskOf (words_of n) s) n s before after r
