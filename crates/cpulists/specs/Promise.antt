-- What the reader and the writer of List texts promise, n being how many cores there may be.
use Rattle.std.specs.Prelude.{ℕ, List}
use Rattle.cpusets.specs.Reading.{Reads}
use Rattle.cpusets.specs.Writing.{Writes}
use Rattle.cpusets.specs.Answers.{Reading, Written}
use Rattle.cpulists.specs.List.{MeansList, ListOf}
use Rattle.cpulists.specs.Faults.{list_faults}

abbrev pub ReadsList : ℕ → List ℕ → Reading → Type 0
ReadsList n t r = Reads (list_faults n t) (MeansList t) r

abbrev pub WritesList : ℕ → ℕ → List ℕ → List ℕ → Written → Type 0
WritesList n s before after r = Writes (ListOf s) n s before after r
