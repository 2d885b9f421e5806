-- Request 2: what readers and writers answer, and the numbers of their refusals.
use Rattle.std.specs.Prelude.{ℕ, Result}
use Rattle.cpusets.specs.declared.Fault.{Fault}
use Rattle.cpusets.specs.declared.Refusal.{Refusal}
use Rattle.cpusets.specs.declared.Refusal.TheVariants.{Unexpected, Backward, AboveLimit, OutputShort}

abbrev pub number_of : Refusal → ℕ
number_of Unexpected = 17
number_of Backward = 18
number_of AboveLimit = 19
number_of OutputShort = 20

-- the set that a text means, or why it means none
abbrev pub Reading : Type 0
Reading = Result ℕ Fault

-- the length of the text that was written, or why none was
abbrev pub Written : Type 0
Written = Result ℕ Refusal
