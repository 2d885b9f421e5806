-- Request 2: what a reader answers.
use Rattle.std.specs.Prelude.{ℕ, List, Ok, Err}
use Rattle.laws.specs.Answering.{Refusal}
use Rattle.cpusets.specs.Answers.{number_of, Reading}
use Rattle.cpusets.specs.Faults.{FirstFault, Faultless}
use Rattle.cpusets.specs.declared.PlainReading.{PlainReading}

-- a text without a fault gives the set that it means, any other its first fault
abbrev pub Reads : (ℕ → List Refusal) → (ℕ → Type 0) → Reading → Type 0
Reads faults Means (Ok set) = Faultless faults × Means set
Reads faults Means (Err fault) = FirstFault faults (number_of fault.refusal) fault.offset

-- "A refused read returns the empty set"; an accepted one 0 for the number and 0 for the offset
abbrev pub plain_of : Reading → PlainReading
plain_of (Ok set) = record { number = 0; offset = 0; set = set }
plain_of (Err fault) = record { number = number_of fault.refusal; offset = fault.offset; set = 0 }
