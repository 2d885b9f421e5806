-- What the soundness check, the file reader and the line writer say, in plain numbers.
use Rattle.std.specs.Prelude.{ℕ, ◌≡◌, true, false, Option, Some, None, Result, Ok, Err}
use Rattle.dispatcher.specs.Answers.{Answer, refusal_number, refusal_place, number_of, place_of}
use Rattle.dispatcher.specs.declared.Refusal.{Refusal}
use Rattle.dispatcher.specs.declared.TaskRecord.{TaskRecord}
use Rattle.files.specs.declared.Layout.{Layout}
use Rattle.files.specs.declared.Fault.{Fault}
use Rattle.files.specs.declared.FileEvent.{FileEvent}
use Rattle.makxirund.specs.declared.PlainAnswer.{PlainAnswer}
use Rattle.makxirund.specs.declared.PlainLayout.{PlainLayout}
use Rattle.makxirund.specs.declared.PlainRecord.{PlainRecord}
use Rattle.makxirund.specs.declared.PlainEvent.{PlainEvent}
use Rattle.makxirund.specs.declared.PlainWritten.{PlainWritten}

abbrev pub plain_answer : Answer → PlainAnswer
plain_answer a = record { number = number_of a; place = place_of a }

abbrev pub plain_refusal : Refusal → PlainAnswer
plain_refusal r = record { number = refusal_number r; place = refusal_place r }

-- a refused file has no layout to tell, and a layout no offset
abbrev pub plain_reading : Result Layout Fault → PlainLayout
plain_reading (Ok l) = record { number = 0; cores = l.cores; records = l.records; events = l.events; offset = 0 }
plain_reading (Err f) = record { number = refusal_number f.refusal; cores = 0; records = 0; events = 0; offset = f.offset }

abbrev pub plain_record : Option TaskRecord → PlainRecord
plain_record (Some t) = record { found = true; slot = t.slot; priority = t.priority; mask = t.mask }
plain_record None = record { found = false; slot = 0; priority = 0; mask = 0 }

abbrev pub plain_event : Option FileEvent → PlainEvent
plain_event (Some e) = record { found = true; kind = e.kind; slot = e.slot }
plain_event None = record { found = false; kind = 0; slot = 0 }

-- the length of what was written; where it was refused, the refusal in plain numbers, and length 0
abbrev pub written_length : ℕ → PlainWritten
written_length n = record { number = 0; place = 0; length = n }

abbrev pub written_nothing : PlainAnswer → PlainWritten
written_nothing a = record { number = a.number; place = a.place; length = 0 }

-- the same where a conversion of the refusal is given by the plain answers that it may make
abbrev pub WrittenBy : {R : Type 0} → (R → PlainAnswer → Type 0) → Result ℕ R → PlainWritten → Type 0
WrittenBy Gives (Ok n) w = w ≡ written_length n
WrittenBy Gives (Err r) w = (a : PlainAnswer) × Gives r a × (w ≡ written_nothing a)

abbrev pub plain_written_of : Result ℕ Refusal → PlainWritten
plain_written_of (Ok n) = written_length n
plain_written_of (Err r) = written_nothing (plain_refusal r)

-- r is in plain numbers what a promise allows
pub record InPlain {A B : Type 0} (Promise : A → Type 0) (plain : A → B) (r : B) : Type 0 where
  pub said : A
  pub promised : Promise said
  pub told : r ≡ plain said
