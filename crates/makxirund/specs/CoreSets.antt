-- What the writers of core sets say, in plain numbers: their refusals know of no dispatcher, and so of no place in one.
use Rattle.std.specs.Prelude.{Ok, Err}
use Rattle.cpusets.specs.Answers.{number_of, Written}
use Rattle.cpusets.specs.declared.Refusal.{Refusal}
use Rattle.makxirund.specs.declared.PlainAnswer.{PlainAnswer}
use Rattle.makxirund.specs.declared.PlainWritten.{PlainWritten}
use Rattle.makxirund.specs.Plain.{written_length, written_nothing}

abbrev pub plain_core_refusal : Refusal → PlainAnswer
plain_core_refusal r = record { number = number_of r; place = 0 }

abbrev pub plain_text_of : Written → PlainWritten
plain_text_of (Ok n) = written_length n
plain_text_of (Err r) = written_nothing (plain_core_refusal r)
