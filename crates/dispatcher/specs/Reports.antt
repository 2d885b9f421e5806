-- A report in which nobody moved, started or stopped; and a report in plain numbers.
use Rattle.dispatcher.specs.Limits.{none}
use Rattle.dispatcher.specs.Answers.{Answer, number_of, place_of}
use Rattle.dispatcher.specs.declared.Report.{Report}
use Rattle.dispatcher.specs.declared.PlainReport.{PlainReport}

abbrev pub still_of : Answer → Report
still_of a = record { answer = a; moves = 0; started = none; stopped = none }

abbrev pub plain_of : Report → PlainReport
plain_of r = record { number = number_of r.answer; moves = r.moves; started = r.started; stopped = r.stopped; place = place_of r.answer }
