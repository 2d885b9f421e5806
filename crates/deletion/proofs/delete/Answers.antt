-- `deletion::delete` meets its promise: the block has been made, and the slot is emptied where it is done or answers 10.
use Rattle.deletion.proofs.Ending.{reported_below, reported_deletes}
use Rattle.deletion.proofs.delete.Goals as goal

pub written-requires : goal.written-requires
written-requires c = reported_below c.block-blocked.ensures c.reported-report.ensures.not_ready c.reported-report.ensures.other

pub returns : goal.returns
returns c = reported_deletes c.block-blocked.ensures c.reported-report.ensures.not_ready c.reported-report.ensures.other c.written.ensures
