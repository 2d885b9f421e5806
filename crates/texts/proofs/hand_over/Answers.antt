-- `hand_over` meets its promise: where there is room the text is put at the buffer's start.
use Rattle.std.proofs.Common.{rules}
use Rattle.texts.specs.Put.{put_at}
use Rattle.texts.proofs.hand_over.Goals as goal

pub returns : goal.returns
unfolding put_at
returns c = search rules
