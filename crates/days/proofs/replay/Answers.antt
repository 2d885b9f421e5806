-- `replay` meets its promise: the lines so far stand at the buffer's start, the next call is made from where they left off, and each line takes room.
use native.Mathlib.Omega.{arith}
use Rattle.std.proofs.Common.{Err}
use Rattle.days.proofs.Printing.{ends, more, longer}
use Rattle.days.proofs.replay.Goals as goal

pub loop-stepped-smaller : goal.loop-stepped-smaller
loop-stepped-smaller c = omega (arith, longer c.loop-stepped.invariant _ c.in-Ok-Some.stepped (rw c.in-Ok-Some.field-0-is at c.in-Ok-Some.ensures.steps))

pub loop-stepped-preserved : goal.loop-stepped-preserved
loop-stepped-preserved c = more c.loop-stepped.invariant _ c.in-Ok-Some.stepped (rw c.in-Ok-Some.field-0-is at c.in-Ok-Some.ensures.steps)

pub returns-in-Err-clause-replays : goal.returns-in-Err-clause-replays
returns-in-Err-clause-replays c = ends c.loop-stepped.invariant _ (Err c.in-Err.refusal) c.in-Err.ensures.steps
