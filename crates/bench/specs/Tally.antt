-- How the lines of a day are counted.
use Rattle.std.specs.Prelude.{ℕ, ◌+◌, Option, Some, None}
use Rattle.std.specs.Option.{option_or}
use Rattle.bench.specs.declared.Tally.{Tally}

-- one more line, by its number and the lowest slot that differs there, if one does: if it agrees it is counted, and if it is the first that does not, its number and slot
-- are noted
abbrev pub counted_of : Tally → ℕ → Option ℕ → Tally
counted_of t line None = record { agree = t.agree + 1; first = t.first }
counted_of t line (Some slot) = record { agree = t.agree; first = option_or t.first (Some (record { line = line; slot = slot })) }
