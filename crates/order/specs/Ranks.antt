-- One number for a priority and a place in the wake order: the lower, the earlier a task comes.
use Rattle.std.specs.Prelude.{ℕ, ◌+◌, ◌-◌, ◌*◌}
use Rattle.dispatcher.specs.Limits.{slot_limit, greatest_priority}

abbrev pub rank_by : ℕ → ℕ → ℕ
rank_by p k = (greatest_priority - p) * slot_limit + k
