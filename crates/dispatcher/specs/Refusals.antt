-- Document 01, "Refusal numbers": for each number the cause for which it is given. Those of an unsound dispatcher are in Unsound.
use Rattle.std.specs.Prelude.{ℕ, ◌≤◌, ◌≡◌}
use Rattle.masks.specs.Masks.{NamesMissing}
use Rattle.dispatcher.specs.Limits.{slot_limit, LegalCount}
use Rattle.dispatcher.specs.Slots.{task_at, Empty, Used, Ready}
use Rattle.dispatcher.specs.declared.Dispatcher.{Dispatcher}

-- 2: core count not 1 to 32
abbrev pub IsBadCount : ℕ → Type 0
IsBadCount n = LegalCount n → ⊥

-- 3: slot above 127
abbrev pub IsAbove : ℕ → Type 0
IsAbove slot = slot_limit ≤ slot

-- 4: slot in use
abbrev pub IsInUse : Dispatcher → ℕ → Type 0
IsInUse d slot = Used (task_at d slot)

-- 5: slot empty
abbrev pub IsEmpty : Dispatcher → ℕ → Type 0
IsEmpty d slot = Empty (task_at d slot)

-- 6: priority 0
abbrev pub IsPriorityZero : ℕ → Type 0
IsPriorityZero priority = priority ≡ 0

-- 7: mask empty
abbrev pub IsMaskEmpty : ℕ → Type 0
IsMaskEmpty mask = mask ≡ 0

-- 8: mask names a missing core
abbrev pub IsMissingCore : Dispatcher → ℕ → Type 0
IsMissingCore d mask = NamesMissing d.cores mask

-- 9: already ready
abbrev pub IsAlreadyReady : Dispatcher → ℕ → Type 0
IsAlreadyReady d slot = Ready d slot

-- 10: not ready
abbrev pub IsNotReady : Dispatcher → ℕ → Type 0
IsNotReady d slot = Ready d slot → ⊥
