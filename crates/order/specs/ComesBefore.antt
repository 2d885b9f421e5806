-- Document 01, "Comes before": who of two ready tasks comes before the other.
use Rattle.std.specs.Prelude.{ℕ, ◌<◌, ◌≡◌, ◌⊎◌, List, eqb}
use Rattle.std.specs.List.{position_or_len}
use Rattle.dispatcher.specs.Slots.{task_at}
use Rattle.dispatcher.specs.declared.Dispatcher.{Dispatcher}

-- the place of t in a list: the first at which it stands, the list's length where it does not
abbrev pub place_in : List ℕ → ℕ → ℕ
place_in l t = position_or_len (λ a. eqb a t) l

abbrev pub priority_of : Dispatcher → ℕ → ℕ
priority_of d t = (task_at d t).priority

abbrev pub woke_at : Dispatcher → ℕ → ℕ
woke_at d t = place_in d.order t

-- of two ready tasks, the one of higher priority comes before; among equal priorities, the one that woke earlier
abbrev pub ComesBefore : Dispatcher → ℕ → ℕ → Type 0
ComesBefore d t u = (priority_of d u < priority_of d t) ⊎ ((priority_of d t ≡ priority_of d u) × (woke_at d t < woke_at d u))
