-- The search knows a task by its mask: a table has for each core the mask of the task on it, and 0 for an idle core.
use Rattle.std.specs.Prelude.{ℕ, Bool, List, get_or}
use Rattle.masks.specs.Masks.{has}

-- the table as a seating
unfoldable pub mask_on : List ℕ → ℕ → ℕ
mask_on masks c = get_or masks c 0

-- the task on core c may go to core d
abbrev pub leads : List ℕ → ℕ → ℕ → Bool
leads masks c d = has (get_or masks c 0) d
