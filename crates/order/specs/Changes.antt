-- What a task that becomes ready, or is no longer ready, does to the wake order.
use Rattle.std.specs.Prelude.{ℕ, cond, List, [], ◌∷◌, ◌++◌, set, eqb}
use Rattle.dispatcher.specs.Limits.{none}
use Rattle.dispatcher.specs.declared.Dispatcher.{Dispatcher}
use Rattle.order.specs.ComesBefore.{place_in}

-- the task becomes ready, last among equals: it stands at the first unused place of the wake order
abbrev pub join_order : List ℕ → ℕ → List ℕ
join_order l t = set l (place_in l none) t

-- the task is no longer ready: the later ones move up by one place, and an unused place is left at the end
abbrev pub leave_order : List ℕ → ℕ → List ℕ
leave_order [] t = []
leave_order (a ∷ l) t = let later = a ∷ leave_order l t in cond (eqb a t) (l ++ (none ∷ [])) later

abbrev pub joined_of : Dispatcher → ℕ → Dispatcher
joined_of d slot = record { cores = d.cores; tasks = d.tasks; order = join_order d.order slot; seats = d.seats }

abbrev pub left_of : Dispatcher → ℕ → Dispatcher
left_of d slot = record { cores = d.cores; tasks = d.tasks; order = leave_order d.order slot; seats = d.seats }
