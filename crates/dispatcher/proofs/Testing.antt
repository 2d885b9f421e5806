-- Tests that compute whether a core count is legal, a slot used, a slot ready.
use Prim.Native.Nat.{ℕ}
use mathlib.Core.Path.{◌≡◌, sym, ap, ◌∙◌}
use mathlib.Core.Bool.{Bool, not, ◌&&◌, not-not}
use lib.Dec.{eqb, ltb, leb}
use Rattle.laws.specs.Decides.{Decides}
use Rattle.laws.specs.Counting.{any_below}
use Rattle.laws.proofs.Deciding.{decides_same, decides_by, decides_not, decides_and, decides_eq, decides_lt, decides_le, decides_any}
use Rattle.dispatcher.specs.Limits.{core_limit, slot_limit, LegalCount}
use Rattle.dispatcher.specs.Slots.{order_at, Empty, Used, Ready}
use Rattle.dispatcher.specs.declared.Task.{Task}
use Rattle.dispatcher.specs.declared.Dispatcher.{Dispatcher}

abbrev pub count_test : ℕ → Bool
count_test n = leb 1 n && leb n core_limit

pub count_decides : (n : ℕ) → Decides (LegalCount n) (count_test n)
count_decides n = decides_and (decides_le 1 n) (decides_le n core_limit)

abbrev pub empty_test : Task → Bool
empty_test t = eqb t.priority 0 && eqb t.mask 0

pub empty_decides : (t : Task) → Decides (Empty t) (empty_test t)
empty_decides t = decides_and (decides_eq t.priority 0) (decides_eq t.mask 0)

pub used_decides : (t : Task) → Decides (Used t) (not (empty_test t))
used_decides t = decides_not (empty_decides t)

abbrev pub ready_test : Dispatcher → ℕ → Bool
ready_test d s = ltb s slot_limit && any_below (λ k. eqb (order_at d k) s) slot_limit

pub ready_decides : (d : Dispatcher) (s : ℕ) → Decides (Ready d s) (ready_test d s)
ready_decides d s = decides_by
    (λ h. record { slot = h.0; place = h.1.0; within = h.1.1; stands = h.1.2 })
    (λ h. (h.slot, (h.place, h.within, h.stands)))
    (decides_and (decides_lt s slot_limit) (decides_any slot_limit (λ k l. decides_eq (order_at d k) s)))

-- what a test of use says of the test of emptiness
pub empty_is : {t : Task} {b e : Bool} → Decides (Used t) b → not b ≡ e → empty_test t ≡ e
empty_is {t} {b} d q = sym (not-not (empty_test t)) ∙ ap not (decides_same (used_decides t) d) ∙ q
