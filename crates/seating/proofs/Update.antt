-- A function changed at one place.
use Prim.Native.Nat.{ℕ}
use mathlib.Core.Path.{◌≡◌, refl}
use mathlib.Core.Logic.{◌≢◌}
use mathlib.Core.Bool.{cond}
use lib.Dec.{eqb}
use Rattle.laws.proofs.Testing.{eqb_true, eqb_false}

pub upd : (ℕ → ℕ) → ℕ → ℕ → ℕ → ℕ
upd s c x d = cond (eqb d c) x (s d)

pub upd_same : (s : ℕ → ℕ) (c x : ℕ) → upd s c x c ≡ x
unfolding upd
upd_same s c x = rw (eqb_true (refl {a = c}))

pub upd_other : (s : ℕ → ℕ) (c x : ℕ) {d : ℕ} → d ≢ c → upd s c x d ≡ s d
unfolding upd
upd_other s c x {d} h = rw (eqb_false h)
