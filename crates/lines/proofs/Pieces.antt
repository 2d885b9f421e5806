-- The last of texts that stand each after a character.
use Prim.Native.Nat.{ℕ}
use mathlib.Core.List.{List, [], ◌∷◌, append-nil}
use Rattle.texts.specs.Put.{Puts}
use Rattle.texts.specs.Joined.{each_after}

pub puts_last : {c at r : ℕ} {t x y : List ℕ} → Puts (c ∷ t) at x y r → Puts (each_after c (t ∷ [])) at x y r
puts_last {t = t} p = rw (append-nil t) p
