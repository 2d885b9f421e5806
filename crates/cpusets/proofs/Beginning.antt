-- What begins a text of a format: so does each beginning of it; a text of the format has no character or end that is unexpected; and which fault is the first.
use Prim.Native.Nat.{ℕ, ◌+◌, ◌≤◌, ◌<◌}
use mathlib.Core.Path.{◌≡◌}
use mathlib.Core.Logic.{◌⊎◌, inl, inr}
use mathlib.Core.List.{List, ◌++◌, append_assoc}
use native.Mathlib.Decide.{ℕ_discrete, dec_lt}
use native.Mathlib.Omega.{arith}
use lib.ListN.{length, take, drop, take-append-drop}
use lib.Seq.{take-take}
use Rattle.laws.specs.Answering.{Refusal, Applies}
use Rattle.cpusets.specs.Faults.{Begins, IsUnexpected, FirstFault}

pub begins_front : {F : List ℕ → Type 0} (p q : List ℕ) → Begins F (p ++ q) → Begins F p
begins_front p q b = record { rest = q ++ b.rest; whole = rw (← append_assoc p q b.rest) b.whole }

pub begins_part : {F : List ℕ → Type 0} (j k : ℕ) (t : List ℕ) → j ≤ k → Begins F (take k t) → Begins F (take j t)
begins_part {F} j k t l b = rw (take-take j k t l) at (begins_front {F = F} (take j (take k t)) (drop j (take k t)) (rw (take-append-drop j (take k t)) b))

pub begins_whole : {F : List ℕ → Type 0} (j : ℕ) (t : List ℕ) → F t → Begins F (take j t)
begins_whole j t f = record { rest = drop j t; whole = rw (take-append-drop j t) f }

pub none_unexpected : {F : List ℕ → Type 0} {t : List ℕ} {o : ℕ} → F t → IsUnexpected F t o → ⊥
none_unexpected {F} {t} {o} f u = go u.here
  where
    go : ((o < length t) × (Begins F (take (o + 1) t) → ⊥)) ⊎ ((o ≡ length t) × (F t → ⊥)) → ⊥
    go (inl h) = h.1 (begins_whole (o + 1) t f)
    go (inr h) = h.1 f

-- nothing is unexpected before a place up to which the text can begin so
pub expected : {F : List ℕ → Type 0} {t : List ℕ} (at : ℕ) {o : ℕ} → at ≤ length t → Begins F (take at t) → IsUnexpected F t o → at ≤ o
expected {F} {t} at {o} l b u = go u.here (dec_lt o at)
  where
    go : ((o < length t) × (Begins F (take (o + 1) t) → ⊥)) ⊎ ((o ≡ length t) × (F t → ⊥)) → Dec (o < at) → at ≤ o
    go h (no n) = omega arith
    go (inl h) (yes k) = absurd (h.1 (begins_part (o + 1) at t (omega arith) b))
    go (inr h) (yes k) = omega (arith, h.0)

-- of all faults the one met first, where none stands before it and none of another number beside it
pub first_fault : {faults : ℕ → List Refusal} {n o : ℕ} → Applies (faults o) n → ((m p : ℕ) → Applies (faults p) m → o ≤ p) → ((m : ℕ) → Applies (faults o) m → n ≡ m) → FirstFault faults n o
first_fault {faults} {n} {o} h least only = record { there = h; first = λ m p a. go m p a (least m p a) (ℕ_discrete o p) }
  where
    go : (m p : ℕ) → Applies (faults p) m → o ≤ p → Dec (o ≡ p) → (o < p) ⊎ ((o ≡ p) × (n ≡ m))
    go m p a l (yes e) = inr (e, only m (rw e a))
    go m p a l (no e) = inl (omega arith)
