-- Which call of a file stands where.
use Prim.Native.Nat.{ℕ, ◌+◌, ◌<◌}
use mathlib.Core.Path.{◌≡◌, sym, ap, ◌∙◌}
use mathlib.Core.List.{List}
use native.Mathlib.Omega.{arith}
use Rattle.files.specs.Layout.{record_count_of, count_place, event_count}
use Rattle.files.specs.Day.{Bytes}
use Rattle.calls.specs.Call.{Call, create, delete, load, wake, block}
use Rattle.days.specs.Calls.{CallAt}

-- the counts of a file of bytes are small, and so is the place of a call
counts_small : (b : List ℕ) → Bytes b → (record_count_of b < 256) × (event_count b < 65536)
counts_small b h =
    let low = h (count_place b) in
    let high = h (count_place b + 1) in
    (h 1, omega (arith, low, high))

pub call_small : (b : List ℕ) (k : ℕ) (c : Call) → Bytes b → CallAt b k c → k < 65791
call_small b k (create _ _ _) h a = let s = counts_small b h in omega (arith, s.0, a.0.counted)
call_small b k (wake _) h a = let s = counts_small b h in omega (arith, s.0, s.1, a.0, a.1.0.counted)
call_small b k (block _) h a = let s = counts_small b h in omega (arith, s.0, s.1, a.0, a.1.0.counted)
call_small b k (delete _) h a = let s = counts_small b h in omega (arith, s.0, s.1, a.0, a.1.0.counted)
call_small b k (load _) h a = absurd a

-- a place of a file has one call
pub call_same : (b : List ℕ) (k : ℕ) (c e : Call) → CallAt b k c → CallAt b k e → c ≡ e
call_same b k (create s p m) (create t q n) x y = λ i. create ((x.1 ∙ sym y.1) i) ((x.2 ∙ sym y.2) i) ((x.3 ∙ sym y.3) i)
call_same b k (create s p m) (wake t) x y = absurd (omega (arith, x.0.counted, y.0))
call_same b k (create s p m) (block t) x y = absurd (omega (arith, x.0.counted, y.0))
call_same b k (create s p m) (delete t) x y = absurd (omega (arith, x.0.counted, y.0))
call_same b k (create s p m) (load l) x y = absurd y
call_same b k (wake s) (create t q n) x y = absurd (omega (arith, y.0.counted, x.0))
call_same b k (wake s) (wake t) x y = ap wake (x.1.2 ∙ sym y.1.2)
call_same b k (wake s) (block t) x y = absurd (omega (arith, x.1.1, y.1.1))
call_same b k (wake s) (delete t) x y = absurd (omega (arith, x.1.1, y.1.1))
call_same b k (wake s) (load l) x y = absurd y
call_same b k (block s) (create t q n) x y = absurd (omega (arith, y.0.counted, x.0))
call_same b k (block s) (wake t) x y = absurd (omega (arith, x.1.1, y.1.1))
call_same b k (block s) (block t) x y = ap block (x.1.2 ∙ sym y.1.2)
call_same b k (block s) (delete t) x y = absurd (omega (arith, x.1.1, y.1.1))
call_same b k (block s) (load l) x y = absurd y
call_same b k (delete s) (create t q n) x y = absurd (omega (arith, y.0.counted, x.0))
call_same b k (delete s) (wake t) x y = absurd (omega (arith, x.1.1, y.1.1))
call_same b k (delete s) (block t) x y = absurd (omega (arith, x.1.1, y.1.1))
call_same b k (delete s) (delete t) x y = ap delete (x.1.2 ∙ sym y.1.2)
call_same b k (delete s) (load l) x y = absurd y
call_same b k (load l) (create t q n) x y = absurd x
call_same b k (load l) (wake t) x y = absurd x
call_same b k (load l) (block t) x y = absurd x
call_same b k (load l) (delete t) x y = absurd x
call_same b k (load l) (load m) x y = absurd x
