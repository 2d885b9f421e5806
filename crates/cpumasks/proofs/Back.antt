-- There and back: what was written reads as the set, and what was read is written as one text.
use Prim.Native.Nat.{ℕ, ◌≤◌}
use mathlib.Core.Path.{◌≡◌, refl}
use mathlib.Core.Logic.{inl, inr}
use mathlib.Core.List.{List}
use lib.ListN.{length}
use Rattle.std.specs.Prelude.{Ok}
use Rattle.masks.specs.Masks.{NamesMissing}
use Rattle.cpusets.specs.Answers.{Reading, Written}
use Rattle.cpusets.specs.Characters.{character}
use Rattle.cpusets.specs.Faults.{Faultless}
use Rattle.cpusets.specs.Writing.{Stands, WritesText}
use Rattle.cpumasks.specs.Mask.{words_of, IsUpper, place_of, MeansMask, MaskOf}
use Rattle.cpumasks.specs.Faults.{mask_faults}
use Rattle.cpumasks.specs.Promise.{ReadsMask, WritesMask}
use Rattle.cpumasks.proofs.Steps.{means_faultless}
use Rattle.cpumasks.proofs.Same.{text_same, mask_reads_same}

-- the set that a text without a fault means has no core at or above the limit
pub faultless_below : {n words s : ℕ} {t : List ℕ} → Faultless (mask_faults n words t) → MeansMask words t s → NamesMissing n s → ⊥
faultless_below {words = words} f m h = f 19 (place_of words h.core) (inr (inl (refl, record { core = h.core; there = (m.cores h.core).yes h.named; at = refl; above = h.missing })))

pub mask_read_back : {n s : ℕ} (t : List ℕ) (r : Reading) → (NamesMissing n s → ⊥) → MaskOf (words_of n) s t → ReadsMask n t r → r ≡ Ok s
mask_read_back {n} {s} t r none m h = mask_reads_same n t r (Ok s) h (means_faultless none m.means, m.means)

-- writing what was read is never refused 19: it gives the one text of its set
pub mask_write_read : {n s : ℕ} {t before after : List ℕ} {r : Written} → ReadsMask n t (Ok s) → WritesMask n s before after r → WritesText (MaskOf (words_of n) s) before after r
mask_write_read h w = w.below (faultless_below h.0 h.1)

-- and a text without upper case comes back as it was
pub mask_write_back : {n s : ℕ} {t before after : List ℕ} {r : Written} → ReadsMask n t (Ok s) → ((o : ℕ) → IsUpper (character t o) → ⊥)
    → WritesMask n s before after r → length t ≤ length before → Stands t before after r
mask_write_back h low w room =
    let x = mask_write_read h w in
    let e = text_same x.is (record { means = h.1; lower = low }) in
    rw e at (x.room (rw e room))
