-- The ends of writing a text: refused, or handed over.
use Prim.Native.Nat.{ℕ}
use mathlib.Core.Path.{refl, ap}
use mathlib.Core.List.{List}
use native.Mathlib.Omega.{arith}
use Rattle.std.specs.Prelude.{Ok, Err, Some, None}
use Rattle.laws.proofs.Deciding.{clash}
use Rattle.masks.specs.Masks.{NamesMissing}
use Rattle.texts.specs.HandOver.{HandsOver}
use Rattle.cpusets.specs.Answers.{Written}
use Rattle.cpusets.specs.Writing.{Equals, WritesText, Writes}
use Rattle.cpusets.specs.declared.Refusal.TheVariants.{AboveLimit, OutputShort}

-- there was room, or there was not
pub handed : {t before after : List ℕ} {size : ℕ} → HandsOver t before after (Some size) → WritesText (Equals t) before after (Ok size)
handed {t} h = record {
  text = t;
  is = refl;
  short = λ l. absurd (omega (arith, h.room.0 refl));
  room = λ _. record { told = ap Ok h.length_told; written = h.written };
}

pub not_handed : {t before after : List ℕ} → HandsOver t before after None → WritesText (Equals t) before after (Err OutputShort)
not_handed {t} h = record { text = t; is = refl; short = λ _. record { answer = refl; kept = h.kept }; room = λ l. clash (h.room.1 l) refl }

-- the set names a core at or above the limit
pub writes_above : {TextOf : List ℕ → Type 0} {n s : ℕ} {before : List ℕ} → NamesMissing n s → Writes TextOf n s before before (Err AboveLimit)
writes_above h = record { above = λ _. record { answer = refl; kept = refl }; below = λ k. absurd (k h) }

-- it names none, and the text that was made is handed over
pub writes_below : {TextOf : List ℕ → Type 0} {n s : ℕ} {t before after : List ℕ} {r : Written}
    → (NamesMissing n s → ⊥) → TextOf t → WritesText (Equals t) before after r → Writes TextOf n s before after r
writes_below k m w = record {
  above = λ h. absurd (k h);
  below = λ _. record { text = w.text; is = rw w.is m; short = w.short; room = w.room };
}
