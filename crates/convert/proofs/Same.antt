-- A line gives one line.
use Prim.Native.Nat.{ℕ}
use mathlib.Core.Path.{◌≡◌, sym, ◌∙◌, ap, subst}
use mathlib.Core.List.{List, [], ◌∷◌, ◌++◌}
use Rattle.std.specs.Prelude.{Ok, Err}
use Rattle.texts.specs.Joined.{newline}
use Rattle.cpusets.specs.Answers.{Reading}
use Rattle.cpulists.specs.List.{ListOf}
use Rattle.cpulists.specs.Promise.{ReadsList}
use Rattle.cpulists.proofs.Runs.{list_text_same}
use Rattle.cpulists.proofs.Same.{list_reads_same}
use Rattle.cpumasks.specs.Mask.{words_of, MaskOf}
use Rattle.cpumasks.specs.Promise.{ReadsMask}
use Rattle.cpumasks.proofs.Same.{text_same, mask_reads_same}
use Rattle.convert.specs.Turn.{Says, Turns}

-- where reading has one result and a set has one text
module _ {Reads : Reading → Type 0} {TextOut : ℕ → List ℕ → Type 0} (one-reading : (r q : Reading) → Reads r → Reads q → r ≡ q) (one-text : (s : ℕ) (t u : List ℕ) → TextOut s t → TextOut s u → t ≡ u) where
  says_same : (r : Reading) (x y : List ℕ) → Says TextOut r x → Says TextOut r y → x ≡ y
  says_same (Ok s) x y a b = a.ended ∙ ap (λ (t : List ℕ). t ++ (newline ∷ [])) (one-text s a.text b.text a.is b.is) ∙ sym b.ended
  says_same (Err fault) x y a b = a ∙ sym b

  pub turns_same : (x y : List ℕ) → Turns Reads TextOut x → Turns Reads TextOut y → x ≡ y
  turns_same x y a b = says_same a.reading x y a.says (subst (λ (r : Reading). Says TextOut r y) (one-reading b.reading a.reading b.reads a.reads) b.says)

pub list_turns_same : (n : ℕ) (t x y : List ℕ) → Turns (ReadsList n t) (MaskOf (words_of n)) x → Turns (ReadsList n t) (MaskOf (words_of n)) y → x ≡ y
list_turns_same n t = turns_same (list_reads_same n t) (λ s t u. text_same)

pub mask_turns_same : (n : ℕ) (t x y : List ℕ) → Turns (ReadsMask n t) ListOf x → Turns (ReadsMask n t) ListOf y → x ≡ y
mask_turns_same n t = turns_same (mask_reads_same n t) list_text_same
