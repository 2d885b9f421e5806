-- A list of runs written one after the other: those of the cores passed are written, and no core has taken more than three characters.
use Prim.Native.Nat.{ℕ, zero, suc, ◌+◌, ◌-◌, ◌*◌, ◌/◌, ◌%◌, ◌^◌, ◌≤◌, ◌<◌}
use mathlib.Core.Path.{◌≡◌, refl, sym, ap, ◌∙◌}
use mathlib.Core.Logic.{◌⊎◌, ◌≢◌, inl, inr}
use mathlib.Core.Bool.{Bool, true, false, not, ◌&&◌}
use mathlib.Core.List.{List, [], ◌∷◌, ◌++◌, map, append_assoc, append-nil}
use native.Mathlib.Decide.{ℕ_discrete, dec_lt}
use native.Mathlib.Omega.{arith}
use mir.Syntax.{w64}
use lib.Bits.{bit_and}
use lib.Dec.{eqb}
use lib.ListN.{length, length-append}
use Rattle.std.proofs.lemmas.Nat.{and_le_l}
use Rattle.std.proofs.lemmas.Nat.Bits.{bit_at_not}
use Rattle.laws.specs.Lists.{Any}
use Rattle.laws.proofs.Deciding.{clash, cases}
use Rattle.laws.proofs.Testing.{and_both, both_and, not_true, not_false}
use Rattle.laws.proofs.Lists.{any_append, any_left, any_right}
use Rattle.masks.specs.Masks.{has}
use Rattle.masks.proofs.Bits.{has_beyond, has_zero}
use Rattle.masks.proofs.Operators.{has_and}
use Rattle.texts.specs.Joined.{comma, each_after}
use Rattle.cpusets.specs.Limit.{set_bits}
use Rattle.cpulists.specs.List.{item_text, list_text, Run, Covers, Ascending, run_item, ListOf}
use Rattle.cpulists.specs.Progress.{LowestRun, Spans, run_text, list_room}
use Rattle.cpulists.proofs.Apart.{some_text}
use Rattle.cpulists.proofs.Written.{run_item_lem}
use Rattle.cpulists.proofs.RunText.{comma_none, comma_one, run_length}

-- ---- the text of one run more

each_end : (rs : List Run) (r : Run)
    → each_after comma (map item_text (map run_item (rs ++ (r ∷ [])))) ≡ each_after comma (map item_text (map run_item rs)) ++ (comma ∷ item_text (run_item r))
each_end [] r = rw (append-nil (item_text (run_item r)))
each_end (q ∷ rs) r = rw (each_end rs r, append_assoc)

text_end : (at : ℕ) (rs : List Run) (r : Run) → at ≡ length (list_text (map run_item rs)) → list_text (map run_item (rs ++ (r ∷ []))) ≡ list_text (map run_item rs) ++ run_text at r
text_end at [] r e = rw (comma_none at e) (append-nil (item_text (run_item r)))
text_end at (q ∷ rs) r e =
    let n : at ≢ 0 = λ z. omega (arith, some_text (run_item q) (run_item_lem q).0, length-append (item_text (run_item q)) (each_after comma (map item_text (map run_item rs)))) in
    rw (comma_one at n, each_end rs r, append_assoc)

-- ---- how far the list is written

-- the runs of some cores of a set are written; those left stand behind them, and the core between is in none
pub record Listed (s : ℕ) (text : List ℕ) (left : ℕ) : Type 0 where
  pub runs : List Run
  pub from : ℕ
  pub further : (rest : List Run) → Ascending from rest → Ascending 0 (runs ++ rest)
  pub held : (c : ℕ) → Any (Covers c) runs → has s c ≡ true
  pub covered : (c : ℕ) → has s c ≡ true → Any (Covers c) runs ⊎ (has left c ≡ true)
  pub behind : (c : ℕ) → has left c ≡ true → (has s c ≡ true) × (from ≤ c)
  pub is : text ≡ list_text (map run_item runs)
  pub short : length text ≤ 3 * from

pub listed_start : {s : ℕ} {text : List ℕ} → text ≡ [] → Listed s text s
listed_start e = record {
  runs = [];
  from = 0;
  further = λ rest a. a;
  held = λ c i. absurd i;
  covered = λ c y. inr y;
  behind = λ c y. (y, omega arith);
  is = e;
  short = omega (arith, ap length e);
}

-- a set without the cores of a word
left_out : (m w c : ℕ) → m < 2 ^ set_bits → w < 2 ^ set_bits → has (bit_and m ((2 ^ set_bits - 1) - w)) c ≡ (has m c && not (has w c))
left_out m w c a b = go (dec_lt c set_bits)
  where
    turned : (k : ℕ) → k < 2 → eqb (1 - k) 1 ≡ not (eqb k 1)
    turned zero l = refl
    turned (suc zero) l = refl
    turned (suc (suc k)) l = absurd (omega arith)

    go : Dec (c < set_bits) → has (bit_and m ((2 ^ set_bits - 1) - w)) c ≡ (has m c && not (has w c))
    go (yes l) = has_and m _ c ∙ ap (λ (t : Bool). has m c && t) (rw (bit_at_not w64 w c b l) (turned (w / 2 ^ c % 2) (omega arith)))
    go (no n) = has_and m _ c ∙ rw (has_beyond set_bits m c a (omega arith))

module _ {s left first last : ℕ} {text : List ℕ} (w : Listed s text left) (run : LowestRun left first last) where
  -- the lowest core left stands behind those written
  on : w.from ≤ first
  on = (w.behind first (run.each first (omega arith) run.forward)).1

  pub run_room : length text + length (run_text (length text) (record { first = first; last = last })) ≤ list_room
  run_room = omega (arith, w.short, on, run.within, run_length (length text) first last run.forward run.within)

  module _ {word : ℕ} (a : left < 2 ^ set_bits) (b : word < 2 ^ set_bits) (S : Spans first last word) where
    rest : ℕ
    rest = bit_and left ((2 ^ set_bits - 1) - word)

    -- a core outside the run stays
    stays : (c : ℕ) → has left c ≡ true → has word c ≡ false → has rest c ≡ true
    unfolding rest
    stays c y n = left_out left word c a b ∙ both_and y (not_false n)

    stayed : (c : ℕ) → has rest c ≡ true → (has left c ≡ true) × (has word c ≡ false)
    unfolding rest
    stayed c y = let r = and_both (has left c) (not (has word c)) (sym (left_out left word c a b) ∙ y) in (r.0, not_true r.1)

    -- it stands behind the run, and not beside it
    beyond : (c : ℕ) → has rest c ≡ true → last + 2 ≤ c
    beyond c y = go (dec_lt c first) (dec_lt last c) (ℕ_discrete c (last + 1))
      where
        go : Dec (c < first) → Dec (last < c) → Dec (c ≡ last + 1) → last + 2 ≤ c
        go (yes l) m e = clash (stayed c y).0 (run.before c l)
        go (no l) (no m) e = absurd ((S.each c).no (stayed c y).1 (omega arith, omega arith))
        go (no l) (yes m) (yes e) = clash (stayed c y).0 (rw e run.after)
        go (no l) (yes m) (no e) = omega arith

    written : Run
    written = record { first = first; last = last }

    -- one run is written, and taken out of what is left
    pub listed_more : {new : List ℕ} → new ≡ text ++ run_text (length text) (record { first = first; last = last }) → Listed s new (bit_and left ((2 ^ set_bits - 1) - word))
    unfolding written rest
    listed_more e = record {
      runs = w.runs ++ (written ∷ []);
      from = last + 2;
      further = λ rs h. rw (append_assoc w.runs (written ∷ []) rs) (w.further (written ∷ rs) (on, run.forward, h));
      held = λ c i. elim (any_append (Covers c) w.runs (written ∷ []) i) [ inl j ↦ w.held c j | inr j ↦ (w.behind c (of_run c j)).0 ];
      covered = λ c y. elim (w.covered c y) [ inl i ↦ inl (any_left (Covers c) w.runs (written ∷ []) i) | inr z ↦ left_over c z (cases (has word c)) ];
      behind = λ c y. ((w.behind c (stayed c y).0).0, beyond c y);
      is = e ∙ ap (λ (t : List ℕ). t ++ run_text (length text) written) w.is ∙ sym (text_end (length text) w.runs written (ap length w.is));
      short = omega (arith, ap length e, length-append text (run_text (length text) written), w.short, on, run_length (length text) first last run.forward run.within);
    }
      where
        of_run : (c : ℕ) → Any (Covers c) (written ∷ []) → has left c ≡ true
        of_run c (inl h) = run.each c h.0 h.1
        of_run c (inr x) = absurd x

        left_over : (c : ℕ) → has left c ≡ true → (has word c ≡ true) ⊎ (has word c ≡ false) → Any (Covers c) (w.runs ++ (written ∷ [])) ⊎ (has rest c ≡ true)
        left_over c z (inl y) = inl (any_right (Covers c) w.runs (written ∷ []) (inl ((S.each c).yes y)))
        left_over c z (inr n) = inr (stays c z n)

    pub less_left : bit_and left ((2 ^ set_bits - 1) - word) < left
    unfolding rest
    less_left = go (ℕ_discrete rest left)
      where
        go : Dec (rest ≡ left) → bit_and left ((2 ^ set_bits - 1) - word) < left
        go (no n) = omega (arith, and_le_l left ((2 ^ set_bits - 1) - word))
        go (yes e) = absurd ((S.each first).no (stayed first (rw e (run.each first (omega arith) run.forward))).1 (omega arith, run.forward))

-- nothing is left
pub listed_end : {s left : ℕ} {text : List ℕ} → left ≡ 0 → Listed s text left → ListOf s text
listed_end e w = record {
  runs = w.runs;
  ascending = rw append-nil at (w.further [] tt);
  cores = λ c. record { yes = λ y. elim (w.covered c y) [ inl i ↦ i | inr z ↦ clash (rw e at z) (has_zero c) ]; no = λ n i. clash (w.held c i) n };
  is = w.is;
}
