-- A Mask text is so many words, each of eight digits, with commas between them; and every such text is one.
use Prim.Native.Nat.{ℕ, zero, suc, ◌+◌, ◌-◌, ◌<◌}
use mathlib.Core.Path.{◌≡◌, refl, sym, ap, ◌∙◌}
use mathlib.Core.List.{List, [], ◌∷◌, ◌++◌, append-nil}
use native.Mathlib.Decide.{ℕ_discrete, dec_lt}
use native.Mathlib.Omega.{arith}
use lib.ListN.{length, take, drop, length-append, length-drop, get_or-append}
use lib.Seq.{length-take-le, take_all, get_or-take, get_or-drop, get_or-append-add, split_at}
use Rattle.laws.specs.Lists.{All}
use Rattle.laws.proofs.Lists.{all_at}
use Rattle.texts.specs.Joined.{comma, joined}
use Rattle.cpusets.specs.Characters.{character}
use Rattle.cpumasks.specs.Mask.{IsHex, mask_size, IsPlaced, IsMaskText, IsWord}

each_all : (t : List ℕ) → ((o : ℕ) → o < length t → IsHex (character t o)) → All IsHex t
each_all [] h = tt
each_all (c ∷ t) h = (h 0 (omega arith), each_all t (λ o l. h (suc o) (omega arith)))

-- ---- a text as words

-- nine places on, the rest of a text stands as a text of one word less
rest_mask : {k : ℕ} {t : List ℕ} → IsMaskText (suc (suc k)) t → IsMaskText (suc k) (drop 9 t)
rest_mask {k} {t} m = record { whole = length-drop 9 t ∙ omega (arith, m.whole); each = λ o l. place o (m.each (9 + o) (omega arith)) }
  where
    place : (o : ℕ) → IsPlaced t (9 + o) → IsPlaced (drop 9 t) o
    place o p = record {
      comma_there = λ e. get_or-drop 9 t o 0 ∙ p.comma_there (omega arith);
      digit_there = λ n. rw (get_or-drop 9 t o 0) (p.digit_there (λ e. n (omega arith)));
    }

first_word : {k : ℕ} {t : List ℕ} → IsMaskText (suc k) t → IsWord (take 8 t)
first_word {k} {t} m = record { eight = eight; digits = each_all (take 8 t) (λ o l. digit o (omega (arith, eight))) }
  where
    eight : length (take 8 t) ≡ 8
    eight = length-take-le 8 t (omega (arith, m.whole))

    digit : (o : ℕ) → o < 8 → IsHex (character (take 8 t) o)
    digit o l = rw (get_or-take 8 t o 0 l) ((m.each o (omega arith)).digit_there (λ e. omega arith))

pub mask_words : (words : ℕ) (t : List ℕ) → IsMaskText words t → (ws : List (List ℕ)) × (length ws ≡ words) × All IsWord ws × (t ≡ joined comma ws)
mask_words zero [] m = ([], refl, tt, refl)
mask_words zero (c ∷ t) m = absurd (omega (arith, m.whole))
mask_words (suc zero) t m = (take 8 t ∷ [], refl, (first_word m, tt), sym (append-nil (take 8 t) ∙ take_all 8 t (omega (arith, m.whole))))
mask_words (suc (suc k)) t m = go (mask_words (suc k) (drop 9 t) (rest_mask m))
  where
    split : t ≡ take 8 t ++ (comma ∷ drop 9 t)
    split = split_at t 8 0 (omega (arith, m.whole)) ∙ rw ((m.each 8 (omega arith)).comma_there refl)

    go : (ws : List (List ℕ)) × (length ws ≡ suc k) × All IsWord ws × (drop 9 t ≡ joined comma ws) → (ws : List (List ℕ)) × (length ws ≡ suc (suc k)) × All IsWord ws × (t ≡ joined comma ws)
    go ([], e, a, j) = absurd (omega arith)
    go (w ∷ ws, e, a, j) = (take 8 t ∷ w ∷ ws, ap suc e, (first_word m, a), split ∙ ap (λ (u : List ℕ). take 8 t ++ (comma ∷ u)) j)

-- ---- words as a text

module _ (w t : List ℕ) (k : ℕ) (word : IsWord w) (m : IsMaskText (suc k) t) where
  after : (o : ℕ) → character (w ++ (comma ∷ t)) (8 + o) ≡ character (comma ∷ t) o
  after o = rw (← word.eight) (get_or-append-add w (comma ∷ t) o 0)

  place : (o : ℕ) → o < mask_size (suc (suc k)) → Dec (o < 8) → Dec (o ≡ 8) → IsPlaced (w ++ (comma ∷ t)) o
  place o l (yes b) d = record {
    comma_there = λ e. absurd (omega arith);
    digit_there = λ _. rw (get_or-append w (comma ∷ t) 0 o (omega (arith, word.eight))) (all_at IsHex w 0 word.digits o (omega (arith, word.eight)));
  }
  place o l (no b) (yes e) = record { comma_there = λ _. rw e (after 0); digit_there = λ n. absurd (n (omega arith)) }
  place o l (no b) (no d) = from (o - 9) (omega arith) (m.each (o - 9) (omega arith))
    where
      from : (i : ℕ) → o ≡ 8 + suc i → IsPlaced t i → IsPlaced (w ++ (comma ∷ t)) o
      from i e p = record {
        comma_there = λ h. rw (e, after (suc i)) (p.comma_there (omega arith));
        digit_there = λ n. rw (e, after (suc i)) (p.digit_there (λ h. n (omega arith)));
      }

  word_more : IsMaskText (suc (suc k)) (w ++ (comma ∷ t))
  word_more = record { whole = length-append w (comma ∷ t) ∙ omega (arith, word.eight, m.whole); each = λ o l. place o l (dec_lt o 8) (ℕ_discrete o 8) }

pub words_mask : (ws : List (List ℕ)) → All IsWord ws → IsMaskText (length ws) (joined comma ws)
words_mask [] a = record { whole = refl; each = λ o l. absurd (omega arith) }
words_mask (w ∷ []) a = rw (append-nil w) (record {
  whole = a.0.eight;
  each = λ o l. record { comma_there = λ e. absurd (omega arith); digit_there = λ _. all_at IsHex w 0 a.0.digits o (omega (arith, a.0.eight)) };
})
words_mask (w ∷ v ∷ ws) a = word_more w (joined comma (v ∷ ws)) (length ws) a.0 (words_mask (v ∷ ws) a.1)
