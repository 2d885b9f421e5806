-- The set that is gathered: the cores of the items read, and then those of one item more.
use Prim.Native.Nat.{ℕ, ◌+◌, ◌≤◌, ◌<◌}
use mathlib.Core.Path.{◌≡◌, refl, sym}
use mathlib.Core.Logic.{◌⊎◌, inl, inr}
use mathlib.Core.List.{List, [], ◌∷◌, ◌++◌}
use native.Mathlib.Omega.{arith}
use lib.Bits.{bit_or}
use lib.ListN.{length}
use Rattle.laws.specs.Decides.{Decides}
use Rattle.laws.specs.Lists.{All, Any}
use Rattle.laws.proofs.Deciding.{decides_is, decides_by, decides_or, decides_false}
use Rattle.laws.proofs.Lists.{all_append, any_append, any_left, any_right}
use Rattle.masks.specs.Masks.{has}
use Rattle.masks.proofs.Bits.{has_zero}
use Rattle.masks.proofs.Operators.{has_or}
use Rattle.texts.specs.Joined.{comma}
use Rattle.cpusets.specs.Characters.{character}
use Rattle.cpusets.specs.Faults.{FirstFault}
use Rattle.cpulists.specs.List.{Holds}
use Rattle.cpulists.specs.Faults.{list_faults}
use Rattle.cpulists.specs.Progress.{IsLegal, ReadTo, ReadAll, ItemAt, Spans, WalksOn}
use Rattle.cpulists.proofs.Verdicts.{comma_list, whole_list, no_item}
use Rattle.cpulists.proofs.Pieces.{item_further}

none_held : (c : ℕ) → Decides (Any (Holds c) []) (has 0 c)
none_held c = rw (has_zero c) (decides_false (λ x. x))

-- nothing is read yet; of an empty text that is all
pub start : {n : ℕ} {t : List ℕ} → ReadTo n t 0 0
start = record { opens = record { items = []; legal = tt; is = refl; within = omega arith }; cores = none_held }

pub start_all : {n : ℕ} {t : List ℕ} → length t ≤ 0 → ReadAll n t 0
start_all {t = t} l = record { items = []; legal = tt; is = empty t l; cores = none_held }
  where
    empty : (t : List ℕ) → length t ≤ 0 → t ≡ []
    empty [] l = refl
    empty (c ∷ t) l = absurd (omega arith)

-- one item more, whose cores are those of a word
module _ {n : ℕ} {t : List ℕ} {at set first last end word : ℕ} (R : ReadTo n t at set) (I : ItemAt n t at first last end) (S : Spans first last word) where
  held : (c : ℕ) → Decides (Any (Holds c) (R.opens.items ++ (I.item ∷ []))) (has (bit_or set word) c)
  held c = decides_is (sym (has_or set word c)) (decides_by to from (decides_or (R.cores c) (S.each c)))
    where
      to : Any (Holds c) R.opens.items ⊎ ((first ≤ c) × (c ≤ last)) → Any (Holds c) (R.opens.items ++ (I.item ∷ []))
      to (inl k) = any_left (Holds c) R.opens.items (I.item ∷ []) k
      to (inr h) = any_right (Holds c) R.opens.items (I.item ∷ []) (inl (rw (← I.first_told) h.0, rw (← I.last_told) h.1))

      only : Any (Holds c) (I.item ∷ []) → (first ≤ c) × (c ≤ last)
      only (inl k) = (rw I.first_told k.0, rw I.last_told k.1)
      only (inr k) = absurd k

      from : Any (Holds c) (R.opens.items ++ (I.item ∷ [])) → Any (Holds c) R.opens.items ⊎ ((first ≤ c) × (c ≤ last))
      from h = elim (any_append (Holds c) R.opens.items (I.item ∷ []) h) [ inl k ↦ inl k | inr k ↦ inr (only k) ]

  legal : All (IsLegal n) (R.opens.items ++ (I.item ∷ []))
  legal = all_append (IsLegal n) R.opens.items (I.item ∷ []) R.opens.legal (I.legal, tt)

  read_more : character t end ≡ comma → end < length t → ReadTo n t (end + 1) (bit_or set word)
  read_more e l = record { opens = record { items = R.opens.items ++ (I.item ∷ []); legal = legal; is = comma_list R.opens I e l; within = omega arith }; cores = held }

  read_whole : end ≡ length t → ReadAll n t (bit_or set word)
  read_whole e = record { items = R.opens.items ++ (I.item ∷ []); legal = legal; is = whole_list R.opens I e; cores = held }

  -- ---- what follows it

  pub walk_end : end ≡ length t → WalksOn n t at (record { place = end; set = bit_or set word })
  walk_end e = record { further = item_further I; to = λ l. absurd (omega arith); all = λ _. (e, read_whole e) }

  pub walk_comma : character t end ≡ comma → end + 1 < length t → WalksOn n t at (record { place = end + 1; set = bit_or set word })
  walk_comma e l = record { further = omega (arith, item_further I); to = λ _. read_more e (omega arith); all = λ k. absurd (omega arith) }

  -- the text ends after a comma
  pub ends_open : character t end ≡ comma → end + 1 ≡ length t → FirstFault (list_faults n t) 17 (end + 1)
  ends_open e l = no_item (read_more e (omega arith)).opens l (omega arith)
