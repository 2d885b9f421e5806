-- An item of one number, or of two.
use Prim.Native.Nat.{ℕ, ◌+◌, ◌≤◌, ◌<◌}
use mathlib.Core.Path.{◌≡◌, refl, sym, ap, ◌∙◌}
use mathlib.Core.Logic.{◌≢◌}
use mathlib.Core.Bool.{Bool, true, false}
use mathlib.Core.List.{List, ◌∷◌, ◌++◌, append_assoc}
use native.Mathlib.Numerals.{add-one}
use native.Mathlib.Omega.{arith}
use lib.ListN.{length, drop, length-append}
use lib.Seq.{take-append_seam, drop-cons, drop-drop}
use Rattle.laws.proofs.Deciding.{clash}
use Rattle.texts.specs.Joined.{dash}
use Rattle.cpusets.specs.Characters.{character}
use Rattle.cpulists.specs.List.{Item, one, range}
use Rattle.cpulists.specs.Progress.{Opens, NumberBelow, ItemAt}
use Rattle.cpulists.specs.declared.Number.{Number}
use Rattle.cpulists.proofs.Apart.{some_text}
use Rattle.cpulists.proofs.Passing.{rest_split}
use Rattle.cpulists.proofs.Verdicts.{HalfRead}

pub one_item : {n : ℕ} {t : List ℕ} {at : ℕ} {r : Number} → NumberBelow n t at r → character t r.end ≢ dash → ItemAt n t at r.value r.value r.end
one_item N m = record {
  item = one N.digits;
  legal = record { item = N.there.number; first_below = N.below; last_below = N.below; forward = omega arith };
  is = N.there.is;
  end_told = N.end_told;
  within = N.within;
  first_told = N.value_told;
  last_told = N.value_told;
  no_digit = rw N.end_told N.there.ends;
  no_dash = λ _ _. m;
}

-- a range of which the first number and the dash are read
pub half_read : {n : ℕ} {t : List ℕ} {at : ℕ} {r : Number} → Opens n t at → NumberBelow n t at r → r.end < length t → character t r.end ≡ dash → HalfRead n t at r.value (r.end + 1)
half_read O N inside joint = record {
  opens = O;
  digits = N.digits;
  there = N.there;
  told = N.value_told;
  below = omega (arith, N.value_told, N.below);
  joint = rw (← N.end_told) joint;
  next = omega (arith, N.end_told);
  within = omega (arith, inside);
}

pub range_item : {n : ℕ} {t : List ℕ} {start first at : ℕ} {r : Number} (H : HalfRead n t start first at) (N : NumberBelow n t at r) → first ≤ r.value → ItemAt n t start first r.value r.end
range_item {n} {t} {start} {first} {at} {r} H N forward = record {
  item = range H.digits N.digits;
  legal = record { item = (H.there.number, N.there.number); first_below = rw (← H.told) H.below; last_below = N.below; forward = omega (arith, H.told, N.value_told) };
  is = rw whole (take-append_seam (H.digits ++ (dash ∷ N.digits)) _);
  end_told = omega (arith, N.end_told, H.next, length-append H.digits (dash ∷ N.digits));
  within = N.within;
  first_told = H.told;
  last_told = N.value_told;
  no_digit = rw N.end_told N.there.ends;
  no_dash = λ d e. absurd (not_one d e);
}
  where
    whole : drop start t ≡ (H.digits ++ (dash ∷ N.digits)) ++ drop (at + length N.digits) t
    whole =
        rest_split H.digits (drop start t) H.there.is
        ∙ ap (λ (x : List ℕ). H.digits ++ x) (drop-drop (length H.digits) start t ∙ drop-cons t (start + length H.digits) 0 (omega (arith, H.within, H.next)) ∙ rw (H.joint, ← add-one (start + length H.digits), ← H.next) (ap (λ (x : List ℕ). dash ∷ x) second))
        ∙ sym (append_assoc H.digits (dash ∷ N.digits) (drop (at + length N.digits) t))
      where
        second : drop at t ≡ N.digits ++ drop (at + length N.digits) t
        second = rest_split N.digits (drop at t) N.there.is ∙ ap (λ (x : List ℕ). N.digits ++ x) (drop-drop (length N.digits) at t)

    is_range : Item → Bool
    is_range (one d) = false
    is_range (range d e) = true

    not_one : (d : List ℕ) → range H.digits N.digits ≡ one d → ⊥
    not_one d e = clash {b = true} refl (ap is_range e)

-- an item has a character
pub item_further : {n : ℕ} {t : List ℕ} {at first last end : ℕ} → ItemAt n t at first last end → at < end
item_further I = omega (arith, I.end_told, some_text I.item I.legal.item)
