-- One place of a Mask text after another: the place read, or the text's first fault.
use Prim.Native.Nat.{ℕ, ◌+◌, ◌-◌, ◌*◌, ◌%◌, ◌^◌, ◌≤◌, ◌<◌}
use mathlib.Core.Path.{◌≡◌, refl, sym, ap, ◌∙◌}
use mathlib.Core.Logic.{◌⊎◌, inl, inr}
use mathlib.Core.Bool.{true, false, ◌||◌}
use mathlib.Core.List.{List}
use native.Mathlib.Decide.{ℕ_discrete, dec_lt}
use native.Mathlib.Omega.{arith}
use lib.Bits.{bit_or}
use lib.Pow.{shl_exact}
use lib.ListN.{length, take, get_or-eq_default}
use borrow.Author.Count.{below_more}
use Rattle.std.specs.Slice.{IsItemAt}
use Rattle.std.specs.Prelude.{Option, Some, None, Result, Ok, Err, IsErrAnd, ok_or}
use denote.Ref.{Bor}
use Rattle.laws.specs.Answering.{Applies}
use Rattle.laws.proofs.Deciding.{clash, cases, decides_yes, decides_is, decides_by}
use Rattle.laws.proofs.Testing.{or_cases, or_left, or_right}
use Rattle.masks.specs.Masks.{has, NamesMissing}
use Rattle.masks.proofs.Bits.{has_beyond}
use Rattle.masks.proofs.Operators.{has_or, has_up, up_none}
use Rattle.texts.specs.Joined.{comma}
use Rattle.cpusets.specs.Answers.{number_of}
use Rattle.cpusets.specs.Characters.{character}
use Rattle.cpusets.specs.Faults.{Begins, IsUnexpected, FirstFault, Faultless}
use Rattle.cpusets.specs.declared.Refusal.{Refusal}
use Rattle.cpusets.proofs.Beginning.{expected, none_unexpected, first_fault}
use Rattle.cpumasks.specs.Mask.{IsHex, hex_value_of, mask_size, IsCommaPlace, IsPlaced, IsMaskText, place_of, HasCore, MeansMask}
use Rattle.cpumasks.specs.Faults.{HasAbove, mask_faults}
use Rattle.cpumasks.specs.Progress.{lowest_core_of, SaysHex, MaskTo, WalksMask}
use Rattle.cpumasks.proofs.Digits.{hex_small}
use Rattle.cpumasks.proofs.Places.{place_within, no_comma, core_of, core_below, core_place, core_bit}
use Rattle.cpumasks.proofs.Filling.{begins_placed, begun_placed}

-- what `get` gives
pub got : (t : List ℕ) (at : ℕ) {o : Option (Bor ℕ)} {b : Bor ℕ} → IsItemAt t at o → o ≡ Some b → (at < length t) × (character t at ≡ b.now)
got t at h e = (grind arith, grind arith)

-- a digit stands within the text
hex_within : (t : List ℕ) (o : ℕ) → IsHex (character t o) → o < length t
hex_within t o h = go (dec_lt o (length t))
  where
    none : IsHex 0 → ⊥
    none (inl d) = omega (arith, d.0)
    none (inr (inl d)) = omega (arith, d.0)
    none (inr (inr d)) = omega (arith, d.0)

    go : Dec (o < length t) → o < length t
    go (yes l) = l
    go (no l) = absurd (none (rw (get_or-eq_default t 0 {n = o} (omega arith)) at h))

-- where a core has its digit, the place is as it should be
core_placed : {words c : ℕ} {t : List ℕ} → HasCore words t c → IsPlaced t (place_of words c)
core_placed {words} {c} h = record { comma_there = λ k. absurd (no_comma words c h.below k); digit_there = λ _. h.digit }

-- ---- the first fault

module _ {n words at set : ℕ} {t : List ℕ} (to : MaskTo n words t at set) (fits : at ≤ mask_size words) where
  begun : Begins (IsMaskText words) (take at t)
  begun = begins_placed words at t to.within fits to.each

  -- no fault stands before the place
  past : (m p : ℕ) → Applies (mask_faults n words t p) m → at ≤ p
  past m p (inl (_, u)) = expected at to.within begun u
  past m p (inr (inr x)) = absurd x
  past m p (inr (inl (_, h))) = go (dec_lt p at)
    where
      go : Dec (p < at) → at ≤ p
      go (yes l) = let k = to.below h.core h.there (omega (arith, h.at)) in absurd (omega (arith, h.above))
      go (no l) = omega arith

  -- what is unexpected is no digit
  not_both : IsUnexpected (IsMaskText words) t at → HasAbove n words t at → ⊥
  not_both u h = go u.here
    where
      there : at < length t
      there = omega (arith, h.at, hex_within t (place_of words h.core) h.there.digit)

      inside : at < mask_size words
      inside = omega (arith, h.at, place_within words h.core h.there.below)

      upto : (o : ℕ) → o < at + 1 → IsPlaced t o
      upto = below_more (IsPlaced t) at to.each (rw h.at (core_placed h.there))

      go : ((at < length t) × (Begins (IsMaskText words) (take (at + 1) t) → ⊥)) ⊎ ((at ≡ length t) × (IsMaskText words t → ⊥)) → ⊥
      go (inl x) = x.1 (begins_placed words (at + 1) t (omega (arith, there)) (omega (arith, inside)) upto)
      go (inr x) = omega (arith, x.0, there)

  fault_unexpected : IsUnexpected (IsMaskText words) t at → FirstFault (mask_faults n words t) 17 at
  fault_unexpected u = first_fault (inl (refl, u)) past one
    where
      one : (m : ℕ) → Applies (mask_faults n words t at) m → 17 ≡ m
      one m (inl (e, _)) = sym e
      one m (inr (inl (_, h))) = absurd (not_both u h)
      one m (inr (inr x)) = absurd x

  pub fault_above : HasAbove n words t at → FirstFault (mask_faults n words t) 19 at
  fault_above h = first_fault (inr (inl (refl, h))) past one
    where
      one : (m : ℕ) → Applies (mask_faults n words t at) m → 19 ≡ m
      one m (inl (_, u)) = absurd (not_both u h)
      one m (inr (inl (e, _))) = sym e
      one m (inr (inr x)) = absurd x

  -- ---- what is unexpected: the end, a character, one too many

  pub fault_end : at < mask_size words → length t ≤ at → FirstFault (mask_faults n words t) 17 at
  fault_end l e = fault_unexpected (record { before = begun; here = inr (omega (arith, to.within), λ m. omega (arith, m.whole)) })

  pub fault_character : at < length t → (IsPlaced t at → ⊥) → FirstFault (mask_faults n words t) 17 at
  fault_character l wrong = fault_unexpected (record { before = begun; here = inl (l, λ b. wrong (begun_placed l b).1) })

  pub fault_surplus : at < length t → mask_size words ≤ at → FirstFault (mask_faults n words t) 17 at
  fault_surplus l k = fault_unexpected (record { before = begun; here = inl (l, λ b. omega (arith, (begun_placed l b).0)) })

-- ---- one place more

-- a comma has no core
pub past_comma : {n words at set : ℕ} {t : List ℕ} → MaskTo n words t at set → at < length t → IsCommaPlace at → character t at ≡ comma → MaskTo n words t (at + 1) set
past_comma {words = words} {at} {t = t} to there h e = record {
  within = omega arith;
  each = below_more (IsPlaced t) at to.each (record { comma_there = λ _. e; digit_there = λ k. absurd (k h) });
  below = λ c x l. to.below c x (before c x l);
  cores = λ c. record { yes = λ y. let x = (to.cores c).yes y in (x.0, omega (arith, x.1)); no = λ z x. (to.cores c).no z (x.0, before c x.0 x.1) };
}
  where
    before : (c : ℕ) → HasCore words t c → place_of words c < at + 1 → place_of words c < at
    before c x l = go (ℕ_discrete (place_of words c) at)
      where
        go : Dec (place_of words c ≡ at) → place_of words c < at
        go (yes e) = absurd (no_comma words c x.below (rw e h))
        go (no e) = omega arith

-- a digit has the cores of its bits
abbrev pub bits_at : ℕ → List ℕ → ℕ → ℕ
bits_at words t at = hex_value_of (character t at) * 2 ^ lowest_core_of words at

module _ (words at : ℕ) (t : List ℕ) (inside : at < mask_size words) (digit-place : IsCommaPlace at → ⊥) (hex : IsHex (character t at)) where
  abbrev bits : ℕ
  bits = bits_at words t at

  bit_core : (c : ℕ) → has bits c ≡ true → HasCore words t c × (place_of words c ≡ at)
  bit_core c y = go (dec_lt c (lowest_core_of words at))
    where
      core_from : (k : ℕ) → c ≡ lowest_core_of words at + k → Dec (k < 4) → HasCore words t c × (place_of words c ≡ at)
      core_from k e small = from small (sym (has_up (hex_value_of (character t at)) (lowest_core_of words at) k) ∙ ap (has bits) (sym e) ∙ y)
        where
          from : Dec (k < 4) → has (hex_value_of (character t at)) k ≡ true → HasCore words t c × (place_of words c ≡ at)
          from (yes l) b =
              let p : place_of words c ≡ at = rw e (core_place words at k inside digit-place l) in
              let q : c % 4 ≡ k = rw e (core_bit words at k inside digit-place l) in
              (record { below = rw e (core_below words at k inside digit-place l); digit = rw p hex; bit = rw (p, q) b }, p)
          from (no l) b = clash b (has_beyond 4 (hex_value_of (character t at)) k (hex_small (character t at) hex) (omega arith))

      go : Dec (c < lowest_core_of words at) → HasCore words t c × (place_of words c ≡ at)
      go (yes l) = absurd (up_none (hex_value_of (character t at)) (lowest_core_of words at) c l y)
      go (no l) = core_from (c - lowest_core_of words at) (omega arith) (dec_lt (c - lowest_core_of words at) 4)

  core_bit_on : (c : ℕ) → HasCore words t c → place_of words c ≡ at → has bits c ≡ true
  core_bit_on c h e = ap (has bits) (rw e at (core_of words c h.below)) ∙ has_up (hex_value_of (character t at)) (lowest_core_of words at) (c % 4) ∙ rw e at h.bit

  -- 19 is for a digit with a bit at or above the count
  pub bits_above : {n : ℕ} → NamesMissing n (bits_at words t at) → HasAbove n words t at
  bits_above m = let h = bit_core m.core m.named in record { core = m.core; there = h.0; at = sym h.1; above = m.missing }

  pub past_digit : {n set : ℕ} → MaskTo n words t at set → (NamesMissing n (bits_at words t at) → ⊥) → MaskTo n words t (at + 1) (bit_or set (bits_at words t at))
  past_digit {n} {set} to none = record {
    within = omega (arith, there);
    each = below_more (IsPlaced t) at to.each (record { comma_there = λ h. absurd (digit-place h); digit_there = λ _. hex });
    below = λ c h l. below c h l (ℕ_discrete (place_of words c) at);
    cores = λ c. decides_is (sym (has_or set bits c)) (record { yes = λ y. yes_core c (or_cases y); no = λ z h. no_core c z h (ℕ_discrete (place_of words c) at) });
  }
    where
      there : at < length t
      there = hex_within t at hex

      below : (c : ℕ) → HasCore words t c → place_of words c < at + 1 → Dec (place_of words c ≡ at) → c < n
      below c h l (yes e) = go (dec_lt c n)
        where
          go : Dec (c < n) → c < n
          go (yes k) = k
          go (no k) = absurd (none (record { core = c; missing = omega arith; named = core_bit_on c h e }))
      below c h l (no e) = to.below c h (omega arith)

      yes_core : (c : ℕ) → (has set c ≡ true) ⊎ (has bits c ≡ true) → HasCore words t c × (place_of words c < at + 1)
      yes_core c (inl y) = let h = (to.cores c).yes y in (h.0, omega (arith, h.1))
      yes_core c (inr y) = let h = bit_core c y in (h.0, omega (arith, h.1))

      no_core : (c : ℕ) → (has set c || has bits c) ≡ false → HasCore words t c × (place_of words c < at + 1) → Dec (place_of words c ≡ at) → ⊥
      no_core c z h (yes e) = clash (or_right (has set c) (core_bit_on c h.0 e)) z
      no_core c z h (no e) = go (cases (has set c))
        where
          go : (has set c ≡ true) ⊎ (has set c ≡ false) → ⊥
          go (inl y) = clash (or_left (has bits c) y) z
          go (inr f) = (to.cores c).no f (h.0, omega (arith, h.1))

-- the machine's digit shifted up, of which nothing is lost
pub digit_read : {words at c d low : ℕ} (t : List ℕ) (r : Option ℕ) → words ≤ 2 → at < mask_size words → (IsCommaPlace at → ⊥) → character t at ≡ c → SaysHex c r → r ≡ Some d → low ≡ lowest_core_of words at
    → IsHex (character t at) × ((d * 2 ^ low) % 2 ^ 64 ≡ bits_at words t at)
digit_read {words} {at} {c} {d} t r few inside place e says some k =
    let h = rw some at says in
    (rw e h.0, rw (k, e, h.1) (shl_exact 4 (lowest_core_of words at) 64 (hex_small c h.0) (omega arith)))

-- ---- what a step answers where there is no character, or no digit

pub refused : {A : Type 0} {n words at : ℕ} {t : List ℕ} (r : Result ℕ Refusal) (o : Option A) {e : Refusal} (d : Refusal)
    → IsErrAnd r (λ x. x ≡ e) → ◌≡◌ {A = Result A Refusal} (Err e) (ok_or o d) → FirstFault (mask_faults n words t) (number_of d) at → WalksMask n words t at r
refused (Ok s) o d h k f = absurd h
refused (Err x) (Some y) d h k f = absurd (cc)
refused (Err x) None {e} d h k f = let same : x ≡ d = cc in rw same f

-- ---- the end

pub means_all : {n words set : ℕ} {t : List ℕ} → MaskTo n words t (mask_size words) set → length t ≡ mask_size words → MeansMask words t set
means_all {words = words} to e = record {
  text = record { whole = e; each = to.each };
  cores = λ c. decides_by (λ h. h.0) (λ h. (h, place_within words c h.below)) (to.cores c);
}

-- a text has no fault where the set that it means has no core at or above the limit
pub means_faultless : {n words s : ℕ} {t : List ℕ} → (NamesMissing n s → ⊥) → MeansMask words t s → Faultless (mask_faults n words t)
means_faultless none m k o (inl (_, u)) = none_unexpected m.text u
means_faultless none m k o (inr (inl (_, h))) = none (record { core = h.core; missing = h.above; named = decides_yes (m.cores h.core) h.there })
means_faultless none m k o (inr (inr x)) = absurd x

pub to_below : {n words at set : ℕ} {t : List ℕ} → MaskTo n words t at set → NamesMissing n set → ⊥
to_below to h =
    let x = (to.cores h.core).yes h.named in
    let l = to.below h.core x.0 x.1 in
    omega (arith, h.missing)
