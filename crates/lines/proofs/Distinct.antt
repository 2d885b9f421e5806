-- Two different lines have different texts: the spaces part the fields and the commas the seats, and each field says its value.
use Prim.Native.Nat.{ℕ, zero, suc, ◌≤◌}
use mathlib.Core.Path.{◌≡◌, refl, sym, ap, ◌∙◌}
use mathlib.Core.Logic.{◌≢◌, ◌⊎◌, inl, inr}
use mathlib.Core.Bool.{cond}
use mathlib.Core.List.{List, [], ◌∷◌, ◌++◌, map, append_cancel_right}
use native.Mathlib.Decide.{ℕ_discrete}
use native.Mathlib.Omega.{arith}
use lib.Dec.{eqb}
use lib.ListN.{length, length-append}
use Rattle.laws.specs.Lists.{In}
use Rattle.texts.specs.Joined.{space, comma, dash, joined}
use Rattle.texts.proofs.Joining.{Without, EachWithout, cut, joined_same, joined_without}
use Rattle.decimals.specs.Decimal.{decimal}
use Rattle.decimals.specs.Fault.{refused_word, at_word, fault_text}
use Rattle.decimals.proofs.Spelling.{decimal_same, decimal_digits, decimal_some}
use Rattle.dispatcher.specs.Limits.{none}
use Rattle.lines.specs.declared.Line.{Line}
use Rattle.lines.specs.Text.{letter_of, slot_text, fields_of, seats_text, line_text}
use Rattle.lines.specs.Line.{IsLineKind}
use Rattle.lines.proofs.Parts.{slot_dash, slot_number}

-- ---- a kind's letter

kind_of : ℕ → ℕ
kind_of c = cond (eqb c 67) 0 (cond (eqb c 87) 1 (cond (eqb c 66) 2 3))

kind_back : (k : ℕ) → IsLineKind k → kind_of (letter_of k) ≡ k
unfolding kind_of
kind_back zero l = refl
kind_back (suc zero) l = refl
kind_back (suc (suc zero)) l = refl
kind_back (suc (suc (suc zero))) l = refl
kind_back (suc (suc (suc (suc k)))) l = absurd (omega arith)

letter_same : (j k : ℕ) → IsLineKind j → IsLineKind k → letter_of j ≡ letter_of k → j ≡ k
letter_same j k a b e = sym (kind_back j a) ∙ ap kind_of e ∙ kind_back k b

letter_free : (k : ℕ) → Without space (letter_of k ∷ [])
letter_free zero (inl e) = omega arith
letter_free (suc zero) (inl e) = omega arith
letter_free (suc (suc zero)) (inl e) = omega arith
letter_free (suc (suc (suc zero))) (inl e) = omega arith
letter_free (suc (suc (suc (suc k)))) (inl e) = omega arith
letter_free zero (inr x) = absurd x
letter_free (suc zero) (inr x) = absurd x
letter_free (suc (suc zero)) (inr x) = absurd x
letter_free (suc (suc (suc zero))) (inr x) = absurd x
letter_free (suc (suc (suc (suc k)))) (inr x) = absurd x

-- ---- a slot or `-`

abbrev DashOrNumber : ℕ → Type 0
DashOrNumber s = ((s ≡ none) × (slot_text s ≡ dash ∷ [])) ⊎ (slot_text s ≡ decimal s)

dash_or_number : (s : ℕ) → DashOrNumber s
dash_or_number s = elim (ℕ_discrete s none) [ yes e ↦ inl (e, slot_dash s e) | no n ↦ inr (slot_number s n) ]

slot_some : (s : ℕ) → 1 ≤ length (slot_text s)
slot_some s = elim (dash_or_number s) [ inl h ↦ rw h.1 (omega arith) | inr h ↦ rw h (decimal_some s) ]

-- all its characters come after the comma, and so after the space
slot_without : (c s : ℕ) → c ≤ comma → Without c (slot_text s)
slot_without c s l = elim (dash_or_number s) [
  | inl h ↦ rw h.1 (λ i. elim i [ inl e ↦ omega arith | inr n ↦ n ])
  | inr h ↦ rw h (λ i. omega (arith, decimal_digits s c i))
]

no_number : (n : ℕ) → dash ∷ [] ≡ decimal n → ⊥
no_number n e = omega (arith, decimal_digits n dash (rw (← e) (inl refl)))

slot_same : (s t : ℕ) → slot_text s ≡ slot_text t → s ≡ t
slot_same s t e = go (dash_or_number s) (dash_or_number t)
  where
    go : DashOrNumber s → DashOrNumber t → s ≡ t
    go (inl (p, d)) (inl (q, f)) = p ∙ sym q
    go (inl (p, d)) (inr h) = absurd (no_number t (sym d ∙ e ∙ h))
    go (inr g) (inl (q, f)) = absurd (no_number s (sym f ∙ sym e ∙ g))
    go (inr g) (inr h) = decimal_same s t (sym g ∙ e ∙ h)

-- ---- the seats

slots_without : (c : ℕ) (s : List ℕ) → c ≤ comma → EachWithout c (map slot_text s)
slots_without c [] l = tt
slots_without c (a ∷ s) l = (slot_without c a l, slots_without c s l)

slots_same : (s u : List ℕ) → map slot_text s ≡ map slot_text u → s ≡ u
slots_same [] [] e = refl
slots_same [] (b ∷ u) e = cc
slots_same (a ∷ s) [] e = cc
slots_same (a ∷ s) (b ∷ u) e = λ i. slot_same a b (cc) i ∷ slots_same s u (cc) i

no_seats : (a : ℕ) (s : List ℕ) → seats_text (a ∷ s) ≢ []
no_seats a s e = omega (arith, slot_some a, simp length-append at (ap length e))

seats_same : (s u : List ℕ) → seats_text s ≡ seats_text u → s ≡ u
seats_same [] [] e = refl
seats_same [] (b ∷ u) e = absurd (no_seats b u (sym e))
seats_same (a ∷ s) [] e = absurd (no_seats a s e)
seats_same (a ∷ s) (b ∷ u) e =
    slots_same (a ∷ s) (b ∷ u) (joined_same comma _ _ _ _ (slots_without comma (a ∷ s) (omega arith)) (slots_without comma (b ∷ u) (omega arith)) e)

-- ---- the fields: none has a space

number_free : (n : ℕ) → Without space (decimal n)
number_free n i = omega (arith, decimal_digits n space i)

slot_free : (s : ℕ) → Without space (slot_text s)
slot_free s = slot_without space s (omega arith)

seats_free : (s : List ℕ) → Without space (seats_text s)
seats_free s = joined_without space comma (map slot_text s) (omega arith) (slots_without space s (omega arith))

abbrev texts_of : Line → List ℕ → List (List ℕ)
texts_of l s = fields_of l ++ (seats_text s ∷ [])

texts_free : (l : Line) (s : List ℕ) → EachWithout space (texts_of l s)
texts_free l s = (number_free _, (letter_free l.kind, (number_free _, (number_free _, (number_free _, (slot_free _, (slot_free _, (seats_free s, tt))))))))

-- the whole line but for the place, which is not printed, and as many seats
pub line_same : {l m : Line} {s u : List ℕ} → IsLineKind l.kind → IsLineKind m.kind → l.report.place ≡ m.report.place → line_text l s ≡ line_text m u → (l ≡ m) × (s ≡ u)
unfolding line_text
line_same {l} {m} {s} {u} a b place e =
    let texts : texts_of l s ≡ texts_of m u = joined_same space _ _ _ _ (texts_free l s) (texts_free m u) (append_cancel_right _ _ _ e) in
    let number = decimal_same l.number m.number (cc) in
    let kind = letter_same l.kind m.kind a b (cc) in
    let slot = decimal_same l.slot m.slot (cc) in
    let answer = decimal_same l.report.number m.report.number (cc) in
    let moves = decimal_same l.report.moves m.report.moves (cc) in
    let started = slot_same l.report.started m.report.started (cc) in
    let stopped = slot_same l.report.stopped m.report.stopped (cc) in
    let seats = seats_same s u (cc) in
    let report : l.report ≡ m.report = λ i. record { number = answer i; moves = moves i; started = started i; stopped = stopped i; place = place i } in
    (λ i. record { number = number i; kind = kind i; slot = slot i; report = report i }, seats)

-- ---- a refused file

abbrev fault_texts : ℕ → ℕ → List (List ℕ)
fault_texts n o = refused_word ∷ decimal n ∷ at_word ∷ decimal o ∷ []

pub fault_distinct : {n n' o o' : ℕ} → fault_text n o ≡ fault_text n' o' → (n ≡ n') × (o ≡ o')
unfolding fault_text
fault_distinct {n} {n'} {o} {o'} e =
    let same : joined space (fault_texts n o) ≡ joined space (fault_texts n' o') = append_cancel_right _ _ _ e in
    let parts = cut space (decimal n) (decimal n') (joined space (at_word ∷ decimal o ∷ [])) (joined space (at_word ∷ decimal o' ∷ [])) (number_free n) (number_free n') (cc) in
    (decimal_same n n' parts.0, decimal_same o o' (append_cancel_right (decimal o) (decimal o') [] (cc parts.1)))

first_in : (c : ℕ) (t x y : List ℕ) → 1 ≤ length t → t ++ x ≡ c ∷ y → In c t
first_in c [] x y l e = absurd (omega arith)
first_in c (a ∷ t) x y l e = inl (cc)

-- a line begins with a digit
pub line_no_fault : (l : Line) (s : List ℕ) (n o : ℕ) → line_text l s ≡ fault_text n o → ⊥
unfolding line_text fault_text
line_no_fault l s n o e =
    let same : joined space (texts_of l s) ≡ joined space (fault_texts n o) = append_cancel_right _ _ _ e in
    omega (arith, decimal_digits l.number _ (first_in _ (decimal l.number) _ _ (decimal_some l.number) same))
