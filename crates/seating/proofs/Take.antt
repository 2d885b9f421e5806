-- A newcomer takes a chain: it gets the chain's first core, each task on the chain but the last gets the next core, and the last one drops out.
use Prim.Native.Nat.{ℕ, ◌≤◌, ◌<◌}
use mathlib.Core.Path.{◌≡◌, refl, sym, ap, ◌∙◌, subst, fun_ext}
use mathlib.Core.Logic.{◌⊎◌, inl, inr, ◌≢◌}
use mathlib.Core.Bool.{Bool, true}
use mathlib.Core.List.{List, [], ◌∷◌}
use native.Mathlib.Decide.{ℕ_discrete}
use native.Mathlib.Omega.{arith}
use lib.ListN.{length, get_or, set, length-set}
use lib.Seq.{get_or-set_same, get_or-set_other}
use Rattle.laws.proofs.Counting.{front, front_in, in_dec, in_front_or_last, last_in, last_not_front}
use Rattle.laws.specs.Lists.{Distinct, In, last}
use Rattle.seating.proofs.Same.{Shifts, from, shifts_below, to}
use Rattle.seating.proofs.Update.{upd, upd_other, upd_same}
use Rattle.seating.specs.Chain.{Chain, Links}
use Rattle.seating.specs.Running.{May, Running}
use Rattle.seating.specs.Strong.{Legal}

-- the seating after, on functions and on lists of seats
abbrev pub shift : (ℕ → ℕ) → ℕ → ℕ → List ℕ → ℕ → ℕ
shift s x c [] = upd s c x
shift s x c (d ∷ p) = shift (upd s c x) (s c) d p

unfoldable pub seats : ℕ → List ℕ → ℕ → ℕ
seats e xs c = get_or xs c e

abbrev pub take_chain_of : ℕ → List ℕ → ℕ → ℕ → List ℕ → List ℕ
take_chain_of e xs x c [] = set xs c x
take_chain_of e xs x c (d ∷ p) = take_chain_of e (set xs c x) (get_or xs c e) d p

pub set_upd : (e : ℕ) (xs : List ℕ) (c x : ℕ) → c < length xs → seats e (set xs c x) ≡ upd (seats e xs) c x
unfolding seats
set_upd e xs c x l = fun_ext λ d. go d (ℕ_discrete d c)
  where
    go : (d : ℕ) → Dec (d ≡ c) → seats e (set xs c x) d ≡ upd (seats e xs) c x d
    go d (yes k) = rw k (get_or-set_same xs c x e l ∙ sym (upd_same (seats e xs) c x))
    go d (no k) = get_or-set_other xs c d x e k ∙ sym (upd_other (seats e xs) c x k)

pub take_shift : (e : ℕ) (xs : List ℕ) (x c : ℕ) (p : List ℕ) → ((a : ℕ) → In a (c ∷ p) → a < length xs)
    → seats e (take_chain_of e xs x c p) ≡ shift (seats e xs) x c p
unfolding seats
take_shift e xs x c [] h = set_upd e xs c x (h c (inl refl))
take_shift e xs x c (d ∷ p) h =
    take_shift e (set xs c x) (get_or xs c e) d p (λ a i. rw length-set (h a (inr i)))
    ∙ ap (λ (s : ℕ → ℕ). shift s (get_or xs c e) d p) (set_upd e xs c x (h c (inl refl)))

-- what the proofs use of it: s' is s after x took the chain c ∷ p
pub record Took (n e : ℕ) (may : ℕ → ℕ → Bool) (s s' : ℕ → ℕ) (x c : ℕ) (p : List ℕ) : Type 0 where
  pub chain : Chain n e may s x c p
  pub first : s' c ≡ x
  pub shifts : Shifts n e s s' c p
  pub off : (a : ℕ) → (In a (c ∷ p) → ⊥) → s' a ≡ s a

-- ---- the first step of a chain

not_head : {c : ℕ} (p : List ℕ) → (In c p → ⊥) → (a : ℕ) → In a p → a ≢ c
not_head {c} p h a i e = h (subst (λ (z : ℕ). In z p) e i)

module _ (n e : ℕ) (may : ℕ → ℕ → Bool) (s s' : ℕ → ℕ) where
  links_agree : (c : ℕ) (p : List ℕ) → ((a : ℕ) → In a (c ∷ p) → s' a ≡ s a) → Links n e may s c p → Links n e may s' c p
  links_agree c [] h w = tt
  links_agree c (d ∷ p) h w = rw (h c (inl refl)) (w.0, w.1, links_agree d p (λ a i. h a (inr i)) w.2)

  shifts_agree : (s'' : ℕ → ℕ) (c : ℕ) (p : List ℕ) → ((a : ℕ) → In a (c ∷ p) → s' a ≡ s a) → Shifts n e s s'' c p → Shifts n e s' s'' c p
  shifts_agree s'' c [] h w = tt
  shifts_agree s'' c (d ∷ p) h w = rw (h c (inl refl)) (w.0, w.1, w.2, shifts_agree s'' d p (λ a i. h a (inr i)) w.3)

chain_tail : {n e : ℕ} {may : ℕ → ℕ → Bool} {s : ℕ → ℕ} {x c d : ℕ} {p : List ℕ} → Chain n e may s x c (d ∷ p) → Chain n e may (upd s c x) (s c) d p
chain_tail {n} {e} {may} {s} {x} {c} {d} {p} h = record {
  start = h.links.1;
  links = links_agree n e may s (upd s c x) d p (λ a i. upd_other s c x (not_head (d ∷ p) h.distinct.0 a i)) h.links.2;
  distinct = h.distinct.1;
}

took_tail : {n e : ℕ} {may : ℕ → ℕ → Bool} {s s' : ℕ → ℕ} {x c d : ℕ} {p : List ℕ} → Took n e may s s' x c (d ∷ p) → Took n e may (upd s c x) s' (s c) d p
took_tail {n} {e} {may} {s} {s'} {x} {c} {d} {p} h = record {
  chain = chain_tail h.chain;
  first = h.shifts.2;
  shifts = shifts_agree n e may s (upd s c x) s' d p (λ a i. upd_other s c x (not_head (d ∷ p) h.chain.distinct.0 a i)) h.shifts.3;
  off = λ a k. rest a k (ℕ_discrete a c);
}
  where
    rest : (a : ℕ) → (In a (d ∷ p) → ⊥) → Dec (a ≡ c) → s' a ≡ upd s c x a
    rest a k (yes q) = rw q (h.first ∙ sym (upd_same s c x))
    rest a k (no q) = h.off a (λ i. elim i [ inl j ↦ q j | inr j ↦ k j ]) ∙ sym (upd_other s c x q)

-- ---- `shift` is such a taking, and so is `take_chain_of`

shift_off : (s : ℕ → ℕ) (x c : ℕ) (p : List ℕ) (a : ℕ) → (In a (c ∷ p) → ⊥) → shift s x c p a ≡ s a
shift_off s x c [] a h = upd_other s c x (λ k. h (inl k))
shift_off s x c (d ∷ p) a h = shift_off (upd s c x) (s c) d p a (λ i. h (inr i)) ∙ upd_other s c x (λ k. h (inl k))

shift_first : (s : ℕ → ℕ) (x c : ℕ) (p : List ℕ) → Distinct (c ∷ p) → shift s x c p c ≡ x
shift_first s x c [] h = upd_same s c x
shift_first s x c (d ∷ p) h = shift_off (upd s c x) (s c) d p c h.0 ∙ upd_same s c x

shift_shifts : (n e : ℕ) (may : ℕ → ℕ → Bool) (s : ℕ → ℕ) (x c : ℕ) (p : List ℕ) → Chain n e may s x c p → Shifts n e s (shift s x c p) c p
shift_shifts n e may s x c [] h = tt
shift_shifts n e may s x c (d ∷ p) h = (
  h.links.0,
  h.links.1.0,
  shift_first (upd s c x) (s c) d p h.distinct.1,
  shifts_agree n e may (upd s c x) s (shift (upd s c x) (s c) d p) d p (λ a i. sym (upd_other s c x (not_head (d ∷ p) h.distinct.0 a i)))
      (shift_shifts n e may (upd s c x) (s c) d p (chain_tail h)),
)

pub shift_took : {n e : ℕ} {may : ℕ → ℕ → Bool} {s : ℕ → ℕ} {x c : ℕ} {p : List ℕ} → Chain n e may s x c p → Took n e may s (shift s x c p) x c p
shift_took {n} {e} {may} {s} {x} {c} {p} h = record {
  chain = h;
  first = shift_first s x c p h.distinct;
  shifts = shift_shifts n e may s x c p h;
  off = shift_off s x c p;
}

pub chain_below : {n e : ℕ} {may : ℕ → ℕ → Bool} {s : ℕ → ℕ} {x c : ℕ} {p : List ℕ} → Chain n e may s x c p → (a : ℕ) → In a (c ∷ p) → a < n
chain_below {n} {e} {may} {s} {x} {c} {p} h = shifts_below n e s (shift s x c p) c p h.start.0 (shift_shifts n e may s x c p h)

pub take_chain_took : {n e : ℕ} {may : ℕ → ℕ → Bool} (xs : List ℕ) {x c : ℕ} {p : List ℕ} → n ≤ length xs → Chain n e may (seats e xs) x c p
    → Took n e may (seats e xs) (seats e (take_chain_of e xs x c p)) x c p
take_chain_took {n} {e} {may} xs {x} {c} {p} l h = rw (take_shift e xs x c p (λ a i. let b = chain_below h a i in omega arith)) (shift_took h)

-- ---- who runs then

module _ {n e : ℕ} {may : ℕ → ℕ → Bool} {R : ℕ → Type 0} {s s' : ℕ → ℕ} {x c : ℕ} {p : List ℕ}
    (L : Legal n e may R s) (real : x ≢ e) (k : Took n e may s s' x c p) where
  pub took_runs : Running n e s' x
  took_runs = record { real = real; core = c; below = k.chain.start.0; sits = k.first }

  -- any other task that runs ran before, and was not on the last core
  pub took_old : (t : ℕ) → Running n e s' t → (t ≡ x) ⊎ (Running n e s t × (t ≢ s (last c p)))
  took_old t r = go (in_dec r.core (c ∷ p))
    where
      z_in : In (last c p) (c ∷ p)
      z_in = last_in c p

      by : (b : ℕ) → b < n → s b ≡ t → (b ≢ last c p) → (t ≡ x) ⊎ (Running n e s t × (t ≢ s (last c p)))
      by b l q d = inr (
        record { real = r.real; core = b; below = l; sits = q },
        λ j. d (L.once b (last c p) l (chain_below k.chain (last c p) z_in) (λ u. r.real (sym q ∙ u)) (q ∙ j)),
      )

      on : (r.core ≡ c) ⊎ ((b : ℕ) × In b (front c p) × (s b ≡ s' r.core)) → (t ≡ x) ⊎ (Running n e s t × (t ≢ s (last c p)))
      on (inl i) = inl (sym r.sits ∙ ap s' i ∙ k.first)
      on (inr i) = by i.0 (chain_below k.chain i.0 (front_in c p i.1)) (i.2 ∙ r.sits)
          (λ j. last_not_front c p k.chain.distinct (subst (λ (z : ℕ). In z (front c p)) j i.1))

      go : In r.core (c ∷ p) ⊎ (In r.core (c ∷ p) → ⊥) → (t ≡ x) ⊎ (Running n e s t × (t ≢ s (last c p)))
      go (inl i) = on (from n e s s' c p k.shifts r.core i)
      go (inr i) = by r.core r.below (sym (k.off r.core i) ∙ r.sits) (λ j. i (subst (λ (z : ℕ). In z (c ∷ p)) (sym j) z_in))

  -- and whoever ran, and was not on the last core, runs
  pub took_keeps : (t : ℕ) → Running n e s t → t ≢ s (last c p) → Running n e s' t
  took_keeps t r d = go (in_dec r.core (c ∷ p))
    where
      on : In r.core (front c p) ⊎ (r.core ≡ last c p) → Running n e s' t
      on (inl i) = let f = to n e s s' c p k.shifts r.core i in record { real = r.real; core = f.1.0; below = f.1.2; sits = f.1.3 ∙ r.sits }
      on (inr i) = absurd (d (sym r.sits ∙ ap s i))

      go : In r.core (c ∷ p) ⊎ (In r.core (c ∷ p) → ⊥) → Running n e s' t
      go (inl i) = on (in_front_or_last c p i)
      go (inr i) = record { real = r.real; core = r.core; below = r.below; sits = k.off r.core i ∙ r.sits }

-- ---- the seating stays legal

module _ {n e : ℕ} {may : ℕ → ℕ → Bool} {R : ℕ → Type 0} {s s' : ℕ → ℕ} {x c : ℕ} (L : Legal n e may R s) (real : x ≢ e) (rx : R x)
    (ok : May n may x c) (out : Running n e s x → ⊥) (first : s' c ≡ x) (off : (a : ℕ) → a ≢ c → s' a ≡ s a) where
  pub put_legal : Legal n e may R s'
  put_legal = record {
    ready = λ a l k. ready' a l k (ℕ_discrete a c);
    allowed = λ a l k. allowed' a l k (ℕ_discrete a c);
    once = λ a b l m k q. once' a b l m k q (ℕ_discrete a c) (ℕ_discrete b c);
  }
    where
      ready' : (a : ℕ) → a < n → s' a ≢ e → Dec (a ≡ c) → R (s' a)
      ready' a l k (yes q) = rw (q, first) rx
      ready' a l k (no q) = rw (off a q) (L.ready a l (rw (off a q) at k))

      allowed' : (a : ℕ) → a < n → s' a ≢ e → Dec (a ≡ c) → may (s' a) a ≡ true
      allowed' a l k (yes q) = rw (q, first) ok.1
      allowed' a l k (no q) = rw (off a q) (L.allowed a l (rw (off a q) at k))

      once' : (a b : ℕ) → a < n → b < n → s' a ≢ e → s' a ≡ s' b → Dec (a ≡ c) → Dec (b ≡ c) → a ≡ b
      once' a b l m k q (yes i) (yes j) = cc
      once' a b l m k q (yes i) (no j) = let o = off b j in absurd (out (record { real = real; core = b; below = m; sits = cc }))
      once' a b l m k q (no i) (yes j) = let o = off a i in absurd (out (record { real = real; core = a; below = l; sits = cc }))
      once' a b l m k q (no i) (no j) = let o = off a i in let o' = off b j in L.once a b l m (rw o at k) (cc)

pub took_legal : {n e : ℕ} {may : ℕ → ℕ → Bool} {R : ℕ → Type 0} {s s' : ℕ → ℕ} {x c : ℕ} {p : List ℕ}
    → Legal n e may R s → x ≢ e → R x → (Running n e s x → ⊥) → Took n e may s s' x c p → Legal n e may R s'
took_legal {s = s} {p = []} L real rx out k = put_legal L real rx k.chain.start out k.first (λ a q. k.off a (λ i. elim i [ inl j ↦ q j | inr j ↦ j ]))
took_legal {n} {e} {may} {R} {s} {s'} {x} {c} {p = d ∷ p} L real rx out k =
    let q = k.chain.links.0 in
    let l = k.chain.start.0 in
    took_legal {s = upd s c x} {p = p} (put_legal L real rx k.chain.start out (upd_same s c x) (λ a h. upd_other s c x h)) q (L.ready c l q) gone (took_tail k)
  where
    gone : Running n e (upd s c x) (s c) → ⊥
    gone r = go (ℕ_discrete r.core c)
      where
        go : Dec (r.core ≡ c) → ⊥
        go (yes j) = out (record { real = real; core = c; below = k.chain.start.0; sits = sym r.sits ∙ ap (upd s c x) j ∙ upd_same s c x })
        go (no j) = j (sym (L.once c r.core k.chain.start.0 r.below k.chain.links.0 (sym r.sits ∙ upd_other s c x j)))
