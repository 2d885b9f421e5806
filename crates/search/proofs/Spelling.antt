-- A chain's cores in an array: how one more is written.
use Rattle.std.proofs.Common.{ℕ, suc, ◌+◌, ◌-◌, ◌<◌, ◌≡◌, refl, sym, ap, ◌∙◌, List, [], ◌∷◌, ◌++◌, append_assoc, arith, length, take, replicate, set, length-append}
use Rattle.std.proofs.Math.Seq.{take-append_seam, set-append_seam}
use Rattle.masks.specs.Masks.{width}
use Rattle.search.specs.Taken.{spelt, Spelled}

spelt_next : (q : List ℕ) (v : ℕ) → length q < width → set (spelt q) (length q) v ≡ spelt (q ++ v ∷ [])
spelt_next q v l = rw (room, size) (set-append_seam q 0 (replicate (width - (length q + 1)) 0) v ∙ sym (append_assoc q (v ∷ []) (replicate (width - (length q + 1)) 0)))
  where
    room : width - length q ≡ suc (width - (length q + 1))
    room = omega arith

    size : length (q ++ v ∷ []) ≡ length q + 1
    size = length-append q (v ∷ [])

module _ {cores : List ℕ} {len : ℕ} (S : Spelled cores len) (v : ℕ) (l : len < width) where
  next : set cores len v ≡ spelt (take len cores ++ v ∷ [])
  next = ap (λ (c : List ℕ). set c len v) S.spare ∙ ap (λ (k : ℕ). set (spelt (take len cores)) k v) (sym S.size) ∙ spelt_next (take len cores) v (omega (arith, S.size))

  more : len + 1 ≡ length (take len cores ++ v ∷ [])
  more = omega (arith, S.size, length-append (take len cores) (v ∷ []))

  pub spelled_cores : take (len + 1) (set cores len v) ≡ take len cores ++ v ∷ []
  spelled_cores = rw (next, more) (take-append_seam (take len cores ++ v ∷ []) (replicate (width - length (take len cores ++ v ∷ [])) 0))

  pub spelled_next : Spelled (set cores len v) (len + 1)
  spelled_next = record { fits = omega arith; size = ap length spelled_cores ∙ sym more; spare = next ∙ ap spelt (sym spelled_cores) }

pub spelled_start : Spelled (replicate width 0) 0
spelled_start = record { fits = omega arith; size = refl; spare = refl }
