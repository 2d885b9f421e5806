-- A read behind the bytes that are filled already.
use Prim.Native.Nat.{ℕ, ◌+◌, ◌≤◌}
use mathlib.Core.Path.{◌≡◌, ap, ◌∙◌, sym, subst}
use mathlib.Core.List.{List, ◌++◌}
use lib.ListN.{length, take, drop}
use lib.Seq.{take-add, take-append-le, length-take-le}
use borrow.Rule.Slice.PartMut.{put_mid, post_of}
use Rattle.std.proofs.Common.{drop_at, le_refl}
use Rattle.std.proofs.KnownBytes.{Consumes-trans}
use Rattle.std.proofs.lemmas.Slice.{take-put_mid_below}
use Rattle.std.specs.Prelude.{Option}
use Rattle.std.specs.Io.KnownBytes.{Consumes}

-- what was read into the part behind n bytes follows them
follows : (n k more : ℕ) (bytes part : List ℕ) → n ≤ length bytes → more ≤ length part → take (n + more) (put_mid n k bytes part) ≡ take n bytes ++ take more part
follows n k more bytes part within fits =
    let after = post_of n k bytes in
    take-add n more (put_mid n k bytes part)
    ∙ ap (λ l. l ++ take more (drop n (put_mid n k bytes part))) (take-put_mid_below _ _ _ _ n (le_refl n) within)
    ∙ ap (λ l. take n bytes ++ take more l) (drop_at (take n bytes) (part ++ after) n (length-take-le n bytes within))
    ∙ ap (λ l. take n bytes ++ l) (take-append-le more part after fits)

pub filled_more : (a b c : Option (List ℕ)) (n k more : ℕ) (bytes part : List ℕ) → n ≤ length bytes → more ≤ length part
    → Consumes a b (take n bytes) → Consumes b c (take more part) → Consumes a c (take (n + more) (put_mid n k bytes part))
filled_more a b c n k more bytes part within fits before read =
    subst (Consumes a c) (sym (follows n k more bytes part within fits)) (Consumes-trans a b c _ _ before read)
