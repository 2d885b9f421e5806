-- Any two results that a handing over allows are the same, bytes too.
use Rattle.std.proofs.Common.{◌≡◌, refl, sym, ap, ◌∙◌, List, ℕ, rules}
use Rattle.std.specs.Prelude.{Option, Some, None}
use Rattle.texts.specs.HandOver.{HandsOver}

pub hands_over_same : {text before after after' : List ℕ} {r q : Option ℕ} → HandsOver text before after r → HandsOver text before after' q → (r ≡ q) × (after ≡ after')
hands_over_same {r = None} {q = None} a b = (refl, a.kept ∙ sym b.kept)
hands_over_same {r = Some n} {q = Some m} a b = (ap Some (a.length_told ∙ sym b.length_told), a.written ∙ sym b.written)
hands_over_same {r = None} {q = Some m} a b = absurd (search rules)
hands_over_same {r = Some n} {q = None} a b = absurd (search rules)
