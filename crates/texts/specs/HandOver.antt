-- A text handed over to a lent buffer, all of it or none.
use Rattle.std.specs.Prelude.{ℕ, ◌≤◌, ◌≡◌, ◌↔◌, List, ◌++◌, length, drop, Option, IsSome, IfSome, IfNone}

-- it stands at the buffer's start, no other byte changes, and its length is told; where it is longer than the buffer, no byte changes
pub record HandsOver (text before after : List ℕ) (r : Option ℕ) : Type 0 where
  pub room : IsSome r ↔ (length text ≤ length before)
  pub length_told : IfSome r (λ n. n ≡ length text)
  pub written : IfSome r (λ _. after ≡ text ++ drop (length text) before)
  pub kept : IfNone r (after ≡ before)
