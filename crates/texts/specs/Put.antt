-- A text that is put into bytes at a place: no other byte changes.
use Rattle.std.specs.Prelude.{ℕ, ◌+◌, ◌≡◌, List, ◌++◌, length, take, drop}

unfoldable pub put_at : List ℕ → ℕ → List ℕ → List ℕ
put_at bytes at t = take at bytes ++ (t ++ drop (at + length t) bytes)

-- r is the place after the text
pub record Puts (t : List ℕ) (at : ℕ) (before after : List ℕ) (r : ℕ) : Type 0 where
  pub bytes : after ≡ put_at before at t
  pub next : r ≡ at + length t
