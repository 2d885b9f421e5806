-- A test decides a claim: it is true where the claim holds and false where it does not.
use Rattle.std.specs.Prelude.{◌≡◌, Bool, true, false}

pub record Decides (P : Type 0) (b : Bool) : Type 0 where
  pub yes : b ≡ true → P
  pub no : b ≡ false → P → ⊥
