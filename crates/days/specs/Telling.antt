-- A day's text as a closure is told it, piece by piece.
use Rattle.std.specs.Prelude.{ℕ, List, ◌++◌, Result, Ok, Err, ⊤}
use Rattle.std.specs.Fn.{Mut, CalledAt}
use Rattle.std.specs.List.{FoldsTo, concat}
use denote.Ref.{Bor}
use Rattle.dispatcher.specs.Fresh.{Freshly}
use Rattle.dispatcher.specs.declared.Dispatcher.{Dispatcher}
use Rattle.dispatcher.specs.declared.Outcome.{Outcome}
use Rattle.files.specs.Layout.{core_count}
use Rattle.days.specs.Replay.{Prints, DayText}

module _ {F E : Type 0} (calls : Mut F (Bor (List ℕ) × Unit {0}) (Result ⊤ E)) where
  -- f was called at each piece in turn, and each time it went well
  abbrev pub Hears : F → List (List ℕ) → F → Type 0
  Hears f pieces last = FoldsTo (λ p piece q. CalledAt calls p piece (Ok tt) q) f pieces last

  -- the pieces are the day's text
  pub record HearsDay (f : F) (b : List ℕ) : Type 0 where
    pub pieces : List (List ℕ)
    pub last : F
    pub hears : Hears f pieces last
    pub text : DayText b (concat pieces)

  -- at a piece it failed so; what it was told, that piece too, is the start of the day's text
  pub record Fails (f : F) (b : List ℕ) (e : E) : Type 0 where
    pub pieces : List (List ℕ)
    pub before : F
    pub hears : Hears f pieces before
    pub piece : List ℕ
    pub after : F
    pub failed : CalledAt calls before piece (Err e) after
    pub fresh : Outcome
    pub freshly : Freshly (core_count b) fresh
    pub made : ℕ
    pub dispatcher : Dispatcher
    pub prints : Prints b 0 fresh.dispatcher made dispatcher (concat pieces ++ piece)
