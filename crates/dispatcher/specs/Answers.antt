-- Document 01, "Refusal numbers", and document 02, request 3: the number of each answer, and the place that it carries.
use Rattle.std.specs.Prelude.{ℕ, List, [], ◌∷◌, Result, Ok, Err, ⊤}
use Rattle.dispatcher.specs.declared.Refusal.{Refusal}
use Rattle.dispatcher.specs.declared.Refusal.TheVariants.{UnsoundCount, UnsoundSlot, UnsoundPlace, UnsoundMissingCore, UnsoundSeat, CoreCount, SlotAbove, SlotInUse, SlotEmpty, PriorityZero, MaskEmpty, MissingCore, AlreadyReady, NotReady, FileShort, BytesAfter, BadKind, LineLong, EventCount}

-- done, or why not
abbrev pub Answer : Type 0
Answer = Result ⊤ Refusal

abbrev pub refusal_number : Refusal → ℕ
refusal_number (UnsoundCount p) = 21
refusal_number (UnsoundSlot p) = 22
refusal_number (UnsoundPlace p) = 23
refusal_number (UnsoundMissingCore p) = 24
refusal_number (UnsoundSeat p) = 25
refusal_number CoreCount = 2
refusal_number SlotAbove = 3
refusal_number SlotInUse = 4
refusal_number SlotEmpty = 5
refusal_number PriorityZero = 6
refusal_number MaskEmpty = 7
refusal_number MissingCore = 8
refusal_number AlreadyReady = 9
refusal_number NotReady = 10
refusal_number FileShort = 12
refusal_number BytesAfter = 13
refusal_number BadKind = 14
refusal_number LineLong = 15
refusal_number EventCount = 16

-- 0 is no refusal's
abbrev pub number_of : Answer → ℕ
number_of (Ok done) = 0
number_of (Err r) = refusal_number r

-- what a refusal says of an unsound dispatcher: the count found, or the lowest slot, place or core; 0 where it says nothing of one
abbrev pub refusal_place : Refusal → ℕ
refusal_place (UnsoundCount p) = p
refusal_place (UnsoundSlot p) = p
refusal_place (UnsoundPlace p) = p
refusal_place (UnsoundMissingCore p) = p
refusal_place (UnsoundSeat p) = p
refusal_place r = 0

abbrev pub place_of : Answer → ℕ
place_of (Ok done) = 0
place_of (Err r) = refusal_place r

-- numbers that are no answer's any more and stay unused: 1, for a dispatcher that is not sound, and 11, for delete of a task that was still ready
abbrev pub unused_numbers : List ℕ
unused_numbers = 1 ∷ 11 ∷ []
