-- The line of a refusal: its pieces one after the other, and how long it is.
use Rattle.std.proofs.Common.{ℕ, ◌+◌, ◌^◌, ◌≤◌, ◌<◌, ◌≡◌, List, [], ◌∷◌, ◌++◌, length, append_assoc, append-nil, length-append, arith}
use Rattle.texts.specs.Joined.{newline, space}
use Rattle.decimals.specs.Decimal.{decimal}
use Rattle.decimals.specs.Fault.{refused_word, at_word, fault_text}
use Rattle.decimals.proofs.Spelling.{decimal_length}

pub fault_pieces : (n offset : ℕ) → fault_text n offset ≡ refused_word ++ ((space ∷ decimal n) ++ ((space ∷ at_word) ++ ((space ∷ decimal offset) ++ (newline ∷ []))))
unfolding fault_text
fault_pieces n offset = simp (append_assoc, append-nil)

-- the pieces, put one after the other behind a text
pub fault_put : (text : List ℕ) {t1 t2 t3 t4 all : List ℕ} (n offset : ℕ) → t1 ≡ text ++ (refused_word ++ space ∷ []) → t2 ≡ t1 ++ decimal n
    → t3 ≡ t2 ++ (space ∷ at_word ++ space ∷ []) → t4 ≡ t3 ++ decimal offset → all ≡ t4 ++ newline ∷ [] → all ≡ text ++ fault_text n offset
fault_put text n offset a b c d e = rw (fault_pieces n offset) (simp (e, d, c, b, a, append_assoc))

pub fault_length : (n offset : ℕ) → length (fault_text n offset) ≡ 13 + (length (decimal n) + length (decimal offset))
fault_length n offset = rw (fault_pieces n offset) (simp length-append (omega arith))

pub fault_longest : (n offset : ℕ) → n < 2 ^ 8 → offset < 2 ^ 64 → length (fault_text n offset) ≤ 36
fault_longest n offset a b = omega (arith, fault_length n offset, decimal_length 3 n (omega arith) (omega arith), decimal_length 20 offset (omega arith) (omega arith))
