-- What stands at the front of bytes that a reader takes piece by piece: a line with its LF, or one byte; and what is left of them.
use Rattle.std.proofs.Common.{◌≡◌, ℕ, ◌<◌, ◌+◌, ◌-◌, List, [], ◌∷◌, ◌++◌, take, drop, get_or, length, refl, sym, ap, ◌∙◌, arith}
use Rattle.std.proofs.lemmas.List.{take_all, take_more, take-append-drop, length-drop}

pub line_front : (bytes : List ℕ) (k : ℕ) → k < length bytes → get_or bytes k 0 ≡ 10 → bytes ≡ (take k bytes ++ 10 ∷ []) ++ drop (k + 1) bytes
line_front bytes k lt e =
    sym (take-append-drop (k + 1) bytes) ∙ ap (λ (t : List ℕ). t ++ drop (k + 1) bytes) (take_more bytes k 0 lt ∙ ap (λ (x : ℕ). take k bytes ++ x ∷ []) e)

pub byte_front : (bytes : List ℕ) → 0 < length bytes → bytes ≡ (get_or bytes 0 0 ∷ []) ++ drop 1 bytes
byte_front [] lt = absurd (omega arith)
byte_front (b ∷ bytes) lt = refl

pub rest_of : (bytes : List ℕ) (k : ℕ) → take (length bytes - k) (drop k bytes) ≡ drop k bytes
rest_of bytes k = take_all (length bytes - k) (drop k bytes) (omega (arith, length-drop k bytes))
