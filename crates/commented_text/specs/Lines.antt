-- The lines of bytes, from the front on.
use Rattle.std.specs.Prelude.{ℕ, ◌==◌, not, cond, List, [], ◌∷◌, take}
use Rattle.std.specs.List.{prefix_len}
use Rattle.base.specs.Cut.{without_cr, last_line}

-- how many bytes stand before the byte 1AH, and how many before an LF
abbrev pub source_len : List ℕ → ℕ
source_len bytes = prefix_len (λ (b : ℕ). not (b == 26)) bytes

abbrev pub line_len : List ℕ → ℕ
line_len bytes = prefix_len (λ (b : ℕ). not (b == 10)) bytes

-- bytes, cut at each LF: what each of them ends, and last what none does
abbrev pub with_byte : ℕ → List (List ℕ) → List (List ℕ)
with_byte b [] = (b ∷ []) ∷ []
with_byte b (part ∷ parts) = (b ∷ part) ∷ parts

abbrev pub parts_of : List ℕ → List (List ℕ)
parts_of [] = [] ∷ []
parts_of (b ∷ bytes) = cond (b == 10) ([] ∷ parts_of bytes) (with_byte b (parts_of bytes))

-- the lines of such parts, and of bytes
abbrev pub lines_of_parts : List (List ℕ) → List (List ℕ)
lines_of_parts [] = []
lines_of_parts (part ∷ []) = last_line part
lines_of_parts (part ∷ (next ∷ parts)) = without_cr part ∷ lines_of_parts (next ∷ parts)

abbrev pub lines_of : List ℕ → List (List ℕ)
lines_of bytes = lines_of_parts (parts_of bytes)

-- the lines of a source
abbrev pub lines_of_source : List ℕ → List (List ℕ)
lines_of_source bytes = lines_of (take (source_len bytes) bytes)
