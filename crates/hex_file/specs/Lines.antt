-- The lines of a file. LF ends a line, and a CR before it is no part of the line; the last line needs no LF.
use Rattle.std.specs.Prelude.{◌≡◌, ◌≢◌, ℕ, ◌<◌, List, ◌∷◌, ◌++◌, length, map}
use Rattle.base.specs.Cut.{Cut, without_cr, last_line}

-- a byte of a line
abbrev pub IsNotLf : ℕ → Type 0
IsNotLf b = b ≢ 10

pub record AreLines (bytes : List ℕ) (lines : List (List ℕ)) : Type 0 where
  pub raw : List (List ℕ)
  pub rest : List ℕ
  pub cut : Cut IsNotLf bytes raw rest
  pub lines_are : lines ≡ map without_cr raw ++ last_line rest

-- a text is not empty: its first line, and the text after it
pub record FirstLine (text line rest : List ℕ) : Type 0 where
  pub goes_on : (lines : List (List ℕ)) → AreLines rest lines → AreLines text (line ∷ lines)
  pub shorter : length rest < length text
