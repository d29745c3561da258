-- What a commented text is read as.
use Rattle.std.specs.Prelude.{◌≡◌, ℕ, ◌<◌, List, [], ◌∷◌, Ok}
use Rattle.asm86_line_types.specs.declared.line.Line86.{Line86}
use Rattle.asm86_line_types.specs.Image.{statements}
use Rattle.asm86.specs.Stream.{TextGives}

-- the numbers of lines rise: each is greater than the one before it, and the first is greater than a number
abbrev pub Rises : ℕ → List Line86 → Type 0
Rises n [] = Unit {0}
Rises n (x ∷ xs) = (n < x.line) × Rises x.line xs

-- A text is read as the statements of some lines, in the same order. The numbers of its own lines rise, since each statement, a label too,
-- is written on a line of its own, and a comment gives no statement.
pub record ReadsAs (lines : List Line86) (text : List ℕ) : Type 0 where
  pub read : List Line86
  pub gives : TextGives text (Ok read)
  pub same : statements read ≡ statements lines
  pub rises : Rises 0 read
