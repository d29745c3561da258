-- Laws of what is left of a text.
use Rattle.std.specs.Prelude.{◌≡◌, ◌≤◌, ℕ, List, [], ◌∷◌, length}
use Rattle.asm86_line_types.specs.declared.line.Line86.{Line86}
use Rattle.asm86_line_types.specs.Layout.{sizes_of}
use Rattle.asm86_line_types.specs.Image.{statements, Assembles}
use Rattle.asm80_types.specs.Program.{Program}
use Rattle.flow.specs.Solving.{Needs, AreAllNeeds}
use Rattle.text_check.specs.declared.finding.Finding.TheVariants.{Shown}
use Rattle.text_check.specs.Findings.{IsFinding}
use Rattle.shrink.specs.Shrunk.{MatchesBlocks, IsShrunk}
use Rattle.shrink.specs.Written.{IsWritable}

-- the first lines are among the second, in their order
pub data IsSublist : List Line86 → List Line86 → Type 0 where
  nothing : IsSublist [] []
  leaves : {xs ys : List Line86} {y : Line86} → IsSublist xs ys → IsSublist xs (y ∷ ys)
  takes : {xs ys : List Line86} {x : Line86} → IsSublist xs ys → IsSublist (x ∷ xs) (x ∷ ys)

-- what is true of the lines that are left: they are among the lines that there were, are no more, and have no more code; they have an
-- image, may be written, match the program and are shown where those do
pub record IsLeftOf (p : Program) (lines left : List Line86) : Type 0 where
  pub among : IsSublist left lines
  pub fewer : length left ≤ length lines
  pub shorter : sizes_of (statements left) ≤ sizes_of (statements lines)
  pub assembles : Assembles lines → Assembles left
  pub writable : IsWritable lines → IsWritable left
  pub matches : (n : Needs) → AreAllNeeds p n → MatchesBlocks p n lines → MatchesBlocks p n left
  pub shown : (count : ℕ) → IsFinding p lines (Shown count) → IsFinding p left (Shown count)

abbrev pub ShrunkIsLeft : Type 0
ShrunkIsLeft = (p : Program) (lines left : List Line86) → IsShrunk p lines left → IsLeftOf p lines left

-- one list is left
abbrev pub OneShrunk : Type 0
OneShrunk = (p : Program) (lines a b : List Line86) → IsShrunk p lines a → IsShrunk p lines b → a ≡ b
