-- What is left of a text from which each instruction is left out that its check does without.
use Rattle.std.specs.Prelude.{◌≡◌, true, List, [], ◌∷◌, ◌++◌}
use Rattle.asm86_line_types.specs.declared.line.Line86.{Line86}
use Rattle.asm80_types.specs.Program.{Program}
use Rattle.flow.specs.Blocks.{blocks}
use Rattle.flow.specs.Solving.{Needs, AreAllNeeds}
use Rattle.simulation_def.specs.Matches.{Matches}
use Rattle.simulation_def.specs.Needed.{needed_by}
use Rattle.shrink.specs.Candidates.{is_candidate}

-- What is left of lines that stand after others, by what lists of lines are right. The lines are gone through from the last to the
-- first. A candidate is left out where the list without it is right, of what is left after it; every other line stays as it is.
pub data Shrinks (IsRight : List Line86 → Type 0) : List Line86 → List Line86 → List Line86 → Type 0 where
  none : {before : List Line86} → Shrinks IsRight before [] []
  left_out : {before lines left : List Line86} {x : Line86} → Shrinks IsRight (before ++ x ∷ []) lines left → is_candidate x.stmt ≡ true → IsRight (before ++ left) → Shrinks IsRight before (x ∷ lines) left
  kept : {before lines left : List Line86} {x : Line86} → Shrinks IsRight (before ++ x ∷ []) lines left → (is_candidate x.stmt ≡ true → IsRight (before ++ left) → ⊥) → Shrinks IsRight before (x ∷ lines) (x ∷ left)

-- lines match a program block by block, with what is needed kept
abbrev pub MatchesBlocks : Program → Needs → List Line86 → Type 0
MatchesBlocks p n lines = Matches p lines (blocks p) (needed_by p n)

-- what is left of the lines of a text for a program
pub record IsShrunk (p : Program) (lines left : List Line86) : Type 0 where
  pub needs : Needs
  pub are : AreAllNeeds p needs
  pub shrinks : Shrinks (MatchesBlocks p needs) [] lines left
