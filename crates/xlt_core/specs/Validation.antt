-- What it means that a text is shown.
use Rattle.std.specs.Prelude.{ℕ, List}
use Rattle.asm86_line_types.specs.declared.line.Line86.{Line86}
use Rattle.asm86_line_types.specs.Image.{Assembles, image_of, statements}
use Rattle.asm80_types.specs.Program.{Program, IsProgram}
use Rattle.sym_block_def.specs.Sorts.{StatementsAreCoded}
use Rattle.simulation_def.specs.Matches.{DataAreCoded}
use Rattle.templates_law.specs.Names.{Same}
use Rattle.text_check.specs.declared.finding.Finding.TheVariants.{Shown}
use Rattle.text_check.specs.Findings.{IsFinding}

-- lines that are found to be shown, with numbers in their ranges, mean the same as the program
abbrev pub ShownIsSame : Type 0
ShownIsSame =
    (p : Program) (lines : List Line86) (count : ℕ) →
    IsProgram p →
    Assembles lines →
    StatementsAreCoded (statements lines) →
    DataAreCoded (statements lines) →
    IsFinding p lines (Shown count) →
    Same p (image_of lines)
