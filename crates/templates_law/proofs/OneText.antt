-- A program has one text in a mode: what the clause `one` of `own_texts_are_same` says.
use Rattle.std.specs.Prelude.{◌≡◌, List}
use Rattle.asm80_types.specs.Program.{Program}
use Rattle.asm86_line_types.specs.declared.line.Line86.{Line86}
use Rattle.templates.specs.declared.translation.Mode.{Mode}
use Rattle.templates.specs.Translation.{IsText}

abbrev pub OneText : Type 0
OneText = (mode : Mode) (p : Program) (xs ys : List Line86) → IsText mode p xs → IsText mode p ys → xs ≡ ys
