-- Lines as a text: what they are read as where they are written.
use Rattle.std.specs.Prelude.{◌≡◌, true, List, [], ◌∷◌, Ok}
use Rattle.asm86_line_types.specs.declared.line.Stmt86.{Stmt86}
use Rattle.asm86_line_types.specs.declared.line.Line86.{Line86}
use Rattle.asm86_line_types.specs.Image.{Assembles, statements}
use Rattle.asm86_line_types.specs.Written.{written_text}
use Rattle.asm86_line_reader.specs.Forms.{names_labels}
use Rattle.asm86_line_reader.specs.ReadBack.{has_line}
use Rattle.asm86.specs.Stream.{has_end, TextGives}
use Rattle.templates.specs.Plain.{numbered_from}

-- each statement has a written line
abbrev pub HaveLines : List Stmt86 → Type 0
HaveLines [] = Unit {0}
HaveLines (x ∷ xs) = (has_line x ≡ true) × HaveLines xs

-- no statement is a jump or a call with a displacement, which has no written line
abbrev pub NameLabels : List Stmt86 → Type 0
NameLabels [] = Unit {0}
NameLabels (x ∷ xs) = (names_labels x ≡ true) × NameLabels xs

-- lines that are written as a text: each has a written line, they have an image, and END stands among them, which is the last then
pub record IsWritable (lines : List Line86) : Type 0 where
  pub written : HaveLines (statements lines)
  pub assembles : Assembles lines
  pub has_end : has_end lines ≡ true

-- the text of lines is read as their statements, numbered from 1
abbrev pub ReadsBack : List Line86 → Type 0
ReadsBack lines = TextGives (written_text lines) (Ok (numbered_from 1 (statements lines)))
