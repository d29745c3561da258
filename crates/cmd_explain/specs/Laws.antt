-- A law of explanations.
use Rattle.std.specs.Prelude.{◌≡◌, ℕ, List}
use Rattle.asm80_types.specs.Program.{Program}
use Rattle.asm86_line_types.specs.declared.line.Line86.{Line86}
use Rattle.asm86_line_types.specs.Image.{Image}
use Rattle.cmd_explain.specs.Explained.{Explained}

-- of a program and a text one thing is said
abbrev pub TextsAreExplainedOnce : Type 0
TextsAreExplainedOnce = (p : Program) (lines : List Line86) (image : Image) (s t : List ℕ) → Explained p lines image s → Explained p lines image t → s ≡ t
