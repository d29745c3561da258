-- The text that a program is translated to, by its mode, and when there is none.
use Rattle.std.specs.Prelude.{◌≡◌, ◌<◌, ◌≤◌, ℕ, List}
use Rattle.asm86_line_types.specs.declared.line.Line86.{Line86}
use Rattle.asm86_line_types.specs.Layout.{sizes_of}
use Rattle.asm86_line_types.specs.Image.{statements}
use Rattle.asm80_types.specs.Program.{Program}
use Rattle.templates.specs.Plain.{plain}
use Rattle.templates.specs.Lean.{IsLean}
use Rattle.templates.specs.declared.translation.CoreFault.{CoreFault}
use Rattle.templates.specs.declared.translation.CoreFault.TheVariants.{CodeTooLarge, Memory}
use Rattle.templates.specs.declared.translation.Mode.{Mode}
use Rattle.templates.specs.declared.translation.Mode.TheVariants.{Plain, Lean}

-- lines are the text of a program in a mode
abbrev pub IsText : Mode → Program → List Line86 → Type 0
IsText Plain p lines = lines ≡ plain p
IsText Lean p lines = IsLean p lines

-- the number of bytes of the code of lines
abbrev pub code_size : List Line86 → ℕ
code_size lines = sizes_of (statements lines)

-- the code has at most 65,535 bytes
abbrev pub CodeFits : List Line86 → Type 0
CodeFits lines = code_size lines < 0x10000

-- the code of a program's text in a mode has so many bytes, more than 65,535
pub record IsTooLarge (mode : Mode) (p : Program) (size : ℕ) : Type 0 where
  pub lines : List Line86
  pub text : IsText mode p lines
  pub large : 0x10000 ≤ size
  pub is : size ≡ code_size lines

-- a program has no text in a mode: its code is too large; want of memory has no cause
abbrev pub HasNoText : Mode → Program → CoreFault → Type 0
HasNoText mode p (CodeTooLarge n) = IsTooLarge mode p n
HasNoText mode p Memory = Unit {0}
