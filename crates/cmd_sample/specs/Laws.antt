-- The made source is lines of the assembler and a program, and the code of its lean text fits.
use Rattle.std.specs.Prelude.{◌≡◌, ℕ, ◌<◌, ◌≤◌, List, None}
use Rattle.asm80_text.specs.Intel.{intel_reading}
use Rattle.asm80_types.specs.Program.{Program}
use Rattle.asm80_source_def.specs.Assembly.{refusal, IsAssembled}
use Rattle.asm86_line_types.specs.declared.line.Line86.{Line86}
use Rattle.asm86_line_types.specs.Layout.{sizes_of}
use Rattle.asm86_line_types.specs.Image.{statements}
use Rattle.templates.specs.Lean.{IsLean}
use Rattle.cmd_sample.specs.Sample.{sample_text, sample_statements}

-- Its text is read as its statements.
abbrev pub SampleIsRead : Type 0
SampleIsRead = (K : ℕ) → K ≤ 500 → intel_reading (sample_text K) (sample_statements K) None

-- Its statements break no rule, where there are from 1 to 500 routines and the program area has the top 0F000H.
abbrev pub SampleIsAccepted : Type 0
SampleIsAccepted = (K : ℕ) → 1 ≤ K → K ≤ 500 → refusal (sample_statements K) 0xF000 ≡ None

-- So they are a program.
abbrev pub SampleIsProgram : Type 0
SampleIsProgram = (K : ℕ) → 1 ≤ K → K ≤ 500 → (p : Program) × IsAssembled (sample_statements K) 0xF000 p

-- The code of its lean text has at most 65,535 bytes.
abbrev pub SampleCodeFits : Type 0
SampleCodeFits =
    (K : ℕ) → 1 ≤ K → K ≤ 500 → (p : Program) → IsAssembled (sample_statements K) 0xF000 p → (lines : List Line86) → IsLean p lines
    → sizes_of (statements lines) < 0x10000
