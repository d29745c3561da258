-- What is said of a made source: how many lines it has, what its program has, and what the lean text of that has.
use Rattle.std.specs.Prelude.{◌≡◌, ℕ, codes, List, ◌++◌, length, count_by}
use Rattle.std.specs.Fmt.{decimal}
use Rattle.asm86_line_types.specs.declared.line.Line86.{Line86}
use Rattle.asm80_types.specs.Program.{Program}
use Rattle.asm80_text.specs.Intel.{intel_reading}
use Rattle.asm80_source_def.specs.Source.{IsSource}
use Rattle.templates.specs.declared.translation.Mode.TheVariants.{Lean}
use Rattle.templates.specs.Translation.{IsText, code_size, CodeFits}
use Rattle.cmd_lists.specs.declared.savings.Saving.{Saving}
use Rattle.cmd_lists.specs.Saves.{sums, saves_any, AreSavings}
use Rattle.cmd_sample.specs.Sample.{sample_lines, sample_text}

-- the top of the program area that a made source is for, which is the top of a command without another
abbrev pub sample_top : ℕ
sample_top = 0xF000

-- how much there is of what a made source has
pub record SampleCounts : Type 0 where
  pub routines : ℕ
  pub lines : ℕ
  pub instructions : ℕ
  pub cells : ℕ
  pub code : ℕ
  pub saved : ℕ
  pub sums : ℕ

-- what the source has, what its program has, and what the lean text has
abbrev pub source_part : SampleCounts → List ℕ
source_part n = codes "sample " ++ (decimal n.routines ++ (codes ": " ++ (decimal n.lines ++ codes " lines, ")))

abbrev pub program_part : SampleCounts → List ℕ
program_part n = decimal n.instructions ++ (codes " instructions, " ++ (decimal n.cells ++ codes " data bytes, "))

abbrev pub text_part : SampleCounts → List ℕ
text_part n = decimal n.code ++ (codes " code bytes, saves " ++ (decimal n.saved ++ (codes " of " ++ (decimal n.sums ++ codes "\n"))))

abbrev pub sample_line : SampleCounts → List ℕ
sample_line n = source_part n ++ (program_part n ++ text_part n)

-- the made source of so many routines is the source of a program; this is the lean text of the program, whose code fits; and of its
-- INX, DCX and DAD these are what they have to save
pub record IsSampleMade (K : ℕ) (program : Program) (lines : List Line86) (saved : List Saving) : Type 0 where
  pub source : IsSource intel_reading (sample_text K) sample_top program
  pub text : IsText Lean program lines
  pub fits : CodeFits lines
  pub savings : AreSavings program (sums program) saved

abbrev pub counts_of : ℕ → Program → List Line86 → List Saving → SampleCounts
counts_of K program lines savings = record {
  routines = K;
  lines = length (sample_lines K);
  instructions = length program.instrs;
  cells = length program.cells;
  code = code_size lines;
  saved = count_by (λ (s : Saving). saves_any s.keep) savings;
  sums = length savings;
}

-- the line that is said of it
pub record IsSampleLine (K : ℕ) (line : List ℕ) : Type 0 where
  pub program : Program
  pub lines : List Line86
  pub saved : List Saving
  pub made : IsSampleMade K program lines saved
  pub is : line ≡ sample_line (counts_of K program lines saved)
