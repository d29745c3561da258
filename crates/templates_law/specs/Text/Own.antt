-- What is true of a text that was written for a program, whatever the size of its code.
use Rattle.std.specs.Prelude.{List, Ok}
use Rattle.asm86_line_types.specs.declared.line.Line86.{Line86}
use Rattle.asm86_line_types.specs.Image.{statements}
use Rattle.asm86_line_types.specs.Written.{written_text}
use Rattle.asm80_types.specs.Program.{Program}
use Rattle.asm86.specs.Stream.{TextGives}
use Rattle.sym_block_def.specs.Sorts.{StatementsAreCoded}
use Rattle.simulation_def.specs.Runtime.{HasRuntime}
use Rattle.simulation_def.specs.Matches.{HasOpening, DataStands, DataAreCoded}

-- it reads back as its lines; its numbers are in their ranges; and it has the opening, the runtime and the data of its program
pub record IsOwnText (p : Program) (lines : List Line86) : Type 0 where
  pub reads_back : TextGives (written_text lines) (Ok lines)
  pub coded : StatementsAreCoded (statements lines)
  pub data_coded : DataAreCoded (statements lines)
  pub opening : HasOpening p (statements lines)
  pub runtime : HasRuntime (statements lines)
  pub data_stand : DataStands p lines
