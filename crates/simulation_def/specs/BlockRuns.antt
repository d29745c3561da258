-- The blocks of a program's graph as blocks to be run.
use Rattle.std.specs.Prelude.{ℕ}
use Rattle.asm80_types.specs.Program.{Program, IsProgram}
use Rattle.flow.specs.Blocks.{IsBlockOf}
use Rattle.sym_block_def.specs.Block80.{MayRun}

-- each block has 1 to 16 instructions from its leader on, of which the last alone may end it
abbrev pub BlocksMayRun : Type 0
BlocksMayRun = (p : Program) → IsProgram p → (a n : ℕ) → IsBlockOf p a n → MayRun p a n
