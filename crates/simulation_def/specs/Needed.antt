-- The parts that are kept by what is needed.
use Rattle.std.specs.Prelude.{cond, is_some}
use Rattle.cells.specs.Parts.{nothing}
use Rattle.asm80_types.specs.Program.{Program}
use Rattle.flow.specs.Blocks.{block_at}
use Rattle.flow.specs.Solving.{Needs}
use Rattle.sym_block_def.specs.BlockMatch.{Keeps}

-- what is needed at the first address of each block, no part at any other place, and what is needed at a return
abbrev pub needed_by : Program → Needs → Keeps
needed_by p n = record { at = λ a. cond (is_some (block_at p a)) (n.at a) nothing; returned = n.returned }
