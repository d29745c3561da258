-- Laws of a program's blocks and needs.
use Rattle.asm80_types.specs.Program.{Program, IsProgram}
use Rattle.flow.specs.Blocks.{blocks}
use Rattle.flow.specs.Solving.{Needs, AreAllNeeds}
use Rattle.simulation_def.specs.Cuts.{IsCut, ReturnsKeep}
use Rattle.simulation_def.specs.Needed.{needed_by}

-- the blocks are a cut: control comes to a block at its first instruction alone
abbrev pub BlocksAreCuts : Type 0
BlocksAreCuts = (p : Program) → IsProgram p → IsCut p (blocks p)

-- what is needed at a block whose leader is taken is needed at a return
abbrev pub NeedsReturn : Type 0
NeedsReturn = (p : Program) (n : Needs) → AreAllNeeds p n → ReturnsKeep p (needed_by p n)
