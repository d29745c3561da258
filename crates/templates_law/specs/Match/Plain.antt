-- The law of the plain text: at each instruction's label it does what the instruction does.
use Rattle.std.specs.Prelude.{◌≡◌, ℕ, true, None}
use Rattle.cells.specs.declared.Part.{Part}
use Rattle.cells.specs.Parts.{has}
use Rattle.asm80_types.specs.Program.{Program, is_start, IsProgram}
use Rattle.templates.specs.Plain.{plain_statements}
use Rattle.sym_block_def.specs.Block80.{MayRun}
use Rattle.sym_block_def.specs.BlockMatch.{Keeps, block_reason}

-- each instruction alone is a block
abbrev pub OnesAreBlocks : Type 0
OnesAreBlocks = (p : Program) → IsProgram p → (a : ℕ) → is_start p a ≡ true → MayRun p a 1

-- and where all parts are kept at each instruction, the plain text matches each of these blocks
abbrev pub PlainBlocksMatch : Type 0
PlainBlocksMatch =
    (p : Program) (keeps : Keeps) →
    IsProgram p →
    ((a : ℕ) → is_start p a ≡ true → (q : Part) → has (keeps.at a) q ≡ true) →
    (a : ℕ) →
    is_start p a ≡ true →
    block_reason p (plain_statements p) keeps a 1 ≡ None
