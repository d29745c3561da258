-- The law of the texts that are written for a program: whatever their style leaves out of the templates, at the label of each block
-- they do what the block does, as far as what is needed behind it can tell.
use Rattle.std.specs.Prelude.{◌≡◌, ℕ, true, Some, None}
use Rattle.asm80_types.specs.declared.program.Placed.{Placed}
use Rattle.asm80_types.specs.Program.{Program, placed_in, IsProgram}
use Rattle.flow.specs.Blocks.{end_of, blocks, IsBlockOf}
use Rattle.flow.specs.Saves.{is_word_sum}
use Rattle.flow.specs.Solving.{Needs, AreAllNeeds}
use Rattle.templates.specs.Style.{Style, plain_style, styled_statements}
use Rattle.templates.specs.Lean.{has_saved_flag, loses_nothing, lean_style}
use Rattle.sym_block_def.specs.BlockMatch.{block_reason}
use Rattle.simulation_def.specs.Matches.{blocks_reason}
use Rattle.simulation_def.specs.Needed.{needed_by}
pub use Rattle.templates_law.specs.Match.Plain.{OnesAreBlocks, PlainBlocksMatch}

-- A style respects what is needed: each INX, DCX and DAD saves the flags where one of S Z AC P is needed behind it, and the system is
-- called by INT 224, which leaves B and L changed, only where neither is needed behind the call.
pub record Respects (p : Program) (n : Needs) (s : Style) : Type 0 where
  pub saves : (x : Placed) → placed_in p.instrs x.at ≡ Some x → is_word_sum x.instr ≡ true → has_saved_flag (n.at (end_of x)) ≡ true → s.saves x ≡ true
  pub directs : (x : Placed) → placed_in p.instrs x.at ≡ Some x → s.directs x ≡ true → loses_nothing n x ≡ true

-- a text in a style that respects what is needed matches each block, with what is needed kept
abbrev pub OwnBlocksMatch : Type 0
OwnBlocksMatch =
    (p : Program) (n : Needs) (s : Style) →
    IsProgram p →
    AreAllNeeds p n →
    Respects p n s →
    (a count : ℕ) →
    IsBlockOf p a count →
    block_reason p (styled_statements s p) (needed_by p n) a count ≡ None

-- so no block of the program has a reason why not
abbrev pub OwnTextsMatch : Type 0
OwnTextsMatch =
    (p : Program) (n : Needs) (s : Style) →
    IsProgram p →
    AreAllNeeds p n →
    Respects p n s →
    blocks_reason p (styled_statements s p) (needed_by p n) (blocks p) ≡ None

-- the style that leaves nothing out respects what is needed, and so does the lean one
pub record StylesRespectNeeds : Type 0 where
  pub plain : (p : Program) (n : Needs) → Respects p n plain_style
  pub lean : (p : Program) (n : Needs) → Respects p n (lean_style n p)
