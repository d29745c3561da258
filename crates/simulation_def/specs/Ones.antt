-- The cut into single instructions, with all parts kept.
use Rattle.std.specs.Prelude.{ℕ, ◌==◌, cond, List, map, length}
use Rattle.cells.specs.Parts.{nothing, everything}
use Rattle.asm80_types.specs.declared.program.Placed.{Placed}
use Rattle.asm80_types.specs.Program.{Program, is_start}
use Rattle.asm80_types.specs.Taken.{taken_places}
use Rattle.sym_block_def.specs.BlockMatch.{Keeps}

-- each instruction alone
abbrev pub ones : Program → List (ℕ × ℕ)
ones p = map (λ (x : Placed). (x.at, 1)) p.instrs

-- all parts at each instruction and none at any other place; at a return what is kept at the places to which one may go: all
-- parts, and none where no place is taken
abbrev pub all_kept : Program → Keeps
all_kept p = record { at = λ a. cond (is_start p a) everything nothing; returned = cond (length (taken_places p) == 0) nothing everything }
