-- What a cut of a program into blocks, and the parts that are kept, are to be for linked runs to stay linked.
use Rattle.std.specs.Prelude.{◌≡◌, ℕ, true, List, Some}
use Rattle.cells.specs.declared.Place.TheVariants.{At}
use Rattle.cells.specs.declared.Part.{Part}
use Rattle.cells.specs.Parts.{has}
use Rattle.i80.specs.declared.Instr80.{Instr80}
use Rattle.asm80_types.specs.Program.{Program, instr_at, is_start, named_by}
use Rattle.asm80_types.specs.Taken.{takes}
use Rattle.sym_block_def.specs.Block80.{MayRun, instrs_from, address_after_all}
use Rattle.sym_block_def.specs.BlockMatch.{Keeps}
use Rattle.simulation_def.specs.Linked.{HasBlock, IsFirstOf}

-- Control comes to a block at its first instruction alone: there the program begins, there it goes on behind each block, there each
-- place is that an instruction names, and each that is taken.
pub record IsCut (p : Program) (cut : List (ℕ × ℕ)) : Type 0 where
  pub blocks : (first count : ℕ) → HasBlock cut first count → MayRun p first count
  pub begins : IsFirstOf cut (At 0x100)
  pub follows : (first count : ℕ) → HasBlock cut first count → is_start p (address_after_all first (instrs_from p first count)) ≡ true → IsFirstOf cut (At (address_after_all first (instrs_from p first count)))
  pub named : (at a : ℕ) (i : Instr80) → instr_at p at ≡ Some i → named_by i ≡ Some a → IsFirstOf cut (At a)
  pub taken : (a : ℕ) → is_start p a ≡ true → takes p a ≡ true → IsFirstOf cut (At a)

-- what is kept at a place that is taken is kept at a return
abbrev pub ReturnsKeep : Program → Keeps → Type 0
ReturnsKeep p keeps = (a : ℕ) (q : Part) → is_start p a ≡ true → takes p a ≡ true → has (keeps.at a) q ≡ true → has keeps.returned q ≡ true
