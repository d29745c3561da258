-- The statements of a text, instruction by instruction.
use Rattle.std.specs.Prelude.{ℕ, Bool, true, false, cond, List, [], ◌∷◌, ◌++◌}
use Rattle.std.specs.List.{flat_map}
use Rattle.asm80_types.specs.declared.program.Placed.{Placed}
use Rattle.asm80_types.specs.Program.{Program}
use Rattle.asm86_line_types.specs.declared.line.Label.TheVariants.{At}
use Rattle.asm86_line_types.specs.declared.line.Stmt86.{Stmt86}
use Rattle.asm86_line_types.specs.declared.line.Stmt86.TheVariants.{Mark}
use Rattle.flow.specs.Blocks.{cut_from}
use Rattle.templates.specs.Style.{Style, is_pair, knows_function, written_in_style}

-- the group of an instruction: the line of the source that the instruction is from, and its statements, with its label where it has one
pub record InstructionGroup : Type 0 where
  pub line : ℕ
  pub statements : List Stmt86

abbrev pub label_if : Bool → Placed → List Stmt86
label_if labelled x = cond labelled (Mark (At x.at) ∷ []) []

-- the groups of a block's instructions from one on: whether it has a label, whether its LAHF is left out, and whether C is known
abbrev pub groups_from : Style → Bool → Bool → Bool → List Placed → List InstructionGroup
groups_from s labelled first c [] = []
groups_from s labelled first c (x ∷ xs) =
    record { line = x.line; statements = label_if labelled x ++ written_in_style s first (is_pair s x xs) c x } ∷ groups_from s s.all_labels (is_pair s x xs) (knows_function c x.instr) xs

-- the first instruction of a block has a label in every style
abbrev pub groups_of_blocks : Style → List (List Placed) → List InstructionGroup
groups_of_blocks s bs = flat_map (groups_from s true false false) bs

-- the groups of a program's text in a style, by ascending address
abbrev pub groups : Style → Program → List InstructionGroup
groups s p = groups_of_blocks s (cut_from p 0 p.instrs)
