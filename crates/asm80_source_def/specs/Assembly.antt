-- What statements assemble to: a program, or the first refusal.
use Rattle.std.specs.Prelude.{◌≡◌, ◌↔◌, ℕ, List, Contains, Option, Some, None}
use Rattle.std.specs.Option.{option_or}
use Rattle.cells.specs.declared.Cell.{Cell}
use Rattle.asm80_types.specs.Tree.{Statement}
use Rattle.asm80_types.specs.declared.program.Placed.{Placed}
use Rattle.asm80_types.specs.Program.{Program, IsProgram}
use Rattle.asm80_source_def.specs.declared.rule.AsmRule.{AsmRule}
use Rattle.asm80_source_def.specs.Walk.{Walk, WalkRow, rows, walked}
use Rattle.asm80_source_def.specs.FirstFaults.{Refusal, first_fault}
use Rattle.asm80_source_def.specs.Operands.{second_fault}
use Rattle.asm80_source_def.specs.Items.{placed, data_cells}
use Rattle.asm80_source_def.specs.Layout.{layout_fault}

-- the first fault of the first walk, else that of the second, else that of the layout
abbrev pub refusal : List Statement → ℕ → Option Refusal
refusal ss top =
    option_or (first_fault (rows ss) (walked ss)) (
    option_or (second_fault (walked ss) (rows ss)) (
    layout_fault (rows ss) (walked ss) top))

-- the program has these instructions and data cells, as finite maps, and this top
pub record HoldsProgram (rs : List WalkRow) (end : Walk) (top : ℕ) (p : Program) : Type 0 where
  pub lawful : IsProgram p
  pub instrs : (x : Placed) → Contains p.instrs x ↔ Contains (placed rs end) x
  pub cells : (x : ℕ × Cell) → Contains p.cells x ↔ Contains (data_cells rs end) x
  pub is_top : p.top ≡ top

-- the statements are this program
pub record IsAssembled (ss : List Statement) (top : ℕ) (p : Program) : Type 0 where
  pub accepted : refusal ss top ≡ None
  pub program : HoldsProgram (rows ss) (walked ss) top p

-- the statements are refused at this line for this rule
abbrev pub IsRefused : List Statement → ℕ → ℕ → AsmRule → Type 0
IsRefused ss top line rule = refusal ss top ≡ Some (line, rule)
