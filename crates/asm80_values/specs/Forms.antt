-- What the form of a statement's operands is, by the definition of the assembler.
use Rattle.std.specs.Prelude.{◌≡◌, ◌<◌, List, length, All, true, false, Some, None, IfSome, Result, Ok, Err}
use Rattle.std.specs.List.{list_any}
use Rattle.cells.specs.declared.Cell.{Cell}
use Rattle.cells.specs.declared.Cell.TheVariants.{Num}
use Rattle.i80.specs.declared.Instr80.{Instr80}
use Rattle.asm80_types.specs.Program.{IsCoded}
use Rattle.asm80_types.specs.Tree.{Operand}
use Rattle.asm80_values.specs.declared.fault.FormFault.{FormFault}
use Rattle.asm80_values.specs.declared.fault.FormFault.TheVariants.{Rule, Memory}
use Rattle.asm80_values.specs.declared.form.Form.{Form}
use Rattle.asm80_values.specs.declared.form.Form.TheVariants.{Nothing, Instruction, Data}
use Rattle.asm80_source_def.specs.declared.operation.Operation.{Operation}
use Rattle.asm80_source_def.specs.Items.{Setting, instruction, data_by, is_instruction_op, is_data_op}
use Rattle.asm80_source_def.specs.Layout.{is_foreign_by, operands_by, misses, computes, loads_code}
use Rattle.asm80_source_def.specs.Operands.{rule_of_operands}

-- a cell's number is a byte
abbrev pub HoldsByte : Cell → Type 0
HoldsByte (Num n) = n < 0x100
HoldsByte c = Unit {0}

-- the operands' instruction or cells, the numbers in them in their ranges, and the rules of the layout that they break
abbrev pub IsForm : Setting → Operation → List Operand → Form → Type 0
IsForm t o args Nothing = (is_instruction_op (Some o) ≡ false) × (is_data_op (Some o) ≡ false)
IsForm t o args (Instruction i) =
    (is_instruction_op (Some o) ≡ true)
    × (i.instr ≡ instruction t o args)
    × (i.is_foreign ≡ is_foreign_by t args (Some o))
    × (i.misses ≡ list_any (misses t) (operands_by args (Some o)))
    × (i.computes ≡ list_any (computes t) (operands_by args (Some o)))
    × (i.loads_code ≡ list_any (loads_code t) (operands_by args (Some o)))
    × (0 < length args → IfSome i.instr (λ (x : Instr80). IsCoded x))
IsForm t o args (Data d) =
    (is_data_op (Some o) ≡ true)
    × (d.cells.items ≡ data_by t args (Some o))
    × (d.computes ≡ list_any (computes t) (operands_by args (Some o)))
    × All HoldsByte d.cells.items

-- what is answered for operands: their form where they break no rule, else the first rule that they break. Memory is wanted
-- for data alone that breaks none
abbrev pub GivesForm : Setting → Operation → List Operand → Result Form FormFault → Type 0
GivesForm t o args (Ok f) = (rule_of_operands t.scope args (Some o) ≡ None) × IsForm t o args f
GivesForm t o args (Err (Rule rule)) = rule_of_operands t.scope args (Some o) ≡ Some rule
GivesForm t o args (Err Memory) = (rule_of_operands t.scope args (Some o) ≡ None) × (is_data_op (Some o) ≡ true)
