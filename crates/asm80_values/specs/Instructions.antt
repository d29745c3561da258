-- The instructions whose one operand is a register or a pair, or the target of a jump or call.
use Rattle.std.specs.Prelude.{Option, Some, None, option_map}
use Rattle.i80.specs.declared.Instr80.{Instr80}
use Rattle.i80.specs.declared.Instr80.TheVariants as i80
use Rattle.asm80_types.specs.Tree.{Operand}
use Rattle.asm80_source_def.specs.declared.operation.Operation.{Operation}
use Rattle.asm80_source_def.specs.declared.operation.Operation.TheVariants as op
use Rattle.asm80_source_def.specs.Operands.{src_of, pair_of_operand, indirect_of, stack_of}
use Rattle.asm80_source_def.specs.Items.{Setting, goal, value}

abbrev pub register_instruction : Operation → Operand → Option Instr80
register_instruction op.Ldax a = option_map i80.Ldax (indirect_of a)
register_instruction op.Stax a = option_map i80.Stax (indirect_of a)
register_instruction (op.Alu o) a = option_map (i80.Alu o) (src_of a)
register_instruction op.Inr a = option_map i80.Inr (src_of a)
register_instruction op.Dcr a = option_map i80.Dcr (src_of a)
register_instruction op.Inx a = option_map i80.Inx (pair_of_operand a)
register_instruction op.Dcx a = option_map i80.Dcx (pair_of_operand a)
register_instruction op.Dad a = option_map i80.Dad (pair_of_operand a)
register_instruction op.Push a = option_map i80.Push (stack_of a)
register_instruction op.Pop a = option_map i80.Pop (stack_of a)
register_instruction o a = None

abbrev pub target_instruction : Setting → Operation → Operand → Option Instr80
target_instruction t op.Jmp a = Some (i80.Jmp (goal (value t a)))
target_instruction t (op.Jif c) a = Some (i80.Jif c (goal (value t a)))
target_instruction t op.Call a = Some (i80.Call (goal (value t a)))
target_instruction t (op.Cif c) a = Some (i80.Cif c (goal (value t a)))
target_instruction t o a = register_instruction o a
