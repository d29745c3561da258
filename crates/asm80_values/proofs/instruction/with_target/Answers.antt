use Rattle.std.proofs.Common.{◌≡◌, Some, sym, ap, ◌∙◌}
use Rattle.i80.specs.declared.Goal.{Goal}
use Rattle.i80.specs.declared.Instr80.TheVariants as i80
use Rattle.asm80_types.specs.Tree.{Operand, operand_of}
use Rattle.asm80_source_def.specs.declared.operation.Operation.{Operation}
use Rattle.asm80_source_def.specs.Items.{Setting, goal as target}
use Rattle.asm80_values.specs.Settings.{setting_of}
use Rattle.asm80_values.specs.Instructions.{target_instruction}
use Rattle.asm80_values.proofs.instruction.with_target.Goals as goal

-- the definition of an operation that is known
of_operation : (t : Setting) (a : Operand) {o p : Operation} → o ≡ p → target_instruction t p a ≡ target_instruction t o a
of_operation t a is = ap (λ (o : Operation). target_instruction t o a) (sym is)

pub returns-in-Jmp : goal.returns-in-Jmp
returns-in-Jmp c =
    record {
      instr = ap (λ (at : Goal). Some (i80.Jmp at)) (c.goal.ensures ∙ ap target c.value.ensures) ∙ of_operation (setting_of c.args.setting.now) (operand_of c.args.arg.now) c.in-Jmp.is;
      coded = tt;
    }

pub returns-in-Jif : goal.returns-in-Jif
returns-in-Jif c =
    record {
      instr = ap (λ (at : Goal). Some (i80.Jif c.in-Jif.cond at)) (c.goal-in-Jif.ensures ∙ ap target c.value-in-Jif.ensures) ∙ of_operation (setting_of c.args.setting.now) (operand_of c.args.arg.now) c.in-Jif.is;
      coded = tt;
    }

pub returns-in-Call : goal.returns-in-Call
returns-in-Call c =
    record {
      instr = ap (λ (at : Goal). Some (i80.Call at)) (c.goal-in-Call.ensures ∙ ap target c.value-in-Call.ensures) ∙ of_operation (setting_of c.args.setting.now) (operand_of c.args.arg.now) c.in-Call.is;
      coded = tt;
    }

pub returns-in-Cif : goal.returns-in-Cif
returns-in-Cif c =
    record {
      instr = ap (λ (at : Goal). Some (i80.Cif c.in-Cif.cond at)) (c.goal-in-Cif.ensures ∙ ap target c.value-in-Cif.ensures) ∙ of_operation (setting_of c.args.setting.now) (operand_of c.args.arg.now) c.in-Cif.is;
      coded = tt;
    }
