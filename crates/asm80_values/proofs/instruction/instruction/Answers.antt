use Rattle.std.proofs.Common.{◌≡◌, ◌≤◌, List, [], ◌∷◌, length, map, None, refl, sym, ap, ◌∙◌, arith}
use Rattle.asm80_types.specs.declared.arg.Arg.{Arg}
use Rattle.asm80_types.specs.Tree.{Operand, operand_of}
use Rattle.asm80_source_def.specs.declared.operation.Operation.{Operation}
use Rattle.asm80_source_def.specs.declared.operation.Operation.TheVariants as op
use Rattle.asm80_source_def.specs.Items.{Setting, instruction}
use Rattle.asm80_values.specs.Settings.{setting_of}
use Rattle.asm80_values.proofs.instruction.instruction.Goals as goal
use Rattle.asm80_values.proofs.Few.{none, one, two, has_none}

three : (t : Setting) (o : Operation) (a b d : Operand) (others : List Operand) → instruction t o (a ∷ (b ∷ (d ∷ others))) ≡ None
three t op.Org a b d others = refl
three t op.End a b d others = refl
three t op.Equ a b d others = refl
three t op.Set a b d others = refl
three t op.If a b d others = refl
three t op.EndIf a b d others = refl
three t op.Db a b d others = refl
three t op.Dw a b d others = refl
three t op.Ds a b d others = refl
three t (op.Bare i) a b d others = refl
three t op.Foreign a b d others = refl
three t op.Mov a b d others = refl
three t op.Mvi a b d others = refl
three t op.Lxi a b d others = refl
three t op.Lda a b d others = refl
three t op.Sta a b d others = refl
three t op.Lhld a b d others = refl
three t op.Shld a b d others = refl
three t op.Ldax a b d others = refl
three t op.Stax a b d others = refl
three t (op.Alu f) a b d others = refl
three t (op.AluI f) a b d others = refl
three t op.Inr a b d others = refl
three t op.Dcr a b d others = refl
three t op.Inx a b d others = refl
three t op.Dcx a b d others = refl
three t op.Dad a b d others = refl
three t op.Push a b d others = refl
three t op.Pop a b d others = refl
three t op.Jmp a b d others = refl
three t (op.Jif f) a b d others = refl
three t op.Call a b d others = refl
three t (op.Cif f) a b d others = refl
three t op.Rst a b d others = refl
three t op.In a b d others = refl
three t op.Out a b d others = refl

-- no operation has three operands or more
too_many : (t : Setting) (o : Operation) (args : List Arg) → 3 ≤ length args → instruction t o (map operand_of args) ≡ None
too_many t o [] many = absurd (omega arith)
too_many t o (a ∷ []) many = absurd (omega arith)
too_many t o (a ∷ (b ∷ [])) many = absurd (omega arith)
too_many t o (a ∷ (b ∷ (d ∷ others))) many = three t o (operand_of a) (operand_of b) (operand_of d) (map operand_of others)

pub returns-in-0-clause-instr : goal.returns-in-0-clause-instr
returns-in-0-clause-instr c = c.bare.ensures ∙ ap (λ (args : List Arg). instruction (setting_of c.args.setting.now) c.args.operation (map operand_of args)) (sym (none c.args.args.now c.in-0.is))

pub returns-in-0-clause-coded : goal.returns-in-0-clause-coded
returns-in-0-clause-coded c = λ some. absurd (has_none operand_of c.args.args.now c.in-0.is some)

pub returns-in-1-clause-instr : goal.returns-in-1-clause-instr
returns-in-1-clause-instr c =
    c.with_one.ensures.instr ∙ ap (λ (args : List Arg). instruction (setting_of c.args.setting.now) c.args.operation (map operand_of args)) (sym (one c.args.args.now _ c.in-1.is c.index-args-0.is))

pub returns-in-1-clause-coded : goal.returns-in-1-clause-coded
returns-in-1-clause-coded c = λ _. c.with_one.ensures.coded

pub returns-in-2-clause-instr : goal.returns-in-2-clause-instr
returns-in-2-clause-instr c =
    c.with_two.ensures.instr ∙ ap (λ (args : List Arg). instruction (setting_of c.args.setting.now) c.args.operation (map operand_of args)) (sym (two c.args.args.now _ _ c.in-2.is c.index-args-0-in-2.is c.index-args-1.is))

pub returns-in-2-clause-coded : goal.returns-in-2-clause-coded
returns-in-2-clause-coded c = λ _. c.with_two.ensures.coded

pub returns-in_default-clause-instr : goal.returns-in_default-clause-instr
returns-in_default-clause-instr c = sym (too_many (setting_of c.args.setting.now) c.args.operation c.args.args.now (omega arith))

pub returns-in_default-clause-coded : goal.returns-in_default-clause-coded
returns-in_default-clause-coded c = λ _. tt
