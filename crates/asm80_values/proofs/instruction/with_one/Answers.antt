use Rattle.std.proofs.Common.{◌≡◌, ◌≢◌, ◌==◌, ℕ, [], ◌∷◌, cond, Some, None, refl, sym, ap, ◌∙◌, rules}
use Rattle.i80.specs.declared.Instr80.TheVariants as i80
use Rattle.i80.specs.declared.Op.{Op}
use Rattle.asm80_types.specs.Tree.{Operand, operand_of}
use Rattle.asm80_source_def.specs.declared.operation.Operation.{Operation}
use Rattle.asm80_source_def.specs.declared.operation.Operation.TheVariants as op
use Rattle.asm80_source_def.specs.Items.{Setting, instruction}
use Rattle.asm80_values.specs.Settings.{setting_of}
use Rattle.asm80_values.specs.Instructions.{target_instruction}
use Rattle.asm80_values.proofs.instruction.with_one.Goals as goal

-- the definition of an operation that is known
of_operation : (t : Setting) (a : Operand) {o p : Operation} → o ≡ p → instruction t p (a ∷ []) ≡ instruction t o (a ∷ [])
of_operation t a is = ap (λ (o : Operation). instruction t o (a ∷ [])) (sym is)

pub returns-in-Lda : goal.returns-in-Lda
returns-in-Lda c =
    record {
      instr = ap (λ (n : ℕ). Some (i80.Lda n)) c.value.ensures ∙ of_operation (setting_of c.args.setting.now) (operand_of c.args.arg.now) c.in-Lda.is;
      coded = search rules;
    }

pub returns-in-Sta : goal.returns-in-Sta
returns-in-Sta c =
    record {
      instr = ap (λ (n : ℕ). Some (i80.Sta n)) c.value-in-Sta.ensures ∙ of_operation (setting_of c.args.setting.now) (operand_of c.args.arg.now) c.in-Sta.is;
      coded = search rules;
    }

pub returns-in-Lhld : goal.returns-in-Lhld
returns-in-Lhld c =
    record {
      instr = ap (λ (n : ℕ). Some (i80.Lhld n)) c.value-in-Lhld.ensures ∙ of_operation (setting_of c.args.setting.now) (operand_of c.args.arg.now) c.in-Lhld.is;
      coded = search rules;
    }

pub returns-in-Shld : goal.returns-in-Shld
returns-in-Shld c =
    record {
      instr = ap (λ (n : ℕ). Some (i80.Shld n)) c.value-in-Shld.ensures ∙ of_operation (setting_of c.args.setting.now) (operand_of c.args.arg.now) c.in-Shld.is;
      coded = search rules;
    }

pub returns-in-AluI : goal.returns-in-AluI
returns-in-AluI c =
    record {
      instr = ap (λ (n : ℕ). Some (i80.AluI c.in-AluI.op n)) c.byte.ensures ∙ of_operation (setting_of c.args.setting.now) (operand_of c.args.arg.now) c.in-AluI.is;
      coded = search rules;
    }

pub returns-in-In : goal.returns-in-In
returns-in-In c =
    record {
      instr = ap (λ (n : ℕ). Some (i80.In n)) c.byte-in-In.ensures ∙ of_operation (setting_of c.args.setting.now) (operand_of c.args.arg.now) c.in-In.is;
      coded = search rules;
    }

pub returns-in-Out : goal.returns-in-Out
returns-in-Out c =
    record {
      instr = ap (λ (n : ℕ). Some (i80.Out n)) c.byte-in-Out.ensures ∙ of_operation (setting_of c.args.setting.now) (operand_of c.args.arg.now) c.in-Out.is;
      coded = search rules;
    }

pub returns-in-Rst : goal.returns-in-Rst
returns-in-Rst c =
    record {
      instr = c.restart.ensures.instr ∙ ap (λ (n : ℕ). cond (n == 0) (Some i80.Rst0) None) c.value-in-Rst.ensures ∙ of_operation (setting_of c.args.setting.now) (operand_of c.args.arg.now) c.in-Rst.is;
      coded = c.restart.ensures.coded;
    }

-- an operation that with_one leaves to with_target
record IsLeft (o : Operation) : Type 0 where
  lda : o ≢ op.Lda
  sta : o ≢ op.Sta
  lhld : o ≢ op.Lhld
  shld : o ≢ op.Shld
  alui : (f : Op) → o ≢ op.AluI f
  in_ : o ≢ op.In
  out : o ≢ op.Out
  rst : o ≢ op.Rst

target_is : (t : Setting) (o : Operation) (a : Operand) → IsLeft o → target_instruction t o a ≡ instruction t o (a ∷ [])
target_is t op.Org a n = refl
target_is t op.End a n = refl
target_is t op.Equ a n = refl
target_is t op.Set a n = refl
target_is t op.If a n = refl
target_is t op.EndIf a n = refl
target_is t op.Db a n = refl
target_is t op.Dw a n = refl
target_is t op.Ds a n = refl
target_is t (op.Bare i) a n = refl
target_is t op.Foreign a n = refl
target_is t op.Mov a n = refl
target_is t op.Mvi a n = refl
target_is t op.Lxi a n = refl
target_is t op.Lda a n = absurd (n.lda refl)
target_is t op.Sta a n = absurd (n.sta refl)
target_is t op.Lhld a n = absurd (n.lhld refl)
target_is t op.Shld a n = absurd (n.shld refl)
target_is t op.Ldax a n = refl
target_is t op.Stax a n = refl
target_is t (op.Alu f) a n = refl
target_is t (op.AluI f) a n = absurd (n.alui f refl)
target_is t op.Inr a n = refl
target_is t op.Dcr a n = refl
target_is t op.Inx a n = refl
target_is t op.Dcx a n = refl
target_is t op.Dad a n = refl
target_is t op.Push a n = refl
target_is t op.Pop a n = refl
target_is t op.Jmp a n = refl
target_is t (op.Jif f) a n = refl
target_is t op.Call a n = refl
target_is t (op.Cif f) a n = refl
target_is t op.Rst a n = absurd (n.rst refl)
target_is t op.In a n = absurd (n.in_ refl)
target_is t op.Out a n = absurd (n.out refl)

pub returns-in_default : goal.returns-in_default
returns-in_default c =
    record {
      instr = c.with_target.ensures.instr ∙ target_is (setting_of c.args.setting.now) c.args.operation (operand_of c.args.arg.now) (record {
        lda = c.in_default.not-Lda;
        sta = c.in_default.not-Sta;
        lhld = c.in_default.not-Lhld;
        shld = c.in_default.not-Shld;
        alui = c.in_default.not-AluI;
        in_ = c.in_default.not-In;
        out = c.in_default.not-Out;
        rst = c.in_default.not-Rst;
      });
      coded = c.with_target.ensures.coded;
    }
