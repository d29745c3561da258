use Rattle.std.proofs.Common.{◌≡◌, ◌∙◌, Bool, true, false, cond, ap}
use Rattle.i80.specs.declared.Op.{Op}
use Rattle.i86.specs.declared.AluOp.{AluOp}
use Rattle.i86.specs.declared.Operand8.{Operand8}
use Rattle.i86.specs.declared.Operand8.TheVariants.{Reg, Mem}
use Rattle.i86.specs.declared.Instr86.TheVariants.{Alu}
use Rattle.sym_block_def.specs.Block80.{cleared, operated as operated_held}
use Rattle.sym_block_def.specs.Symbolic86.{Symbolic86, with_held, operated, operand8, after_operand8, clears_al, alu_al, op_of}
use Rattle.sym_micro.specs.Machine.{as86}
use Rattle.sym_micro.specs.Stands.{machine_of}
use Rattle.sym_step.proofs.Seen86.{of_instr, of_state}
use Rattle.sym_step.proofs.arithmetic86.operate_on.Goals as goal

by_zero : (s : Symbolic86) (op : AluOp) (from : Operand8) (b : Bool) → b ≡ clears_al op from → cond b (with_held s (cleared s.held)) (operated (after_operand8 s from) op (operand8 s from)) ≡ alu_al s op from
by_zero s op from b e = ap (λ c. cond c (with_held s (cleared s.held)) (operated (after_operand8 s from) op (operand8 s from))) e

-- an operation by the kind that is its own
by_kind : (s : Symbolic86) (op : AluOp) (kind : Op) (from : Operand8) → kind ≡ op_of op → with_held (after_operand8 s from) (operated_held kind (operand8 s from) s.held) ≡ operated (after_operand8 s from) op (operand8 s from)
by_kind s op kind (Reg r) e = ap (λ k. with_held s (operated_held k (operand8 s (Reg r)) s.held)) e
by_kind s op kind (Mem p) e = ap (λ k. with_held (after_operand8 s (Mem p)) (operated_held k (operand8 s (Mem p)) s.held)) e

pub returns-then-gives_zero : goal.returns-then-gives_zero
returns-then-gives_zero c = of_state (by_zero (as86 (machine_of c.args.terms.now c.args.run.now)) c.args.op c.args.from true c.if-gives_zero.ensures) c.clear.ensures.on_86

pub returns-in-Reg : goal.returns-in-Reg
returns-in-Reg c =
    let s = as86 (machine_of c.args.terms.now c.args.run.now) in
    let from = Reg c.in-Reg.reg in
    of_instr (ap (Alu c.args.op) c.in-Reg.is)
    (of_state (by_kind s c.args.op c.op_of-kind.result from c.op_of-kind.ensures ∙ by_zero s c.args.op from false (c.if-gives_zero.ensures ∙ ap (clears_al c.args.op) c.in-Reg.is)) c.operate.ensures.on_86)

pub returns-in-Mem : goal.returns-in-Mem
returns-in-Mem c =
    let s = as86 (machine_of c.args.terms.now c.args.run.now) in
    let from = Mem c.in-Mem.at in
    of_instr (ap (Alu c.args.op) c.in-Mem.is)
    (of_state (by_kind s c.args.op c.op_of-kind.result from c.op_of-kind.ensures ∙ by_zero s c.args.op from false (c.if-gives_zero.ensures ∙ ap (clears_al c.args.op) c.in-Mem.is)) c.operate_memory.ensures.on_86)
