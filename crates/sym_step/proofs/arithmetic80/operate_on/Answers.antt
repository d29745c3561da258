use Rattle.std.proofs.Common.{◌≡◌, ◌∙◌, Bool, true, false, cond, ap}
use Rattle.i80.specs.declared.Op.{Op}
use Rattle.i80.specs.declared.Src.{Src}
use Rattle.i80.specs.declared.Src.TheVariants.{Reg, Mem}
use Rattle.i80.specs.declared.Instr80.TheVariants.{Alu}
use Rattle.i80.specs.Columns.{gives_zero}
use Rattle.sym_block_def.specs.Block80.{Symbolic80, with_held, cleared, operated, source, after_source, alu_by}
use Rattle.sym_micro.specs.Machine.{as80}
use Rattle.sym_micro.specs.Stands.{machine_of}
use Rattle.sym_step.proofs.Seen80.{of_instr, of_state}
use Rattle.sym_step.proofs.arithmetic80.operate_on.Goals as goal

by_zero : (s : Symbolic80) (op : Op) (from : Src) (b : Bool) → b ≡ gives_zero op from → cond b (with_held s (cleared s.held)) (with_held (after_source s from) (operated op (source s from) s.held)) ≡ alu_by s op from
by_zero s op from b e = ap (λ c. cond c (with_held s (cleared s.held)) (with_held (after_source s from) (operated op (source s from) s.held))) e

pub returns-then-gives_zero : goal.returns-then-gives_zero
returns-then-gives_zero c = of_state (by_zero (as80 (machine_of c.args.terms.now c.args.run.now)) c.args.op c.args.from true c.if-gives_zero.ensures) c.clear.ensures.on_80

pub returns-in-Reg : goal.returns-in-Reg
returns-in-Reg c =
    let from = Reg c.in-Reg.reg in
    of_instr (ap (Alu c.args.op) c.in-Reg.is)
    (of_state (by_zero (as80 (machine_of c.args.terms.now c.args.run.now)) c.args.op from false (c.if-gives_zero.ensures ∙ ap (gives_zero c.args.op) c.in-Reg.is)) c.operate.ensures.on_80)

pub returns-in-Mem : goal.returns-in-Mem
returns-in-Mem c =
    of_instr (ap (Alu c.args.op) c.in-Mem.is)
    (of_state (by_zero (as80 (machine_of c.args.terms.now c.args.run.now)) c.args.op Mem false (c.if-gives_zero.ensures ∙ ap (gives_zero c.args.op) c.in-Mem.is)) c.operate_memory.ensures.on_80)
