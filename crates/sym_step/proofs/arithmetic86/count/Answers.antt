use Rattle.std.proofs.Common.{◌≡◌, ◌∙◌, sym, ap, subst}
use Rattle.i80.specs.declared.Op.{Op}
use Rattle.i86.specs.declared.Count.{Count}
use Rattle.i86.specs.declared.Count.TheVariants.{Inc, Dec}
use Rattle.i86.specs.declared.Operand8.{Operand8}
use Rattle.i86.specs.declared.Operand8.TheVariants.{Reg, Mem}
use Rattle.i86.specs.declared.Ptr.{Ptr}
use Rattle.i86.specs.declared.Reg8.{Reg8}
use Rattle.sym_terms.specs.Term.{Num}
use Rattle.sym_terms.specs.Making.{alu}
use Rattle.sym_block_def.specs.Outcome.{with_count_flags_of}
use Rattle.sym_block_def.specs.Block80.{operation, carry_in}
use Rattle.sym_block_def.specs.Symbolic86.{Symbolic86, count8, count_op, with_held, store8, load8, next_byte, pointed}
use Rattle.sym_micro.specs.declared.micro.ByteSlot.TheVariants.{Of86}
use Rattle.sym_micro.specs.Alike.{counted}
use Rattle.sym_micro.specs.Machine.{Machine, as86}
use Rattle.sym_micro.specs.Stands.{machine_of}
use Rattle.sym_step.proofs.Seen86.{of_state}
use Rattle.sym_step.proofs.arithmetic86.count.Goals as goal
use Rattle.sym_step.proofs.arithmetic86.count.Goals.{in-Inc, in-Dec}

-- the operations take no carry, and are what they are
in_register : (m : Machine) (by : Count) (op : Op) (reg : Reg8) (on : Operand8) → op ≡ count_op by → on ≡ Reg reg → as86 (counted m op (Of86 reg)) ≡ count8 (as86 m) by on
in_register m Inc op reg on e is = subst (λ o. as86 (counted m o (Of86 reg)) ≡ count8 (as86 m) Inc on) (sym e) (ap (count8 (as86 m) Inc) (sym is))
in_register m Dec op reg on e is = subst (λ o. as86 (counted m o (Of86 reg)) ≡ count8 (as86 m) Dec on) (sym e) (ap (count8 (as86 m) Dec) (sym is))

abbrev in_memory_by : Symbolic86 → Op → Ptr → Symbolic86
in_memory_by s op at =
    let sum = alu (operation op) (next_byte s) (Num 1) (carry_in op s.held.cy) in
    with_held (store8 (load8 s (pointed s at)) (pointed s at) sum) (with_count_flags_of sum s.held)

in_memory : (s : Symbolic86) (by : Count) (op : Op) (at : Ptr) (on : Operand8) → op ≡ count_op by → on ≡ Mem at → in_memory_by s op at ≡ count8 s by on
in_memory s Inc op at on e is = subst (λ o. in_memory_by s o at ≡ count8 s Inc on) (sym e) (ap (count8 s Inc) (sym is))
in_memory s Dec op at on e is = subst (λ o. in_memory_by s o at ≡ count8 s Dec on) (sym e) (ap (count8 s Dec) (sym is))

pub returns-in-Reg : goal.returns-in-Reg
returns-in-Reg c =
    let op : c.match-by.op ≡ count_op c.args.by = elim c.match-by.branch [
      | in-Inc w ↦ w.op-is ∙ ap count_op (sym w.in-Inc.is)
      | in-Dec w ↦ w.op-is ∙ ap count_op (sym w.in-Dec.is)
    ] in
    of_state (in_register (machine_of c.args.terms.now c.args.run.now) c.args.by c.match-by.op c.in-Reg.reg c.args.on op c.in-Reg.is) c.count_register.ensures.on_86

pub returns-in-Mem : goal.returns-in-Mem
returns-in-Mem c =
    let op : c.match-by.op ≡ count_op c.args.by = elim c.match-by.branch [
      | in-Inc w ↦ w.op-is ∙ ap count_op (sym w.in-Inc.is)
      | in-Dec w ↦ w.op-is ∙ ap count_op (sym w.in-Dec.is)
    ] in
    of_state (in_memory (as86 (machine_of c.args.terms.now c.args.run.now)) c.args.by c.match-by.op c.in-Mem.at c.args.on op c.in-Mem.is) c.count_memory.ensures.on_86
