use Rattle.std.proofs.Common.{◌≡◌, ◌⊎◌, inl, inr, ap, sym, subst}
use Rattle.i80.specs.declared.Op.{Op}
use Rattle.i80.specs.declared.Op.TheVariants.{Add, Sub}
use Rattle.i80.specs.declared.Pair.TheVariants.{H as PairH}
use Rattle.i80.specs.declared.Src.{Src}
use Rattle.i80.specs.declared.Src.TheVariants.{Reg, Mem}
use Rattle.i80.specs.declared.Reg.{Reg as Reg80}
use Rattle.sym_terms.specs.Term.{Num}
use Rattle.sym_terms.specs.Making.{alu}
use Rattle.sym_block_def.specs.Outcome.{with_count_flags_of}
use Rattle.sym_block_def.specs.Block80.{Symbolic80, count_by, operation, carry_in, with_held, store8, load8, next_byte, pair_term}
use Rattle.sym_micro.specs.declared.micro.ByteSlot.TheVariants.{Of80}
use Rattle.sym_micro.specs.Alike.{counted}
use Rattle.sym_micro.specs.Machine.{Machine, as80}
use Rattle.sym_micro.specs.Stands.{machine_of}
use Rattle.sym_step.proofs.Seen80.{of_state}
use Rattle.sym_step.proofs.arithmetic80.count.Goals as goal

-- ADD and SUB take no carry, and give what they are
in_register : (m : Machine) (op : Op) (reg : Reg80) (on : Src) → (op ≡ Add) ⊎ (op ≡ Sub) → on ≡ Reg reg → as80 (counted m op (Of80 reg)) ≡ count_by (as80 m) op on
in_register m op reg on (inl e) is = subst (λ o. as80 (counted m o (Of80 reg)) ≡ count_by (as80 m) o on) (sym e) (ap (count_by (as80 m) Add) (sym is))
in_register m op reg on (inr e) is = subst (λ o. as80 (counted m o (Of80 reg)) ≡ count_by (as80 m) o on) (sym e) (ap (count_by (as80 m) Sub) (sym is))

abbrev in_memory_by : Symbolic80 → Op → Symbolic80
in_memory_by s op =
    let sum = alu (operation op) (next_byte s) (Num 1) (carry_in op s.held.cy) in
    with_held (store8 (load8 s (pair_term s PairH)) (pair_term s PairH) sum) (with_count_flags_of sum s.held)

in_memory : (s : Symbolic80) (op : Op) (on : Src) → (op ≡ Add) ⊎ (op ≡ Sub) → on ≡ Mem → in_memory_by s op ≡ count_by s op on
in_memory s op on (inl e) is = subst (λ o. in_memory_by s o ≡ count_by s o on) (sym e) (ap (count_by s Add) (sym is))
in_memory s op on (inr e) is = subst (λ o. in_memory_by s o ≡ count_by s o on) (sym e) (ap (count_by s Sub) (sym is))

pub returns-in-Reg : goal.returns-in-Reg
returns-in-Reg c = of_state (in_register (machine_of c.args.terms.now c.args.run.now) c.args.op c.in-Reg.reg c.args.on c.requires.counts c.in-Reg.is) c.count_register.ensures.on_80

pub returns-in-Mem : goal.returns-in-Mem
returns-in-Mem c = of_state (in_memory (as80 (machine_of c.args.terms.now c.args.run.now)) c.args.op c.args.on c.requires.counts c.in-Mem.is) c.count_memory.ensures.on_80

pub count_register-requires : goal.count_register-requires
count_register-requires c = record { ready = c.requires.ready; room = c.requires.room }

pub count_memory-requires : goal.count_memory-requires
count_memory-requires c = record { ready = c.requires.ready; room = c.requires.room }
