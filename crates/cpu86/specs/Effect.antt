-- What each instruction does: the table of the Intel 8086 Family User's Manual, "Instruction set", for the forms of this
-- subset. The state `s` has the offset of the next instruction in ip.
use Rattle.std.specs.Prelude.{ℕ, ◌+◌, ◌-◌, nat_lt, not, Bool, true, false, cond}
use Rattle.i86.specs.declared.Reg8.{Reg8}
use Rattle.i86.specs.declared.Reg8.TheVariants.{Al, Cl, Ah}
use Rattle.i86.specs.declared.Reg16.{Reg16}
use Rattle.i86.specs.declared.Reg16.TheVariants.{Ax, Bx}
use Rattle.i86.specs.declared.AluOp.{AluOp}
use Rattle.i86.specs.declared.AluOp.TheVariants.{Add, Or, Adc, Sbb, And, Sub, Xor, Cmp}
use Rattle.i86.specs.declared.Count.{Count}
use Rattle.i86.specs.declared.Rotate.{Rotate}
use Rattle.i86.specs.declared.Operand8.{Operand8}
use Rattle.i86.specs.declared.Instr86.{Instr86}
use Rattle.i86.specs.declared.Instr86.TheVariants.{MovReg8, MovMem8, MovAlDirect, MovDirectAl, MovNum8, MovNum16, MovMemNum, MovReg16, MovDirect16, MovAxDs, MovSsAx, Alu, AluNum, OrClCl, Add16, Count8, Count16, Push, Pop, Xchg8, Xchg16, Rotate8, Rotate16, Not8, Daa, Sahf, Lahf, Cmc, Stc, Nop, Jcc, JmpNear, JmpShort, JmpBx, CallNear, Ret, Int224, InAl, OutAl}
use Rattle.i86.specs.Enc86.{reg_of_stack}
use Rattle.dialogue.specs.ByteMemory.{put, word_at}
use Rattle.dialogue.specs.Words.{wrap}
use Rattle.cpu86.specs.State.{Flags86, State86, reg8, with8, reg16, with16, put_word, pointed, operand8, with_operand8, operand16, push}
use Rattle.cpu86.specs.Flags.{alu_result, alu_flags, count8_result, count8_flags, count16_result, count16_flags, add16_result, add16_flags, rotate8_result, rotate8_carry, rotate16_result, rotate16_carry, daa_al, daa_flags, flag_byte, flags_of_byte, jumps}

abbrev pub set8 : State86 → Reg8 → ℕ → State86
set8 s r v = record s { regs = with8 s.regs r v }

abbrev pub with_flags : State86 → Flags86 → State86
with_flags s f = record s { flags = f }

abbrev pub with_cf : State86 → Bool → State86
with_cf s c = record s { flags = record (s.flags) { cf = c } }

-- every operation but CMP puts its result in AL
abbrev pub stores_result : AluOp → Bool
stores_result Add = true
stores_result Or = true
stores_result Adc = true
stores_result Sbb = true
stores_result And = true
stores_result Sub = true
stores_result Xor = true
stores_result Cmp = false

-- an operation on AL and a byte
abbrev pub alu_al : State86 → AluOp → ℕ → ℕ → State86
alu_al s op y choice =
    with_flags (set8 s Al (cond (stores_result op) (alu_result op s.regs.al y s.flags.cf) s.regs.al))
    (alu_flags op s.regs.al y s.flags.cf choice)

abbrev pub or_cl : State86 → ℕ → State86
or_cl s choice =
    with_flags (set8 s Cl (alu_result Or s.regs.cl s.regs.cl s.flags.cf)) (alu_flags Or s.regs.cl s.regs.cl s.flags.cf choice)

abbrev pub count8 : State86 → Count → Operand8 → State86
count8 s c o =
    with_flags (with_operand8 s o (count8_result c (operand8 s o))) (count8_flags c (operand8 s o) s.flags.cf)

abbrev pub count16 : State86 → Count → Reg16 → State86
count16 s c r = with_flags (with16 s r (count16_result c (reg16 s r))) (count16_flags c (reg16 s r) s.flags.cf)

abbrev pub add16 : State86 → Reg16 → Reg16 → State86
add16 s r q = with_flags (with16 s r (add16_result (reg16 s r) (reg16 s q))) (add16_flags (reg16 s r) (reg16 s q))

abbrev pub xchg8 : State86 → Reg8 → Reg8 → State86
xchg8 s r q = set8 (set8 s r (reg8 s.regs q)) q (reg8 s.regs r)

abbrev pub xchg16 : State86 → Reg16 → Reg16 → State86
xchg16 s r q = with16 (with16 s r (reg16 s q)) q (reg16 s r)

abbrev pub rotate8 : State86 → Rotate → Reg8 → State86
rotate8 s k r = with_cf (set8 s r (rotate8_result k (reg8 s.regs r) s.flags.cf)) (rotate8_carry k (reg8 s.regs r))

abbrev pub rotate16 : State86 → Rotate → Reg16 → State86
rotate16 s k r = with_cf (with16 s r (rotate16_result k (reg16 s r) s.flags.cf)) (rotate16_carry k (reg16 s r))

abbrev pub daa : State86 → ℕ → State86
daa s choice = with_flags (set8 s Al (daa_al s.regs.al s.flags choice)) (daa_flags s.regs.al s.flags choice)

-- the word at SP
abbrev pub popped : State86 → ℕ
popped s = word_at s.mem s.sp

abbrev pub with_pop : State86 → State86
with_pop s = record s { sp = wrap (s.sp + 2) }

-- a signed byte as a distance
abbrev pub distance : ℕ → ℕ
distance d = cond (nat_lt d 128) d (d + 0xFF00)

abbrev pub jump_by : State86 → ℕ → State86
jump_by s d = record s { ip = wrap (s.ip + d) }

-- the table, but for the call of the system and the ports
abbrev pub effect : Instr86 → State86 → ℕ → State86
effect (MovReg8 r o) s choice = set8 s r (operand8 s o)
effect (MovMem8 p r) s choice = record s { mem = put s.mem (pointed s p) (reg8 s.regs r) }
effect (MovAlDirect a) s choice = set8 s Al (s.mem a)
effect (MovDirectAl a) s choice = record s { mem = put s.mem a s.regs.al }
effect (MovNum8 r n) s choice = set8 s r n
effect (MovNum16 r w) s choice = with16 s r w
effect (MovMemNum p n) s choice = record s { mem = put s.mem (pointed s p) n }
effect (MovReg16 r o) s choice = with16 s r (operand16 s o)
effect (MovDirect16 a r) s choice = record s { mem = put_word s.mem a (reg16 s r) }
effect MovAxDs s choice = with16 s Ax s.ds
effect MovSsAx s choice = record s { ss = reg16 s Ax }
effect (Alu op o) s choice = alu_al s op (operand8 s o) choice
effect (AluNum op n) s choice = alu_al s op n choice
effect OrClCl s choice = or_cl s choice
effect (Add16 r q) s choice = add16 s r q
effect (Count8 c o) s choice = count8 s c o
effect (Count16 c r) s choice = count16 s c r
effect (Push r) s choice = push s (reg16 s (reg_of_stack r))
effect (Pop r) s choice = with16 (with_pop s) (reg_of_stack r) (popped s)
effect (Xchg8 r q) s choice = xchg8 s r q
effect (Xchg16 r q) s choice = xchg16 s r q
effect (Rotate8 k r) s choice = rotate8 s k r
effect (Rotate16 k r) s choice = rotate16 s k r
effect (Not8 r) s choice = set8 s r (255 - reg8 s.regs r)
effect Daa s choice = daa s choice
effect Sahf s choice = with_flags s (flags_of_byte s.regs.ah)
effect Lahf s choice = set8 s Ah (flag_byte s.flags choice)
effect Cmc s choice = with_cf s (not s.flags.cf)
effect Stc s choice = with_cf s true
effect Nop s choice = s
effect (Jcc j d) s choice = cond (jumps j s.flags) (jump_by s (distance d)) s
effect (JmpNear d) s choice = jump_by s d
effect (JmpShort d) s choice = jump_by s (distance d)
effect JmpBx s choice = record s { ip = reg16 s Bx }
effect (CallNear d) s choice = jump_by (push s s.ip) d
effect Ret s choice = record (with_pop s) { ip = popped s }
effect Int224 s choice = s
effect (InAl n) s choice = s
effect (OutAl n) s choice = s
