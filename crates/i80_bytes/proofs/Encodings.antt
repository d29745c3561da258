-- The encoding of each instruction of a program is of bytes.
use Rattle.std.proofs.Common.{◌≡◌, ℕ, zero, suc, ◌+◌, ◌*◌, ◌/◌, ◌%◌, ◌<◌, true, List, [], ◌∷◌, arith}
use Rattle.std.specs.Prelude.{IfSome, slice_index}
use Rattle.cells.specs.declared.Cond.{Cond}
use Rattle.cells.specs.declared.Cond.TheVariants.{Nz, Z, Nc, C as Carry, Po, Pe, P, M}
use Rattle.i80.specs.declared.Reg.TheVariants.{A, B, C, D, E, H, L}
use Rattle.i80.specs.declared.Src.{Src}
use Rattle.i80.specs.declared.Src.TheVariants.{Reg, Mem}
use Rattle.i80.specs.declared.Pair.{Pair}
use Rattle.i80.specs.declared.Pair.TheVariants.{B as PairB, D as PairD, H as PairH, Sp}
use Rattle.i80.specs.declared.StackPair.{StackPair}
use Rattle.i80.specs.declared.StackPair.TheVariants.{B as StackB, D as StackD, H as StackH, Psw}
use Rattle.i80.specs.declared.Op.{Op}
use Rattle.i80.specs.declared.Op.TheVariants.{Add, Adc, Sub, Sbb, Ana, Xra, Ora, Cmp}
use Rattle.i80.specs.declared.Word.{Word}
use Rattle.i80.specs.declared.Word.TheVariants.{Num, Code}
use Rattle.i80.specs.declared.Goal.{Goal}
use Rattle.i80.specs.declared.Goal.TheVariants.{At, Boot, Bdos}
use Rattle.i80.specs.declared.Instr80.{Instr80}
use Rattle.i80.specs.declared.Instr80.TheVariants.{Nop, Mov, Mvi, Lxi, Lda, Sta, Lhld, Shld, Ldax, Stax, Xchg, Xthl, Sphl, Pchl, Alu, AluI, Inr, Dcr, Inx, Dcx, Dad, Daa, Cma, Stc, Cmc, Rlc, Rrc, Ral, Rar, Push, Pop, Jmp, Jif, Call, Cif, Ret, Rif, Rst0, In, Out}
use Rattle.i80_bytes.specs.Enc80.{enc80, code_of_operand, code_of_pair, code_of_stack_pair, code_of_condition, code_of_operation, number_of, address_of, with_word}
use Rattle.asm80_types.specs.Program.{Program, IsProgram, is_start, if_instr, if_code, IsCoded}
use Rattle.asm80_types.proofs.Standing.{IsPlaced, start_range}

-- the fields of opcodes

operand_small : (s : Src) → code_of_operand s < 8
operand_small (Reg B) = omega arith
operand_small (Reg C) = omega arith
operand_small (Reg D) = omega arith
operand_small (Reg E) = omega arith
operand_small (Reg H) = omega arith
operand_small (Reg L) = omega arith
operand_small Mem = omega arith
operand_small (Reg A) = omega arith

pair_small : (p : Pair) → code_of_pair p < 4
pair_small PairB = omega arith
pair_small PairD = omega arith
pair_small PairH = omega arith
pair_small Sp = omega arith

stack_pair_small : (p : StackPair) → code_of_stack_pair p < 4
stack_pair_small StackB = omega arith
stack_pair_small StackD = omega arith
stack_pair_small StackH = omega arith
stack_pair_small Psw = omega arith

condition_small : (c : Cond) → code_of_condition c < 8
condition_small Nz = omega arith
condition_small Z = omega arith
condition_small Nc = omega arith
condition_small Carry = omega arith
condition_small Po = omega arith
condition_small Pe = omega arith
condition_small P = omega arith
condition_small M = omega arith

operation_small : (op : Op) → code_of_operation op < 8
operation_small Add = omega arith
operation_small Adc = omega arith
operation_small Sub = omega arith
operation_small Sbb = omega arith
operation_small Ana = omega arith
operation_small Xra = omega arith
operation_small Ora = omega arith
operation_small Cmp = omega arith

-- lists of bytes

abbrev pub AreSmall : List ℕ → Type 0
AreSmall xs = (k : ℕ) → slice_index xs k < 256

none : AreSmall []
none k = omega arith

more : (b : ℕ) (xs : List ℕ) → b < 256 → AreSmall xs → AreSmall (b ∷ xs)
more b xs h rest zero = h
more b xs h rest (suc k) = rest k

one : (b : ℕ) → b < 256 → AreSmall (b ∷ [])
one b h = more b [] h none

two : (b c : ℕ) → b < 256 → c < 256 → AreSmall (b ∷ (c ∷ []))
two b c h k = more b (c ∷ []) h (one c k)

word : (b w : ℕ) → b < 256 → w < 0x10000 → AreSmall (with_word b w)
word b w h k = more b (w % 256 ∷ (w / 256 ∷ [])) h (two (w % 256) (w / 256) (omega arith) (omega (arith, k)))

module _ (p : Program) (g : IsProgram p) where
  address_small : (t : Goal) → IfSome (if_instr t) (λ a. is_start p a ≡ true) → address_of t < 0x10000
  address_small (At a) h = (start_range p a g h).1
  address_small Boot h = omega arith
  address_small Bdos h = omega arith

  number_small : (pair : Pair) (w : Word) → IsCoded (Lxi pair w) → IfSome (if_code w) (λ a. is_start p a ≡ true) → number_of w < 0x10000
  number_small pair (Num n) h named = h
  number_small pair (Code a) h named = (start_range p a g named).1

  pub encoding_small : (a : ℕ) (i : Instr80) → IsPlaced p a i → AreSmall (enc80 i)
  encoding_small a Nop h = one 0x00 (omega arith)
  encoding_small a (Mov to from) h = one (0x40 + 8 * code_of_operand to + code_of_operand from) (omega (arith, operand_small to, operand_small from))
  encoding_small a (Mvi to n) h = two (0x06 + 8 * code_of_operand to) n (omega (arith, operand_small to)) h.coded
  encoding_small a (Lxi pair w) h = word (0x01 + 0x10 * code_of_pair pair) (number_of w) (omega (arith, pair_small pair)) (number_small pair w h.coded h.named)
  encoding_small a (Lda n) h = word 0x3A n (omega arith) h.coded
  encoding_small a (Sta n) h = word 0x32 n (omega arith) h.coded
  encoding_small a (Lhld n) h = word 0x2A n (omega arith) h.coded
  encoding_small a (Shld n) h = word 0x22 n (omega arith) h.coded
  encoding_small a (Ldax pair) h = one (0x0A + 0x10 * code_of_pair pair) (omega (arith, pair_small pair))
  encoding_small a (Stax pair) h = one (0x02 + 0x10 * code_of_pair pair) (omega (arith, pair_small pair))
  encoding_small a Xchg h = one 0xEB (omega arith)
  encoding_small a Xthl h = one 0xE3 (omega arith)
  encoding_small a Sphl h = one 0xF9 (omega arith)
  encoding_small a Pchl h = one 0xE9 (omega arith)
  encoding_small a (Alu op s) h = one (0x80 + 8 * code_of_operation op + code_of_operand s) (omega (arith, operation_small op, operand_small s))
  encoding_small a (AluI op n) h = two (0xC6 + 8 * code_of_operation op) n (omega (arith, operation_small op)) h.coded
  encoding_small a (Inr s) h = one (0x04 + 8 * code_of_operand s) (omega (arith, operand_small s))
  encoding_small a (Dcr s) h = one (0x05 + 8 * code_of_operand s) (omega (arith, operand_small s))
  encoding_small a (Inx pair) h = one (0x03 + 0x10 * code_of_pair pair) (omega (arith, pair_small pair))
  encoding_small a (Dcx pair) h = one (0x0B + 0x10 * code_of_pair pair) (omega (arith, pair_small pair))
  encoding_small a (Dad pair) h = one (0x09 + 0x10 * code_of_pair pair) (omega (arith, pair_small pair))
  encoding_small a Daa h = one 0x27 (omega arith)
  encoding_small a Cma h = one 0x2F (omega arith)
  encoding_small a Stc h = one 0x37 (omega arith)
  encoding_small a Cmc h = one 0x3F (omega arith)
  encoding_small a Rlc h = one 0x07 (omega arith)
  encoding_small a Rrc h = one 0x0F (omega arith)
  encoding_small a Ral h = one 0x17 (omega arith)
  encoding_small a Rar h = one 0x1F (omega arith)
  encoding_small a (Push pair) h = one (0xC5 + 0x10 * code_of_stack_pair pair) (omega (arith, stack_pair_small pair))
  encoding_small a (Pop pair) h = one (0xC1 + 0x10 * code_of_stack_pair pair) (omega (arith, stack_pair_small pair))
  encoding_small a (Jmp t) h = word 0xC3 (address_of t) (omega arith) (address_small t h.named)
  encoding_small a (Jif c t) h = word (0xC2 + 8 * code_of_condition c) (address_of t) (omega (arith, condition_small c)) (address_small t h.named)
  encoding_small a (Call t) h = word 0xCD (address_of t) (omega arith) (address_small t h.named)
  encoding_small a (Cif c t) h = word (0xC4 + 8 * code_of_condition c) (address_of t) (omega (arith, condition_small c)) (address_small t h.named)
  encoding_small a Ret h = one 0xC9 (omega arith)
  encoding_small a (Rif c) h = one (0xC0 + 8 * code_of_condition c) (omega (arith, condition_small c))
  encoding_small a Rst0 h = one 0xC7 (omega arith)
  encoding_small a (In port) h = two 0xDB port (omega arith) h.coded
  encoding_small a (Out port) h = two 0xD3 port (omega arith) h.coded
