-- The code of statements that have written lines is bytes, and so there is one reader of it.
use Rattle.std.proofs.Common.{◌≡◌, ℕ, ◌+◌, ◌≤◌, ◌<◌, List, [], ◌∷◌, ◌++◌, Option, Some, None, refl, arith, Bool, true, false, cond, lit<, ap}
use Rattle.std.specs.Prelude.{nat_lt, unwrap_or, All, is_some}
use Rattle.std.proofs.lemmas.List.Elements.{All-nil, All-cons}
use Rattle.std.proofs.lemmas.Bool.{false≢true, ltb-true}
use Rattle.std.proofs.lemmas.Option.{same_Some}
use Rattle.i86.specs.declared.Operand8.{Operand8}
use Rattle.i86.specs.declared.Operand8.TheVariants.{Reg, Mem}
use Rattle.i86.specs.declared.Operand16.TheVariants.{Reg as Reg_16, Direct}
use Rattle.i86.specs.declared.AluOp.{AluOp}
use Rattle.i86.specs.declared.AluOp.TheVariants.{Add, Or, Adc, Sbb, And, Sub, Xor, Cmp}
use Rattle.i86.specs.declared.Jump.{Jump}
use Rattle.i86.specs.declared.Jump.TheVariants.{Jb, Jnb, Jz, Jnz, Js, Jns, Jp, Jnp}
use Rattle.i86.specs.declared.Reg16.{Reg16}
use Rattle.i86.specs.declared.Instr86.{Instr86}
use Rattle.i86.specs.declared.Instr86.TheVariants.{MovReg8, MovMem8, MovAlDirect, MovDirectAl, MovNum8, MovNum16, MovMemNum, MovReg16, MovDirect16, MovAxDs, MovSsAx, Alu, AluNum, OrClCl, Add16, Count8, Count16, Push, Pop, Xchg8, Xchg16, Rotate8, Rotate16, Not8, Daa, Sahf, Lahf, Cmc, Stc, Nop, Jcc as JccBy, JmpNear, JmpShort, JmpBx, CallNear, Ret, Int224, InAl, OutAl}
use Rattle.i86.specs.Enc86.{code8, code16, reg_of_stack, code_of_ptr, code_of_alu, code_of_count, code_of_rotate, code_of_jump, two, one, with_operand, word_then, enc86}
use Rattle.i86.specs.Decode.{HasReader}
use Rattle.i86.proofs.Tables.{code8_small, code16_small, ptr_small, count_small, rotate_small}
use Rattle.i86.proofs.Readers.{one_reader}
use Rattle.asm86_line_types.specs.declared.line.Label.{Label}
use Rattle.asm86_line_types.specs.declared.line.Stmt86.{Stmt86}
use Rattle.asm86_line_types.specs.declared.line.Stmt86.TheVariants.{Cseg, Dseg, Org, Rb, Db, Dw, Mark, Run, MovOffset, Jmp, Jmps, Jcc, Call, EndText}
use Rattle.asm86_line_types.specs.Layout.{size_of, sizes_of, marks, offset_from, offset_of, place_of, distance16, bytes_at, code_from, code_of}
use Rattle.asm86_line_reader.specs.ReadBack.{instr_fits, has_line}
use Rattle.templates_law.proofs.Text.Statements.{HaveLines}

-- ---- the bytes of an instruction

abbrev Bytes : List ℕ → Type 0
Bytes [] = Unit {0}
Bytes (b ∷ bs) = (b < 256) × Bytes bs

bytes-append : (xs ys : List ℕ) → Bytes xs → Bytes ys → Bytes (xs ++ ys)
bytes-append [] ys a b = b
bytes-append (x ∷ xs) ys a b = (a.0, bytes-append xs ys a.1 b)

all_bytes : (xs : List ℕ) → Bytes xs → All (λ b. b < 256) xs
all_bytes [] h = All-nil (λ b. b < 256)
all_bytes (x ∷ xs) h = All-cons (λ b. b < 256) x xs h.0 (all_bytes xs h.1)

two_byte : (reg rm : ℕ) → reg < 8 → rm < 8 → two reg rm < 256
two_byte reg rm a b = omega (arith, a, b)

one_byte : (reg rm : ℕ) → reg < 8 → rm < 8 → one reg rm < 256
one_byte reg rm a b = omega (arith, a, b)

operand_byte : (reg : ℕ) (o : Operand8) → reg < 8 → with_operand reg o < 256
operand_byte reg (Reg r) a = two_byte reg (code8 r) a (code8_small r)
operand_byte reg (Mem p) a = one_byte reg (code_of_ptr p) a (ptr_small p)

word_bytes : (w : ℕ) → w < 65536 → Bytes (word_then w [])
word_bytes w h = (omega arith, (omega (arith, h), tt))

pub word_below : (w : ℕ) → nat_lt w 65536 ≡ true → w < 65536
word_below w h = ltb-true w 65536 h

pub byte_below : (n : ℕ) → nat_lt n 256 ≡ true → n < 256
byte_below n h = ltb-true n 256 h

opcode16 : (base : ℕ) (r : Reg16) → base ≤ 248 → base + code16 r < 256
opcode16 base r h = omega (arith, h, code16_small r)

alu_small : (o : AluOp) → code_of_alu o < 8
alu_small Add = lit< tt
alu_small Or = lit< tt
alu_small Adc = lit< tt
alu_small Sbb = lit< tt
alu_small And = lit< tt
alu_small Sub = lit< tt
alu_small Xor = lit< tt
alu_small Cmp = lit< tt

jump_byte : (j : Jump) → code_of_jump j < 256
jump_byte Jb = lit< tt
jump_byte Jnb = lit< tt
jump_byte Jz = lit< tt
jump_byte Jnz = lit< tt
jump_byte Js = lit< tt
jump_byte Jns = lit< tt
jump_byte Jp = lit< tt
jump_byte Jnp = lit< tt

instr_bytes : (i : Instr86) → instr_fits i ≡ true → Bytes (enc86 i)
instr_bytes (MovReg8 r o) h = (lit< tt, (operand_byte (code8 r) o (code8_small r), tt))
instr_bytes (MovMem8 p r) h = (lit< tt, (one_byte (code8 r) (code_of_ptr p) (code8_small r) (ptr_small p), tt))
instr_bytes (MovAlDirect a) h = (lit< tt, word_bytes a (word_below a h))
instr_bytes (MovDirectAl a) h = (lit< tt, word_bytes a (word_below a h))
instr_bytes (MovNum8 r n) h = (omega (arith, code8_small r), (byte_below n h, tt))
instr_bytes (MovNum16 r w) h = (opcode16 0xB8 r (omega arith), word_bytes w (word_below w h))
instr_bytes (MovMemNum p n) h = (lit< tt, (one_byte 0 (code_of_ptr p) (lit< tt) (ptr_small p), (byte_below n h, tt)))
instr_bytes (MovReg16 r (Reg_16 q)) h = (lit< tt, (two_byte (code16 r) (code16 q) (code16_small r) (code16_small q), tt))
instr_bytes (MovReg16 r (Direct a)) h = (lit< tt, (one_byte (code16 r) 6 (code16_small r) (lit< tt), word_bytes a (word_below a h)))
instr_bytes (MovDirect16 a r) h = (lit< tt, (one_byte (code16 r) 6 (code16_small r) (lit< tt), word_bytes a (word_below a h)))
instr_bytes MovAxDs h = (lit< tt, (lit< tt, tt))
instr_bytes MovSsAx h = (lit< tt, (lit< tt, tt))
instr_bytes (Alu op o) h = (omega (arith, alu_small op), (operand_byte 0 o (lit< tt), tt))
instr_bytes (AluNum op n) h = (omega (arith, alu_small op), (byte_below n h, tt))
instr_bytes OrClCl h = (lit< tt, (lit< tt, tt))
instr_bytes (Add16 r q) h = (lit< tt, (two_byte (code16 r) (code16 q) (code16_small r) (code16_small q), tt))
instr_bytes (Count8 c o) h = (lit< tt, (operand_byte (code_of_count c) o (count_small c), tt))
instr_bytes (Count16 c r) h = (omega (arith, count_small c, code16_small r), tt)
instr_bytes (Push r) h = (opcode16 0x50 (reg_of_stack r) (omega arith), tt)
instr_bytes (Pop r) h = (opcode16 0x58 (reg_of_stack r) (omega arith), tt)
instr_bytes (Xchg8 r q) h = (lit< tt, (two_byte (code8 r) (code8 q) (code8_small r) (code8_small q), tt))
instr_bytes (Xchg16 r q) h = (lit< tt, (two_byte (code16 r) (code16 q) (code16_small r) (code16_small q), tt))
instr_bytes (Rotate8 k r) h = (lit< tt, (two_byte (code_of_rotate k) (code8 r) (rotate_small k) (code8_small r), tt))
instr_bytes (Rotate16 k r) h = (lit< tt, (two_byte (code_of_rotate k) (code16 r) (rotate_small k) (code16_small r), tt))
instr_bytes (Not8 r) h = (lit< tt, (two_byte 2 (code8 r) (lit< tt) (code8_small r), tt))
instr_bytes Daa h = (lit< tt, tt)
instr_bytes Sahf h = (lit< tt, tt)
instr_bytes Lahf h = (lit< tt, tt)
instr_bytes Cmc h = (lit< tt, tt)
instr_bytes Stc h = (lit< tt, tt)
instr_bytes Nop h = (lit< tt, tt)
instr_bytes (JccBy j d) h = absurd (false≢true h)
instr_bytes (JmpNear d) h = absurd (false≢true h)
instr_bytes (JmpShort d) h = absurd (false≢true h)
instr_bytes JmpBx h = (lit< tt, (lit< tt, tt))
instr_bytes (CallNear d) h = absurd (false≢true h)
instr_bytes Ret h = (lit< tt, tt)
instr_bytes Int224 h = (lit< tt, (lit< tt, tt))
instr_bytes (InAl n) h = (lit< tt, (byte_below n h, tt))
instr_bytes (OutAl n) h = (lit< tt, (byte_below n h, tt))

-- ---- offsets are words

offset_within : (at : ℕ) (xs : List Stmt86) (l : Label) (o : ℕ) → offset_from at xs l ≡ Some o → o ≤ at + sizes_of xs
offset_within at [] l o h = absurd (false≢true (ap is_some h))
offset_within at (x ∷ xs) l o h = by_mark (marks l x) h (offset_within (at + size_of x) xs l o)
  where
    by_mark : (b : Bool) → cond b (Some at) (offset_from (at + size_of x) xs l) ≡ Some o → (offset_from (at + size_of x) xs l ≡ Some o → o ≤ at + size_of x + sizes_of xs) → o ≤ at + (size_of x + sizes_of xs)
    by_mark true e rest = let same : at ≡ o = same_Some at o e in omega (arith, same)
    by_mark false e rest = let le = rest e in omega (arith, le)

place_below : (xs : List Stmt86) → sizes_of xs < 65536 → (l : Label) → place_of xs l < 65536
place_below xs small l = by_offset (offset_of xs l) refl
  where
    by_offset : (m : Option ℕ) → offset_of xs l ≡ m → unwrap_or m 0 < 65536
    by_offset None e = lit< tt
    by_offset (Some o) e = let le = offset_within 0 xs l o e in omega (arith, le, small)

-- ---- the bytes of statements

distance_below : (from to : ℕ) → distance16 from to < 65536
distance_below from to = omega arith

module _ (off : Label → ℕ) (words : (l : Label) → off l < 65536) where
  statement_bytes : (at : ℕ) (x : Stmt86) → has_line x ≡ true → Bytes (bytes_at off at x)
  statement_bytes at Cseg h = tt
  statement_bytes at Dseg h = tt
  statement_bytes at (Org w) h = tt
  statement_bytes at (Rb w) h = tt
  statement_bytes at (Db n) h = tt
  statement_bytes at (Dw v) h = tt
  statement_bytes at (Mark l) h = tt
  statement_bytes at (Run i) h = instr_bytes i h
  statement_bytes at (MovOffset r l) h = (opcode16 0xB8 r (omega arith), word_bytes (off l) (words l))
  statement_bytes at (Jmp l) h = (lit< tt, word_bytes (distance16 (at + 3) (off l)) (distance_below (at + 3) (off l)))
  statement_bytes at (Jmps l) h = (lit< tt, (omega arith, tt))
  statement_bytes at (Jcc j l) h = (jump_byte j, (omega arith, tt))
  statement_bytes at (Call l) h = (lit< tt, word_bytes (distance16 (at + 3) (off l)) (distance_below (at + 3) (off l)))
  statement_bytes at EndText h = tt

  code_bytes : (at : ℕ) (xs : List Stmt86) → HaveLines xs → Bytes (code_from off at xs)
  code_bytes at [] h = tt
  code_bytes at (x ∷ xs) h =
      bytes-append (bytes_at off at x) (code_from off (at + size_of x) xs) (statement_bytes at x h.0) (code_bytes (at + size_of x) xs h.1)

-- the code of statements that have written lines has one reader
pub code_has_reader : (xs : List Stmt86) → HaveLines xs → sizes_of xs < 65536 → HasReader (code_of xs)
code_has_reader xs lines small = one_reader (code_of xs) (all_bytes (code_of xs) (code_bytes (place_of xs) (place_below xs small) 0 xs lines))
