-- The table of opcodes: what form stands under each, and that it begins with it.
use Rattle.std.proofs.Common.{◌≡◌, ℕ, ◌+◌, ◌*◌, ◌<◌, ◌==◌, Bool, true, false, ◌&&◌, List, [], ◌∷◌, Option, Some, None, refl, sym, ap, subst}
use Rattle.std.proofs.lemmas.Bool.{eqb-true, and_parts, agree_below_at}
use Rattle.cells.specs.declared.Cond.{Cond}
use Rattle.cells.specs.declared.Cond.TheVariants.{Nz, Z, Nc, C as Carry, Po, Pe, P, M}
use Rattle.i80.specs.declared.Reg.TheVariants.{A, B, C, D, E, H, L}
use Rattle.i80.specs.declared.Src.{Src}
use Rattle.i80.specs.declared.Src.TheVariants.{Reg, Mem}
use Rattle.i80.specs.declared.Pair.{Pair}
use Rattle.i80.specs.declared.Pair.TheVariants.{B as PairB, D as PairD, H as PairH, Sp}
use Rattle.i80.specs.declared.StackPair.{StackPair}
use Rattle.i80.specs.declared.StackPair.TheVariants.{B as StackB, D as StackD, H as StackH, Psw}
use Rattle.i80.specs.declared.Op.{Op}
use Rattle.i80.specs.declared.Op.TheVariants.{Add, Adc, Sub, Sbb, Ana, Xra, Ora, Cmp}
use Rattle.i80.specs.declared.Instr80.TheVariants.{Mov, Ldax, Stax, Alu, Inr, Dcr, Inx, Dcx, Dad, Push, Pop, Rif}
use Rattle.i80.specs.Columns.{is_well_formed}
use Rattle.i80_bytes.specs.declared.decoding.Form.{Form}
use Rattle.i80_bytes.specs.declared.decoding.Form.TheVariants.{Alone, Byte, Word}
use Rattle.i80_bytes.specs.declared.decoding.ByteForm.{ByteForm}
use Rattle.i80_bytes.specs.declared.decoding.ByteForm.TheVariants.{Mvi as ByteMvi, AluI as ByteAlu, In as ByteIn, Out as ByteOut}
use Rattle.i80_bytes.specs.declared.decoding.WordForm.{WordForm}
use Rattle.i80_bytes.specs.declared.decoding.WordForm.TheVariants.{Lxi as WordLxi, Lda as WordLda, Sta as WordSta, Lhld as WordLhld, Shld as WordShld, Jmp as WordJmp, Jif as WordJif, Call as WordCall, Cif as WordCif}
use Rattle.i80_bytes.specs.Enc80.{enc80, code_of_operand, code_of_pair, code_of_stack_pair, code_of_condition, code_of_operation}
use Rattle.i80_bytes.specs.Decoder.{form_of}

-- what holds of each operand, pair, condition or operation, by name
each_operand : (Holds : Src → Type 0) → Holds (Reg B) → Holds (Reg C) → Holds (Reg D) → Holds (Reg E) → Holds (Reg H) → Holds (Reg L) → Holds Mem → Holds (Reg A) → (x : Src) → Holds x
each_operand Holds a b c d e f g h (Reg B) = a
each_operand Holds a b c d e f g h (Reg C) = b
each_operand Holds a b c d e f g h (Reg D) = c
each_operand Holds a b c d e f g h (Reg E) = d
each_operand Holds a b c d e f g h (Reg H) = e
each_operand Holds a b c d e f g h (Reg L) = f
each_operand Holds a b c d e f g h Mem = g
each_operand Holds a b c d e f g h (Reg A) = h

each_pair : (Holds : Pair → Type 0) → Holds PairB → Holds PairD → Holds PairH → Holds Sp → (x : Pair) → Holds x
each_pair Holds a b c d PairB = a
each_pair Holds a b c d PairD = b
each_pair Holds a b c d PairH = c
each_pair Holds a b c d Sp = d

each_stack_pair : (Holds : StackPair → Type 0) → Holds StackB → Holds StackD → Holds StackH → Holds Psw → (x : StackPair) → Holds x
each_stack_pair Holds a b c d StackB = a
each_stack_pair Holds a b c d StackD = b
each_stack_pair Holds a b c d StackH = c
each_stack_pair Holds a b c d Psw = d

each_condition : (Holds : Cond → Type 0) → Holds Nz → Holds Z → Holds Nc → Holds Carry → Holds Po → Holds Pe → Holds P → Holds M → (x : Cond) → Holds x
each_condition Holds a b c d e f g h Nz = a
each_condition Holds a b c d e f g h Z = b
each_condition Holds a b c d e f g h Nc = c
each_condition Holds a b c d e f g h Carry = d
each_condition Holds a b c d e f g h Po = e
each_condition Holds a b c d e f g h Pe = f
each_condition Holds a b c d e f g h P = g
each_condition Holds a b c d e f g h M = h

each_operation : (Holds : Op → Type 0) → Holds Add → Holds Adc → Holds Sub → Holds Sbb → Holds Ana → Holds Xra → Holds Ora → Holds Cmp → (x : Op) → Holds x
each_operation Holds a b c d e f g h Add = a
each_operation Holds a b c d e f g h Adc = b
each_operation Holds a b c d e f g h Sub = c
each_operation Holds a b c d e f g h Sbb = d
each_operation Holds a b c d e f g h Ana = e
each_operation Holds a b c d e f g h Xra = f
each_operation Holds a b c d e f g h Ora = g
each_operation Holds a b c d e f g h Cmp = h

-- the opcode of a form
abbrev pub byte_opcode : ByteForm → ℕ
byte_opcode (ByteMvi s) = 0x06 + 8 * code_of_operand s
byte_opcode (ByteAlu op) = 0xC6 + 8 * code_of_operation op
byte_opcode ByteIn = 0xDB
byte_opcode ByteOut = 0xD3

abbrev pub word_opcode : WordForm → ℕ
word_opcode (WordLxi p) = 0x01 + 0x10 * code_of_pair p
word_opcode WordLda = 0x3A
word_opcode WordSta = 0x32
word_opcode WordLhld = 0x2A
word_opcode WordShld = 0x22
word_opcode WordJmp = 0xC3
word_opcode (WordJif c) = 0xC2 + 8 * code_of_condition c
word_opcode WordCall = 0xCD
word_opcode (WordCif c) = 0xC4 + 8 * code_of_condition c

-- each form is found under its opcode
pub byte_form : (f : ByteForm) → form_of (byte_opcode f) ≡ Some (Byte f)
byte_form (ByteMvi s) = each_operand (λ s. form_of (byte_opcode (ByteMvi s)) ≡ Some (Byte (ByteMvi s))) refl refl refl refl refl refl refl refl s
byte_form (ByteAlu op) = each_operation (λ op. form_of (byte_opcode (ByteAlu op)) ≡ Some (Byte (ByteAlu op))) refl refl refl refl refl refl refl refl op
byte_form ByteIn = refl
byte_form ByteOut = refl

pub word_form : (f : WordForm) → form_of (word_opcode f) ≡ Some (Word f)
word_form (WordLxi p) = each_pair (λ p. form_of (word_opcode (WordLxi p)) ≡ Some (Word (WordLxi p))) refl refl refl refl p
word_form WordLda = refl
word_form WordSta = refl
word_form WordLhld = refl
word_form WordShld = refl
word_form WordJmp = refl
word_form (WordJif c) = each_condition (λ c. form_of (word_opcode (WordJif c)) ≡ Some (Word (WordJif c))) refl refl refl refl refl refl refl refl c
word_form WordCall = refl
word_form (WordCif c) = each_condition (λ c. form_of (word_opcode (WordCif c)) ≡ Some (Word (WordCif c))) refl refl refl refl refl refl refl refl c

pub mov_found : (to from : Src) → is_well_formed (Mov to from) ≡ true → form_of (0x40 + 8 * code_of_operand to + code_of_operand from) ≡ Some (Alone (Mov to from))
mov_found (Reg B) from h = each_operand (λ s. form_of (0x40 + 8 * code_of_operand (Reg B) + code_of_operand s) ≡ Some (Alone (Mov (Reg B) s))) refl refl refl refl refl refl refl refl from
mov_found (Reg C) from h = each_operand (λ s. form_of (0x40 + 8 * code_of_operand (Reg C) + code_of_operand s) ≡ Some (Alone (Mov (Reg C) s))) refl refl refl refl refl refl refl refl from
mov_found (Reg D) from h = each_operand (λ s. form_of (0x40 + 8 * code_of_operand (Reg D) + code_of_operand s) ≡ Some (Alone (Mov (Reg D) s))) refl refl refl refl refl refl refl refl from
mov_found (Reg E) from h = each_operand (λ s. form_of (0x40 + 8 * code_of_operand (Reg E) + code_of_operand s) ≡ Some (Alone (Mov (Reg E) s))) refl refl refl refl refl refl refl refl from
mov_found (Reg H) from h = each_operand (λ s. form_of (0x40 + 8 * code_of_operand (Reg H) + code_of_operand s) ≡ Some (Alone (Mov (Reg H) s))) refl refl refl refl refl refl refl refl from
mov_found (Reg L) from h = each_operand (λ s. form_of (0x40 + 8 * code_of_operand (Reg L) + code_of_operand s) ≡ Some (Alone (Mov (Reg L) s))) refl refl refl refl refl refl refl refl from
mov_found (Reg A) from h = each_operand (λ s. form_of (0x40 + 8 * code_of_operand (Reg A) + code_of_operand s) ≡ Some (Alone (Mov (Reg A) s))) refl refl refl refl refl refl refl refl from
mov_found Mem (Reg B) h = refl
mov_found Mem (Reg C) h = refl
mov_found Mem (Reg D) h = refl
mov_found Mem (Reg E) h = refl
mov_found Mem (Reg H) h = refl
mov_found Mem (Reg L) h = refl
mov_found Mem (Reg A) h = refl
mov_found Mem Mem h = absurd (cc)

pub alu_found : (op : Op) (s : Src) → form_of (0x80 + 8 * code_of_operation op + code_of_operand s) ≡ Some (Alone (Alu op s))
alu_found Add s = each_operand (λ s. form_of (0x80 + 8 * code_of_operation Add + code_of_operand s) ≡ Some (Alone (Alu Add s))) refl refl refl refl refl refl refl refl s
alu_found Adc s = each_operand (λ s. form_of (0x80 + 8 * code_of_operation Adc + code_of_operand s) ≡ Some (Alone (Alu Adc s))) refl refl refl refl refl refl refl refl s
alu_found Sub s = each_operand (λ s. form_of (0x80 + 8 * code_of_operation Sub + code_of_operand s) ≡ Some (Alone (Alu Sub s))) refl refl refl refl refl refl refl refl s
alu_found Sbb s = each_operand (λ s. form_of (0x80 + 8 * code_of_operation Sbb + code_of_operand s) ≡ Some (Alone (Alu Sbb s))) refl refl refl refl refl refl refl refl s
alu_found Ana s = each_operand (λ s. form_of (0x80 + 8 * code_of_operation Ana + code_of_operand s) ≡ Some (Alone (Alu Ana s))) refl refl refl refl refl refl refl refl s
alu_found Xra s = each_operand (λ s. form_of (0x80 + 8 * code_of_operation Xra + code_of_operand s) ≡ Some (Alone (Alu Xra s))) refl refl refl refl refl refl refl refl s
alu_found Ora s = each_operand (λ s. form_of (0x80 + 8 * code_of_operation Ora + code_of_operand s) ≡ Some (Alone (Alu Ora s))) refl refl refl refl refl refl refl refl s
alu_found Cmp s = each_operand (λ s. form_of (0x80 + 8 * code_of_operation Cmp + code_of_operand s) ≡ Some (Alone (Alu Cmp s))) refl refl refl refl refl refl refl refl s

pub inr_found : (s : Src) → form_of (0x04 + 8 * code_of_operand s) ≡ Some (Alone (Inr s))
inr_found = each_operand (λ s. form_of (0x04 + 8 * code_of_operand s) ≡ Some (Alone (Inr s))) refl refl refl refl refl refl refl refl

pub dcr_found : (s : Src) → form_of (0x05 + 8 * code_of_operand s) ≡ Some (Alone (Dcr s))
dcr_found = each_operand (λ s. form_of (0x05 + 8 * code_of_operand s) ≡ Some (Alone (Dcr s))) refl refl refl refl refl refl refl refl

pub inx_found : (p : Pair) → form_of (0x03 + 0x10 * code_of_pair p) ≡ Some (Alone (Inx p))
inx_found = each_pair (λ p. form_of (0x03 + 0x10 * code_of_pair p) ≡ Some (Alone (Inx p))) refl refl refl refl

pub dcx_found : (p : Pair) → form_of (0x0B + 0x10 * code_of_pair p) ≡ Some (Alone (Dcx p))
dcx_found = each_pair (λ p. form_of (0x0B + 0x10 * code_of_pair p) ≡ Some (Alone (Dcx p))) refl refl refl refl

pub dad_found : (p : Pair) → form_of (0x09 + 0x10 * code_of_pair p) ≡ Some (Alone (Dad p))
dad_found = each_pair (λ p. form_of (0x09 + 0x10 * code_of_pair p) ≡ Some (Alone (Dad p))) refl refl refl refl

pub push_found : (p : StackPair) → form_of (0xC5 + 0x10 * code_of_stack_pair p) ≡ Some (Alone (Push p))
push_found = each_stack_pair (λ p. form_of (0xC5 + 0x10 * code_of_stack_pair p) ≡ Some (Alone (Push p))) refl refl refl refl

pub pop_found : (p : StackPair) → form_of (0xC1 + 0x10 * code_of_stack_pair p) ≡ Some (Alone (Pop p))
pop_found = each_stack_pair (λ p. form_of (0xC1 + 0x10 * code_of_stack_pair p) ≡ Some (Alone (Pop p))) refl refl refl refl

pub rif_found : (c : Cond) → form_of (0xC0 + 8 * code_of_condition c) ≡ Some (Alone (Rif c))
rif_found = each_condition (λ c. form_of (0xC0 + 8 * code_of_condition c) ≡ Some (Alone (Rif c))) refl refl refl refl refl refl refl refl

pub ldax_found : (p : Pair) → is_well_formed (Ldax p) ≡ true → form_of (0x0A + 0x10 * code_of_pair p) ≡ Some (Alone (Ldax p))
ldax_found PairB h = refl
ldax_found PairD h = refl
ldax_found PairH h = absurd (cc)
ldax_found Sp h = absurd (cc)

pub stax_found : (p : Pair) → is_well_formed (Stax p) ≡ true → form_of (0x02 + 0x10 * code_of_pair p) ≡ Some (Alone (Stax p))
stax_found PairB h = refl
stax_found PairD h = refl
stax_found PairH h = absurd (cc)
stax_found Sp h = absurd (cc)

-- a byte alone
abbrev is_byte : ℕ → List ℕ → Bool
is_byte b [] = false
is_byte b (x ∷ []) = x == b
is_byte b (x ∷ (y ∷ rest)) = false

-- the form under an opcode begins with it, and an instruction of one byte is one of the 8080
abbrev begins : ℕ → Option Form → Bool
begins b None = true
begins b (Some (Alone i)) = is_byte b (enc80 i) && is_well_formed i
begins b (Some (Byte f)) = byte_opcode f == b
begins b (Some (Word f)) = word_opcode f == b

byte_is : (b : ℕ) (bytes : List ℕ) → is_byte b bytes ≡ true → bytes ≡ b ∷ []
byte_is b [] h = absurd (cc)
byte_is b (x ∷ []) h = ap (λ y. y ∷ []) (eqb-true x b h)
byte_is b (x ∷ (y ∷ rest)) h = absurd (cc)

-- what a form says of its instructions, where it stands under this opcode
abbrev pub Says : ℕ → Form → Type 0
Says b (Alone i) = (enc80 i ≡ b ∷ []) × (is_well_formed i ≡ true)
Says b (Byte f) = b ≡ byte_opcode f
Says b (Word f) = b ≡ word_opcode f

begins_says : (b : ℕ) (f : Form) → begins b (Some f) ≡ true → Says b f
begins_says b (Alone i) h = let both = and_parts (is_byte b (enc80 i)) (is_well_formed i) h in (byte_is b (enc80 i) both.0, both.1)
begins_says b (Byte f) h = sym (eqb-true (byte_opcode f) b h)
begins_says b (Word f) h = sym (eqb-true (word_opcode f) b h)

-- at each of the 256 opcodes, by a test of the whole table that the checker computes
pub form_says : (b : ℕ) (f : Form) → b < 256 → form_of b ≡ Some f → Says b f
form_says b f lt h = begins_says b f (subst (λ o. begins b o ≡ true) h (agree_below_at (λ n. begins n (form_of n)) (λ _. true) 256 b refl lt))
