-- The tables of registers, operations and first bytes: what stands under a number, and under which number it stands.
use Rattle.std.proofs.Common.{◌≡◌, ℕ, ◌+◌, ◌*◌, ◌<◌, ◌==◌, Bool, true, false, ◌&&◌, cond, List, [], ◌∷◌, Option, Some, None, refl, sym, ap, subst, lit<, arith}
use Rattle.std.proofs.lemmas.Bool.{eqb-true, and_parts, agree_below_at}
use Rattle.std.proofs.lemmas.Bool.Decides.{nat_tests}
use Rattle.i86.specs.declared.Reg8.{Reg8}
use Rattle.i86.specs.declared.Reg8.TheVariants.{Al, Cl, Dl, Bl, Ah, Ch, Dh, Bh}
use Rattle.i86.specs.declared.Reg16.{Reg16}
use Rattle.i86.specs.declared.Reg16.TheVariants.{Ax, Cx, Dx, Bx, Sp, Si}
use Rattle.i86.specs.declared.StackReg.{StackReg}
use Rattle.i86.specs.declared.StackReg.TheVariants.{Ax as StackAx, Cx as StackCx, Dx as StackDx, Bx as StackBx, Si as StackSi}
use Rattle.i86.specs.declared.Ptr.{Ptr}
use Rattle.i86.specs.declared.Ptr.TheVariants.{Bx as PtrBx, Si as PtrSi}
use Rattle.i86.specs.declared.AluOp.{AluOp}
use Rattle.i86.specs.declared.AluOp.TheVariants.{Add, Or, Adc, Sbb, And, Sub, Xor, Cmp}
use Rattle.i86.specs.declared.Count.{Count}
use Rattle.i86.specs.declared.Count.TheVariants.{Inc, Dec}
use Rattle.i86.specs.declared.Rotate.{Rotate}
use Rattle.i86.specs.declared.Rotate.TheVariants.{Rol, Ror, Rcl, Rcr}
use Rattle.i86.specs.declared.Jump.{Jump}
use Rattle.i86.specs.declared.Jump.TheVariants.{Jb, Jnb, Jz, Jnz, Js, Jns, Jp, Jnp}
use Rattle.i86.specs.declared.Instr86.TheVariants.{Count16, Push, Pop}
use Rattle.i86.specs.declared.decoding.ByteForm.{ByteForm}
use Rattle.i86.specs.declared.decoding.ByteForm.TheVariants.{MovNum8 as ByteMov, AluNum as ByteAlu, Jcc as ByteJcc, JmpShort as ByteJmp, InAl as ByteIn, OutAl as ByteOut}
use Rattle.i86.specs.declared.decoding.WordForm.{WordForm}
use Rattle.i86.specs.declared.decoding.WordForm.TheVariants.{MovAlDirect as WordToAl, MovDirectAl as WordFromAl, MovNum16 as WordMov, JmpNear as WordJmp, CallNear as WordCall}
use Rattle.i86.specs.declared.decoding.FieldsForm.{FieldsForm}
use Rattle.i86.specs.declared.decoding.FieldsForm.TheVariants.{MovReg8 as FieldsMov8, MovMem8 as FieldsToMem, MovMemNum as FieldsMemNum, MovReg16 as FieldsMov16, MovDirect16 as FieldsToDirect, Alu as FieldsAlu, Add16 as FieldsAdd16, Count8 as FieldsCount8, Xchg8 as FieldsXchg8, Xchg16 as FieldsXchg16, Rotate8 as FieldsRotate8, Rotate16 as FieldsRotate16, Not8 as FieldsNot8}
use Rattle.i86.specs.declared.decoding.Form.{Form}
use Rattle.i86.specs.declared.decoding.Form.TheVariants.{Alone, Fixed, Byte, Word, Fields}
use Rattle.i86.specs.Enc86.{code8, code16, reg_of_stack, code_of_ptr, code_of_alu, code_of_count, code_of_rotate, code_of_jump, enc86}
use Rattle.i86.specs.Decoder.{entry_under, regs8, regs16, ptrs, counts, rotates, form_of}

-- what holds of each entry of a table
abbrev AllEntries : {X : Type 0} → (ℕ → X → Type 0) → List (ℕ × X) → Type 0
AllEntries P [] = Unit {0}
AllEntries P (e ∷ es) = P e.0 e.1 × AllEntries P es

-- what holds of each entry holds of the one that is found
look_holds : {X : Type 0} (P : ℕ → X → Type 0) (es : List (ℕ × X)) (n : ℕ) (x : X) → AllEntries P es → entry_under es n ≡ Some x → P n x
look_holds P [] n x all h = absurd (cc)
look_holds P (e ∷ es) n x all h = by_test (e.0 == n) refl h (look_holds P es n x all.1)
  where
    by_test : (b : Bool) → (e.0 == n) ≡ b → cond b (Some e.1) (entry_under es n) ≡ Some x → (entry_under es n ≡ Some x → P n x) → P n x
    by_test false f g rec = rec g
    by_test true f g rec =
        let at : e.0 ≡ n = grind (arith, nat_tests) in
        let is : e.1 ≡ x = cc in
        subst (λ m. P m x) at (subst (λ y. P e.0 y) is all.0)

pub code_of_reg8 : (n : ℕ) (r : Reg8) → entry_under regs8 n ≡ Some r → n ≡ code8 r
code_of_reg8 n r h = look_holds (λ m q. m ≡ code8 q) regs8 n r (refl, (refl, (refl, (refl, (refl, (refl, (refl, (refl, tt)))))))) h

pub code_of_reg16 : (n : ℕ) (r : Reg16) → entry_under regs16 n ≡ Some r → n ≡ code16 r
code_of_reg16 n r h = look_holds (λ m q. m ≡ code16 q) regs16 n r (refl, (refl, (refl, (refl, (refl, (refl, tt)))))) h

pub code_of_found_ptr : (n : ℕ) (p : Ptr) → entry_under ptrs n ≡ Some p → n ≡ code_of_ptr p
code_of_found_ptr n p h = look_holds (λ m q. m ≡ code_of_ptr q) ptrs n p (refl, (refl, tt)) h

pub code_of_found_count : (n : ℕ) (c : Count) → entry_under counts n ≡ Some c → n ≡ code_of_count c
code_of_found_count n c h = look_holds (λ m q. m ≡ code_of_count q) counts n c (refl, (refl, tt)) h

pub code_of_found_rotate : (n : ℕ) (k : Rotate) → entry_under rotates n ≡ Some k → n ≡ code_of_rotate k
code_of_found_rotate n k h = look_holds (λ m q. m ≡ code_of_rotate q) rotates n k (refl, (refl, (refl, (refl, tt)))) h

-- what holds of each register or operation, by name
each_reg8 : (P : Reg8 → Type 0) → P Al → P Cl → P Dl → P Bl → P Ah → P Ch → P Dh → P Bh → (r : Reg8) → P r
each_reg8 P a b c d e f g h Al = a
each_reg8 P a b c d e f g h Cl = b
each_reg8 P a b c d e f g h Dl = c
each_reg8 P a b c d e f g h Bl = d
each_reg8 P a b c d e f g h Ah = e
each_reg8 P a b c d e f g h Ch = f
each_reg8 P a b c d e f g h Dh = g
each_reg8 P a b c d e f g h Bh = h

each_reg16 : (P : Reg16 → Type 0) → P Ax → P Cx → P Dx → P Bx → P Sp → P Si → (r : Reg16) → P r
each_reg16 P a b c d e f Ax = a
each_reg16 P a b c d e f Cx = b
each_reg16 P a b c d e f Dx = c
each_reg16 P a b c d e f Bx = d
each_reg16 P a b c d e f Sp = e
each_reg16 P a b c d e f Si = f

each_stack_reg : (P : StackReg → Type 0) → P StackAx → P StackCx → P StackDx → P StackBx → P StackSi → (r : StackReg) → P r
each_stack_reg P a b c d e StackAx = a
each_stack_reg P a b c d e StackCx = b
each_stack_reg P a b c d e StackDx = c
each_stack_reg P a b c d e StackBx = d
each_stack_reg P a b c d e StackSi = e

each_alu : (P : AluOp → Type 0) → P Add → P Or → P Adc → P Sbb → P And → P Sub → P Xor → P Cmp → (o : AluOp) → P o
each_alu P a b c d e f g h Add = a
each_alu P a b c d e f g h Or = b
each_alu P a b c d e f g h Adc = c
each_alu P a b c d e f g h Sbb = d
each_alu P a b c d e f g h And = e
each_alu P a b c d e f g h Sub = f
each_alu P a b c d e f g h Xor = g
each_alu P a b c d e f g h Cmp = h

each_jump : (P : Jump → Type 0) → P Jb → P Jnb → P Jz → P Jnz → P Js → P Jns → P Jp → P Jnp → (j : Jump) → P j
each_jump P a b c d e f g h Jb = a
each_jump P a b c d e f g h Jnb = b
each_jump P a b c d e f g h Jz = c
each_jump P a b c d e f g h Jnz = d
each_jump P a b c d e f g h Js = e
each_jump P a b c d e f g h Jns = f
each_jump P a b c d e f g h Jp = g
each_jump P a b c d e f g h Jnp = h

pub reg8_found : (r : Reg8) → entry_under regs8 (code8 r) ≡ Some r
reg8_found = each_reg8 (λ r. entry_under regs8 (code8 r) ≡ Some r) refl refl refl refl refl refl refl refl

pub reg16_found : (r : Reg16) → entry_under regs16 (code16 r) ≡ Some r
reg16_found = each_reg16 (λ r. entry_under regs16 (code16 r) ≡ Some r) refl refl refl refl refl refl

pub ptr_found : (p : Ptr) → entry_under ptrs (code_of_ptr p) ≡ Some p
ptr_found PtrBx = refl
ptr_found PtrSi = refl

pub count_found : (c : Count) → entry_under counts (code_of_count c) ≡ Some c
count_found Inc = refl
count_found Dec = refl

pub rotate_found : (k : Rotate) → entry_under rotates (code_of_rotate k) ≡ Some k
rotate_found Rol = refl
rotate_found Ror = refl
rotate_found Rcl = refl
rotate_found Rcr = refl

pub code8_small : (r : Reg8) → code8 r < 8
code8_small = each_reg8 (λ r. code8 r < 8) (lit< tt) (lit< tt) (lit< tt) (lit< tt) (lit< tt) (lit< tt) (lit< tt) (lit< tt)

pub code16_small : (r : Reg16) → code16 r < 8
code16_small = each_reg16 (λ r. code16 r < 8) (lit< tt) (lit< tt) (lit< tt) (lit< tt) (lit< tt) (lit< tt)

pub ptr_small : (p : Ptr) → code_of_ptr p < 8
ptr_small PtrBx = lit< tt
ptr_small PtrSi = lit< tt

pub count_small : (c : Count) → code_of_count c < 8
count_small Inc = lit< tt
count_small Dec = lit< tt

pub rotate_small : (k : Rotate) → code_of_rotate k < 8
rotate_small Rol = lit< tt
rotate_small Ror = lit< tt
rotate_small Rcl = lit< tt
rotate_small Rcr = lit< tt

-- the first byte of a form
abbrev pub byte_opcode : ByteForm → ℕ
byte_opcode (ByteMov r) = 0xB0 + code8 r
byte_opcode (ByteAlu o) = 8 * code_of_alu o + 4
byte_opcode (ByteJcc j) = code_of_jump j
byte_opcode ByteJmp = 0xEB
byte_opcode ByteIn = 0xE4
byte_opcode ByteOut = 0xE6

abbrev pub word_opcode : WordForm → ℕ
word_opcode WordToAl = 0xA0
word_opcode WordFromAl = 0xA2
word_opcode (WordMov r) = 0xB8 + code16 r
word_opcode WordJmp = 0xE9
word_opcode WordCall = 0xE8

abbrev pub fields_opcode : FieldsForm → ℕ
fields_opcode FieldsMov8 = 0x8A
fields_opcode FieldsToMem = 0x88
fields_opcode FieldsMemNum = 0xC6
fields_opcode FieldsMov16 = 0x8B
fields_opcode FieldsToDirect = 0x89
fields_opcode (FieldsAlu o) = 8 * code_of_alu o + 2
fields_opcode FieldsAdd16 = 0x03
fields_opcode FieldsCount8 = 0xFE
fields_opcode FieldsXchg8 = 0x86
fields_opcode FieldsXchg16 = 0x87
fields_opcode FieldsRotate8 = 0xD0
fields_opcode FieldsRotate16 = 0xD1
fields_opcode FieldsNot8 = 0xF6

-- each form is found under its first byte
pub byte_form : (f : ByteForm) → form_of (byte_opcode f) ≡ Some (Byte f)
byte_form (ByteMov r) = each_reg8 (λ r. form_of (byte_opcode (ByteMov r)) ≡ Some (Byte (ByteMov r))) refl refl refl refl refl refl refl refl r
byte_form (ByteAlu o) = each_alu (λ o. form_of (byte_opcode (ByteAlu o)) ≡ Some (Byte (ByteAlu o))) refl refl refl refl refl refl refl refl o
byte_form (ByteJcc j) = each_jump (λ j. form_of (byte_opcode (ByteJcc j)) ≡ Some (Byte (ByteJcc j))) refl refl refl refl refl refl refl refl j
byte_form ByteJmp = refl
byte_form ByteIn = refl
byte_form ByteOut = refl

pub word_form : (f : WordForm) → form_of (word_opcode f) ≡ Some (Word f)
word_form WordToAl = refl
word_form WordFromAl = refl
word_form (WordMov r) = each_reg16 (λ r. form_of (word_opcode (WordMov r)) ≡ Some (Word (WordMov r))) refl refl refl refl refl refl r
word_form WordJmp = refl
word_form WordCall = refl

pub fields_form : (f : FieldsForm) → form_of (fields_opcode f) ≡ Some (Fields f)
fields_form FieldsMov8 = refl
fields_form FieldsToMem = refl
fields_form FieldsMemNum = refl
fields_form FieldsMov16 = refl
fields_form FieldsToDirect = refl
fields_form (FieldsAlu o) = each_alu (λ o. form_of (fields_opcode (FieldsAlu o)) ≡ Some (Fields (FieldsAlu o))) refl refl refl refl refl refl refl refl o
fields_form FieldsAdd16 = refl
fields_form FieldsCount8 = refl
fields_form FieldsXchg8 = refl
fields_form FieldsXchg16 = refl
fields_form FieldsRotate8 = refl
fields_form FieldsRotate16 = refl
fields_form FieldsNot8 = refl

pub count_form : (c : Count) (r : Reg16) → form_of (0x40 + (8 * code_of_count c + code16 r)) ≡ Some (Alone (Count16 c r))
count_form Inc = each_reg16 (λ r. form_of (0x40 + (8 * 0 + code16 r)) ≡ Some (Alone (Count16 Inc r))) refl refl refl refl refl refl
count_form Dec = each_reg16 (λ r. form_of (0x40 + (8 * 1 + code16 r)) ≡ Some (Alone (Count16 Dec r))) refl refl refl refl refl refl

pub push_form : (r : StackReg) → form_of (0x50 + code16 (reg_of_stack r)) ≡ Some (Alone (Push r))
push_form = each_stack_reg (λ r. form_of (0x50 + code16 (reg_of_stack r)) ≡ Some (Alone (Push r))) refl refl refl refl refl

pub pop_form : (r : StackReg) → form_of (0x58 + code16 (reg_of_stack r)) ≡ Some (Alone (Pop r))
pop_form = each_stack_reg (λ r. form_of (0x58 + code16 (reg_of_stack r)) ≡ Some (Alone (Pop r))) refl refl refl refl refl

-- a byte alone, and two bytes
abbrev is_byte : ℕ → List ℕ → Bool
is_byte b [] = false
is_byte b (x ∷ []) = x == b
is_byte b (x ∷ (y ∷ rest)) = false

abbrev are_bytes : ℕ → ℕ → List ℕ → Bool
are_bytes b c [] = false
are_bytes b c (x ∷ bytes) = (x == b) && is_byte c bytes

-- the form under a first byte begins with that byte
abbrev begins : ℕ → Option Form → Bool
begins b None = true
begins b (Some (Alone i)) = is_byte b (enc86 i)
begins b (Some (Fixed c i)) = are_bytes b c (enc86 i)
begins b (Some (Byte f)) = byte_opcode f == b
begins b (Some (Word f)) = word_opcode f == b
begins b (Some (Fields f)) = fields_opcode f == b

byte_is : (b : ℕ) (bytes : List ℕ) → is_byte b bytes ≡ true → bytes ≡ b ∷ []
byte_is b [] h = absurd (cc)
byte_is b (x ∷ []) h = ap (λ y. y ∷ []) (eqb-true x b h)
byte_is b (x ∷ (y ∷ rest)) h = absurd (cc)

bytes_are : (b c : ℕ) (bytes : List ℕ) → are_bytes b c bytes ≡ true → bytes ≡ b ∷ (c ∷ [])
bytes_are b c [] h = absurd (cc)
bytes_are b c (x ∷ bytes) h =
    let parts = and_parts (x == b) (is_byte c bytes) h in
    let first : x ≡ b = eqb-true x b parts.0 in
    let rest : bytes ≡ c ∷ [] = byte_is c bytes parts.1 in
    cc

-- what a form says of the bytes of its instructions, where it stands under this first byte
abbrev pub Says : ℕ → Form → Type 0
Says b (Alone i) = enc86 i ≡ b ∷ []
Says b (Fixed c i) = enc86 i ≡ b ∷ (c ∷ [])
Says b (Byte f) = b ≡ byte_opcode f
Says b (Word f) = b ≡ word_opcode f
Says b (Fields f) = b ≡ fields_opcode f

begins_says : (b : ℕ) (f : Form) → begins b (Some f) ≡ true → Says b f
begins_says b (Alone i) h = byte_is b (enc86 i) h
begins_says b (Fixed c i) h = bytes_are b c (enc86 i) h
begins_says b (Byte f) h = sym (eqb-true (byte_opcode f) b h)
begins_says b (Word f) h = sym (eqb-true (word_opcode f) b h)
begins_says b (Fields f) h = sym (eqb-true (fields_opcode f) b h)

-- at each of the 256 first bytes, by a test of the whole table that the checker computes
pub form_says : (b : ℕ) (f : Form) → b < 256 → form_of b ≡ Some f → Says b f
form_says b f lt h = begins_says b f (subst (λ o. begins b o ≡ true) h (agree_below_at (λ n. begins n (form_of n)) (λ _. true) 256 b refl lt))
