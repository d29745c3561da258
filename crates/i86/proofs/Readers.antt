-- What is decoded at a place is what stands there, and nothing else stands there.
use Rattle.std.proofs.Common.{◌≡◌, ℕ, zero, suc, ◌+◌, ◌*◌, ◌/◌, ◌%◌, ◌<◌, ◌==◌, Bool, true, false, cond, List, [], ◌∷◌, length, get_or, Option, Some, None, option_map, option_and_then, slice_get, refl, sym, ap, ◌∙◌, subst, lit<, arith}
use Rattle.std.specs.Prelude.{All}
use Rattle.std.proofs.lemmas.Option.{get_or_from_slice_get}
use Rattle.std.proofs.lemmas.Bool.{eqb-true}
use Rattle.std.proofs.lemmas.Bool.Decides.{nat_tests}
use Rattle.i86.specs.declared.Reg16.{Reg16}
use Rattle.i86.specs.declared.Operand8.{Operand8}
use Rattle.i86.specs.declared.Operand8.TheVariants.{Mem}
use Rattle.i86.specs.declared.Operand16.{Operand16}
use Rattle.i86.specs.declared.Operand16.TheVariants.{Reg as Reg_16, Direct}
use Rattle.i86.specs.declared.AluOp.{AluOp}
use Rattle.i86.specs.declared.AluOp.TheVariants.{Add, Or, Adc, Sbb, And, Sub, Xor, Cmp}
use Rattle.i86.specs.declared.Instr86.{Instr86}
use Rattle.i86.specs.declared.Instr86.TheVariants.{MovReg8, MovMem8, MovAlDirect, MovDirectAl, MovNum8, MovNum16, MovMemNum, MovReg16, MovDirect16, MovAxDs, MovSsAx, Alu, AluNum, OrClCl, Add16, Count8, Count16, Push, Pop, Xchg8, Xchg16, Rotate8, Rotate16, Not8, Daa, Sahf, Lahf, Cmc, Stc, Nop, Jcc, JmpNear, JmpShort, JmpBx, CallNear, Ret, Int224, InAl, OutAl}
use Rattle.i86.specs.declared.decoding.ByteForm.{ByteForm}
use Rattle.i86.specs.declared.decoding.ByteForm.TheVariants.{MovNum8 as ByteMov, AluNum as ByteAlu, Jcc as ByteJcc, JmpShort as ByteJmp, InAl as ByteIn, OutAl as ByteOut}
use Rattle.i86.specs.declared.decoding.WordForm.{WordForm}
use Rattle.i86.specs.declared.decoding.WordForm.TheVariants.{MovAlDirect as WordToAl, MovDirectAl as WordFromAl, MovNum16 as WordMov, JmpNear as WordJmp, CallNear as WordCall}
use Rattle.i86.specs.declared.decoding.FieldsForm.{FieldsForm}
use Rattle.i86.specs.declared.decoding.FieldsForm.TheVariants.{MovReg8 as FieldsMov8, MovMem8 as FieldsToMem, MovMemNum as FieldsMemNum, MovReg16 as FieldsMov16, MovDirect16 as FieldsToDirect, Alu as FieldsAlu, Add16 as FieldsAdd16, Count8 as FieldsCount8, Xchg8 as FieldsXchg8, Xchg16 as FieldsXchg16, Rotate8 as FieldsRotate8, Rotate16 as FieldsRotate16, Not8 as FieldsNot8}
use Rattle.i86.specs.declared.decoding.Form.{Form}
use Rattle.i86.specs.declared.decoding.Form.TheVariants.{Alone, Fixed, Byte, Word, Fields}
use Rattle.i86.specs.Enc86.{code8, code16, reg_of_stack, code_of_ptr, code_of_alu, code_of_count, code_of_rotate, two, one, with_operand, word_then, enc86}
use Rattle.i86.specs.Code.{HasBytes, ReadsCode}
use Rattle.i86.specs.Decode.{IsOnlyReader, HasOneReader, IsDecodedAt}
use Rattle.i86.specs.Decoder.{entry_under, regs8, regs16, counts, rotates, reg8_at, reg16_at, ptr_at, operand8_at, direct_at, operand16_at, or_cl_cl, of_two, with_fields, instruction_with_byte, instruction_with_word, word_from, form_of, by_form, by_first, decoded}
use Rattle.i86.proofs.Tables.{code_of_reg8, code_of_reg16, code_of_found_count, code_of_found_rotate, reg8_found, reg16_found, ptr_found, count_found, rotate_found, code8_small, code16_small, ptr_small, count_small, rotate_small, byte_opcode, word_opcode, fields_opcode, byte_form, word_form, fields_form, count_form, push_form, pop_form, Says, form_says}
use Rattle.i86.proofs.Operands.{fields, mode_of, reg_of, rm_of, parts, if_then, of_map, of_both, both_found, reg8_at_is, reg16_at_is, ptr_at_is, direct_at_is, operand8_at_is, Names, operand16_at_is, mode_of_operand, rm_of_operand, operand8_fields, operand8_mode_small, operand8_rm_small, operand8_found}

word_parts : (w : ℕ) → 256 * (w / 256) + w % 256 ≡ w
word_parts w = omega arith

low_of : (h l : ℕ) → l < 256 → (256 * h + l) % 256 ≡ l
low_of h l b = omega arith

high_of : (h l : ℕ) → l < 256 → (256 * h + l) / 256 ≡ h
high_of h l b = omega arith

byte_encoding : (f : ByteForm) (n : ℕ) → enc86 (instruction_with_byte f n) ≡ byte_opcode f ∷ (n ∷ [])
byte_encoding (ByteMov r) n = refl
byte_encoding (ByteAlu o) n = refl
byte_encoding (ByteJcc j) n = refl
byte_encoding ByteJmp n = refl
byte_encoding ByteIn n = refl
byte_encoding ByteOut n = refl

word_encoding : (f : WordForm) (w : ℕ) → enc86 (instruction_with_word f w) ≡ word_opcode f ∷ word_then w []
word_encoding WordToAl w = refl
word_encoding WordFromAl w = refl
word_encoding (WordMov r) w = refl
word_encoding WordJmp w = refl
word_encoding WordCall w = refl

module _ (code : List ℕ) (at : ℕ) where
  abbrev x : Option ℕ
  x = slice_get code (at + 1)

  abbrev y : Option ℕ
  y = slice_get code (at + 2)

  abbrev z : Option ℕ
  z = slice_get code (at + 3)

  abbrev HasAt : Instr86 → Type 0
  HasAt i = HasBytes code at (enc86 i)

  third : slice_get code (at + 1 + 1) ≡ y
  third = let e : at + 1 + 1 ≡ at + 2 = omega arith in ap (slice_get code) e

  fourth : slice_get code (at + 1 + 1 + 1) ≡ z
  fourth = let e : at + 1 + 1 + 1 ≡ at + 3 = omega arith in ap (slice_get code) e

  -- from the bytes of an instruction to what is decoded
  at_form : (b : ℕ) (f : Form) → form_of b ≡ Some f → slice_get code at ≡ Some b → decoded code at ≡ by_form (Some f) x y z
  unfolding decoded
  at_form b f e h = ap (λ o. by_first o x y z) h ∙ ap (λ g. by_form g x y z) e

  word_there : (p q : Option ℕ) (w : ℕ) → p ≡ Some (w % 256) → q ≡ Some (w / 256) → word_from p q ≡ Some w
  word_there p q w h g = ap (λ o. word_from o q) h ∙ ap (λ o. word_from (Some (w % 256)) o) g ∙ ap Some (word_parts w)

  at_byte : (f : ByteForm) (n : ℕ) → HasBytes code at (byte_opcode f ∷ (n ∷ [])) → decoded code at ≡ Some (instruction_with_byte f n)
  at_byte f n h = at_form (byte_opcode f) (Byte f) (byte_form f) h.0 ∙ ap (option_map (instruction_with_byte f)) h.1.0

  at_word : (f : WordForm) (w : ℕ) → HasBytes code at (word_opcode f ∷ word_then w []) → decoded code at ≡ Some (instruction_with_word f w)
  at_word f w h = at_form (word_opcode f) (Word f) (word_form f) h.0 ∙ ap (option_map (instruction_with_word f)) (word_there x y w h.1.0 (sym third ∙ h.1.1.0))

  at_fixed : (b c : ℕ) (i : Instr86) → form_of b ≡ Some (Fixed c i) → HasBytes code at (b ∷ (c ∷ [])) → decoded code at ≡ Some i
  at_fixed b c i e h = at_form b (Fixed c i) e h.0 ∙ ap (option_and_then (λ (m : ℕ). cond (m == c) (Some i) None)) h.1.0 ∙ ap (λ t. cond t (Some i) None) self
    where
      self : (c == c) ≡ true
      self = grind (arith, nat_tests)

  at_fields : (f : FieldsForm) (m mode reg rm : ℕ) → m ≡ fields mode reg rm → mode < 4 → reg < 8 → rm < 8 → slice_get code at ≡ Some (fields_opcode f) → x ≡ Some m → decoded code at ≡ with_fields f mode reg rm y (word_from y z)
  at_fields f m mode reg rm e u v w h g =
      at_form (fields_opcode f) (Fields f) (fields_form f) h
      ∙ ap (λ o. by_form (Some (Fields f)) o y z) (g ∙ ap Some e)
      ∙ ap (λ k. with_fields f k (fields mode reg rm / 8 % 8) (fields mode reg rm % 8) y (word_from y z)) (mode_of mode reg rm v w)
      ∙ ap (λ k. with_fields f mode k (fields mode reg rm % 8) y (word_from y z)) (reg_of mode reg rm u v w)
      ∙ ap (λ k. with_fields f mode reg k y (word_from y z)) (rm_of mode reg rm w)

  -- a byte of fields with two registers, or with a byte operand
  at_two : (f : FieldsForm) (reg rm : ℕ) → reg < 8 → rm < 8 → HasBytes code at (fields_opcode f ∷ (two reg rm ∷ [])) → decoded code at ≡ with_fields f 3 reg rm y (word_from y z)
  at_two f reg rm v w h = at_fields f (two reg rm) 3 reg rm refl (lit< tt) v w h.0 h.1.0

  at_operand : (f : FieldsForm) (reg : ℕ) (o : Operand8) → reg < 8 → HasBytes code at (fields_opcode f ∷ (with_operand reg o ∷ [])) → decoded code at ≡ with_fields f (mode_of_operand o) reg (rm_of_operand o) y (word_from y z)
  at_operand f reg o v h = at_fields f (with_operand reg o) (mode_of_operand o) reg (rm_of_operand o) (operand8_fields reg o) (operand8_mode_small o) v (operand8_rm_small o) h.0 h.1.0

  -- a byte of fields with a direct address, and the word behind it
  at_direct : (f : FieldsForm) (reg a : ℕ) → reg < 8 → HasBytes code at (fields_opcode f ∷ (one reg 6 ∷ word_then a [])) → decoded code at ≡ with_fields f 0 reg 6 y (Some a)
  at_direct f reg a v h =
      at_fields f (one reg 6) 0 reg 6 (omega arith) (lit< tt) v (lit< tt) h.0 h.1.0
      ∙ ap (with_fields f 0 reg 6 y) (word_there y z a (sym third ∙ h.1.1.0) (sym fourth ∙ h.1.1.1.0))

  pub complete : (i : Instr86) → HasBytes code at (enc86 i) → decoded code at ≡ Some i
  complete (MovReg8 r o) h = at_operand FieldsMov8 (code8 r) o (code8_small r) h ∙ both_found MovReg8 (entry_under regs8 (code8 r)) (operand8_at (mode_of_operand o) (rm_of_operand o)) r o (reg8_found r) (operand8_found o)
  complete (MovMem8 p r) h = at_operand FieldsToMem (code8 r) (Mem p) (code8_small r) h ∙ both_found (λ r p. MovMem8 p r) (entry_under regs8 (code8 r)) (ptr_at 0 (code_of_ptr p)) r p (reg8_found r) (ptr_found p)
  complete (MovAlDirect a) h = at_word WordToAl a h
  complete (MovDirectAl a) h = at_word WordFromAl a h
  complete (MovNum8 r n) h = at_byte (ByteMov r) n h
  complete (MovNum16 r w) h = at_word (WordMov r) w h
  complete (MovMemNum p n) h =
      at_fields FieldsMemNum (one 0 (code_of_ptr p)) 0 0 (code_of_ptr p) (omega arith) (lit< tt) (lit< tt) (ptr_small p) h.0 h.1.0
      ∙ both_found MovMemNum (ptr_at 0 (code_of_ptr p)) y p n (ptr_found p) (sym third ∙ h.1.1.0)
  complete (MovReg16 r (Reg_16 q)) h = at_two FieldsMov16 (code16 r) (code16 q) (code16_small r) (code16_small q) h ∙ both_found MovReg16 (entry_under regs16 (code16 r)) (operand16_at 3 (code16 q) (word_from y z)) r (Reg_16 q) (reg16_found r) (ap (option_map Reg_16) (reg16_found q))
  complete (MovReg16 r (Direct a)) h = at_direct FieldsMov16 (code16 r) a (code16_small r) h ∙ both_found MovReg16 (entry_under regs16 (code16 r)) (Some (Direct a)) r (Direct a) (reg16_found r) refl
  complete (MovDirect16 a r) h = at_direct FieldsToDirect (code16 r) a (code16_small r) h ∙ both_found (λ r a. MovDirect16 a r) (entry_under regs16 (code16 r)) (Some a) r a (reg16_found r) refl
  complete MovAxDs h = at_fixed 0x8C 0xD8 MovAxDs refl h
  complete MovSsAx h = at_fixed 0x8E 0xD0 MovSsAx refl h
  complete (Alu op o) h = at_operand (FieldsAlu op) 0 o (lit< tt) h ∙ ap (option_map (Alu op)) (operand8_found o)
  complete (AluNum op n) h = at_byte (ByteAlu op) n h
  complete OrClCl h = at_two (FieldsAlu Or) 1 1 (lit< tt) (lit< tt) h
  complete (Add16 r q) h = at_two FieldsAdd16 (code16 r) (code16 q) (code16_small r) (code16_small q) h ∙ both_found Add16 (entry_under regs16 (code16 r)) (entry_under regs16 (code16 q)) r q (reg16_found r) (reg16_found q)
  complete (Count8 c o) h = at_operand FieldsCount8 (code_of_count c) o (count_small c) h ∙ both_found Count8 (entry_under counts (code_of_count c)) (operand8_at (mode_of_operand o) (rm_of_operand o)) c o (count_found c) (operand8_found o)
  complete (Count16 c r) h = at_form (0x40 + (8 * code_of_count c + code16 r)) (Alone (Count16 c r)) (count_form c r) h.0
  complete (Push r) h = at_form (0x50 + code16 (reg_of_stack r)) (Alone (Push r)) (push_form r) h.0
  complete (Pop r) h = at_form (0x58 + code16 (reg_of_stack r)) (Alone (Pop r)) (pop_form r) h.0
  complete (Xchg8 r q) h = at_two FieldsXchg8 (code8 r) (code8 q) (code8_small r) (code8_small q) h ∙ both_found Xchg8 (entry_under regs8 (code8 r)) (entry_under regs8 (code8 q)) r q (reg8_found r) (reg8_found q)
  complete (Xchg16 r q) h = at_two FieldsXchg16 (code16 r) (code16 q) (code16_small r) (code16_small q) h ∙ both_found Xchg16 (entry_under regs16 (code16 r)) (entry_under regs16 (code16 q)) r q (reg16_found r) (reg16_found q)
  complete (Rotate8 k r) h = at_two FieldsRotate8 (code_of_rotate k) (code8 r) (rotate_small k) (code8_small r) h ∙ both_found Rotate8 (entry_under rotates (code_of_rotate k)) (entry_under regs8 (code8 r)) k r (rotate_found k) (reg8_found r)
  complete (Rotate16 k r) h = at_two FieldsRotate16 (code_of_rotate k) (code16 r) (rotate_small k) (code16_small r) h ∙ both_found Rotate16 (entry_under rotates (code_of_rotate k)) (entry_under regs16 (code16 r)) k r (rotate_found k) (reg16_found r)
  complete (Not8 r) h = at_two FieldsNot8 2 (code8 r) (lit< tt) (code8_small r) h ∙ ap (option_map Not8) (reg8_found r)
  complete Daa h = at_form 0x27 (Alone Daa) refl h.0
  complete Sahf h = at_form 0x9E (Alone Sahf) refl h.0
  complete Lahf h = at_form 0x9F (Alone Lahf) refl h.0
  complete Cmc h = at_form 0xF5 (Alone Cmc) refl h.0
  complete Stc h = at_form 0xF9 (Alone Stc) refl h.0
  complete Nop h = at_form 0x90 (Alone Nop) refl h.0
  complete (Jcc j d) h = at_byte (ByteJcc j) d h
  complete (JmpNear d) h = at_word WordJmp d h
  complete (JmpShort d) h = at_byte ByteJmp d h
  complete JmpBx h = at_fixed 0xFF 0xE3 JmpBx refl h
  complete (CallNear d) h = at_word WordCall d h
  complete Ret h = at_form 0xC3 (Alone Ret) refl h.0
  complete Int224 h = at_fixed 0xCD 0xE0 Int224 refl h
  complete (InAl n) h = at_byte ByteIn n h
  complete (OutAl n) h = at_byte ByteOut n h

  -- from what is decoded to the bytes of the instruction, in a code of bytes
  module _ (bytes : (k b : ℕ) → slice_get code k ≡ Some b → b < 256) where
    -- the word that two bytes hold
    word_has : (k w : ℕ) (p q : Option ℕ) → slice_get code k ≡ p → slice_get code (k + 1) ≡ q → word_from p q ≡ Some w → HasBytes code k (word_then w [])
    word_has k w None q hp hq h = absurd (cc)
    word_has k w (Some l) None hp hq h = absurd (cc)
    word_has k w (Some l) (Some g) hp hq h =
        let small : l < 256 = bytes k l hp in
        let is : 256 * g + l ≡ w = cc in
        subst (λ v. HasBytes code k (word_then v [])) is (hp ∙ ap Some (sym (low_of g l small)), (hq ∙ ap Some (sym (high_of g l small)), tt))

    word_behind : (w : ℕ) → word_from y z ≡ Some w → HasBytes code (at + 1 + 1) (word_then w [])
    word_behind w h = word_has (at + 1 + 1) w y z third fourth h

    has_two : (b m n : ℕ) → slice_get code at ≡ Some b → x ≡ Some m → m ≡ n → HasBytes code at (b ∷ (n ∷ []))
    has_two b m n h g e = (h, (g ∙ ap Some e, tt))

    -- the fields of a word register and an operand
    mov16_has : (m : ℕ) (r : Reg16) (o : Operand16) → slice_get code at ≡ Some 0x8B → x ≡ Some m → Names (code16 r) o m (word_from y z) → HasAt (MovReg16 r o)
    mov16_has m r (Reg_16 q) h g n = has_two 0x8B m (two (code16 r) (code16 q)) h g n
    mov16_has m r (Direct a) h g n = (h, (g ∙ ap Some n.0, word_behind a n.1))

    or_cl_has : (op : AluOp) (mode reg rm : ℕ) (j : Instr86) → slice_get code at ≡ Some (8 * code_of_alu op + 2) → x ≡ Some (fields mode reg rm) → or_cl_cl op mode reg rm ≡ Some j → HasAt j
    or_cl_has Or mode reg rm j h g e =
        if_then (mode == 3) (cond (reg == 1) (cond (rm == 1) (Some OrClCl) None) None) j (HasAt j) e
        (λ t f. if_then (reg == 1) (cond (rm == 1) (Some OrClCl) None) j (HasAt j) f
        (λ u f. if_then (rm == 1) (Some OrClCl) j (HasAt j) f
        (λ v f.
        let a : mode ≡ 3 = eqb-true mode 3 t in
        let b : reg ≡ 1 = eqb-true reg 1 u in
        let c : rm ≡ 1 = eqb-true rm 1 v in
        let m : fields mode reg rm ≡ 0xC9 = omega arith in
        let is : OrClCl ≡ j = cc in
        subst HasAt is (h, (g ∙ ap Some m, tt)))))
    or_cl_has Add mode reg rm j h g e = absurd (cc)
    or_cl_has Adc mode reg rm j h g e = absurd (cc)
    or_cl_has Sbb mode reg rm j h g e = absurd (cc)
    or_cl_has And mode reg rm j h g e = absurd (cc)
    or_cl_has Sub mode reg rm j h g e = absurd (cc)
    or_cl_has Xor mode reg rm j h g e = absurd (cc)
    or_cl_has Cmp mode reg rm j h g e = absurd (cc)

    fields_has : (f : FieldsForm) (mode reg rm : ℕ) (j : Instr86) → slice_get code at ≡ Some (fields_opcode f) → x ≡ Some (fields mode reg rm) → with_fields f mode reg rm y (word_from y z) ≡ Some j → HasAt j
    fields_has FieldsMov8 mode reg rm j h g e =
        of_both MovReg8 (entry_under regs8 reg) (operand8_at mode rm) j HasAt e
        (λ r o er eo. has_two 0x8A (fields mode reg rm) (with_operand (code8 r) o) h g (operand8_at_is mode reg rm o eo ∙ ap (λ k. with_operand k o) (code_of_reg8 reg r er)))
    fields_has FieldsToMem mode reg rm j h g e =
        of_both (λ r p. MovMem8 p r) (entry_under regs8 reg) (ptr_at mode rm) j HasAt e
        (λ r p er ep. has_two 0x88 (fields mode reg rm) (one (code8 r) (code_of_ptr p)) h g (ptr_at_is mode reg rm p ep ∙ ap (λ k. one k (code_of_ptr p)) (code_of_reg8 reg r er)))
    fields_has FieldsMemNum mode reg rm j h g e =
        if_then (reg == 0) (of_two MovMemNum (ptr_at mode rm) y) j (HasAt j) e
        (λ t f. of_both MovMemNum (ptr_at mode rm) y j HasAt f
        (λ p n ep en. (h, (g ∙ ap Some (ptr_at_is mode reg rm p ep ∙ ap (λ k. one k (code_of_ptr p)) (eqb-true reg 0 t)), (third ∙ en, tt)))))
    fields_has FieldsMov16 mode reg rm j h g e =
        of_both MovReg16 (entry_under regs16 reg) (operand16_at mode rm (word_from y z)) j HasAt e
        (λ r o er eo. mov16_has (fields mode reg rm) r o h g (subst (λ k. Names k o (fields mode reg rm) (word_from y z)) (code_of_reg16 reg r er) (operand16_at_is mode reg rm o (word_from y z) eo)))
    fields_has FieldsToDirect mode reg rm j h g e =
        of_both (λ r a. MovDirect16 a r) (entry_under regs16 reg) (direct_at mode rm (word_from y z)) j HasAt e
        (λ r a er ea. let d = direct_at_is mode reg rm a (word_from y z) ea in (h, (g ∙ ap Some (d.0 ∙ ap (λ k. one k 6) (code_of_reg16 reg r er)), word_behind a d.1)))
    fields_has (FieldsAlu op) mode reg rm j h g e = by_test (reg == 0) refl e
      where
        by_test : (b : Bool) → (reg == 0) ≡ b → cond b (option_map (Alu op) (operand8_at mode rm)) (or_cl_cl op mode reg rm) ≡ Some j → HasAt j
        by_test true t f =
            of_map (Alu op) (operand8_at mode rm) j HasAt f
            (λ o eo. has_two (8 * code_of_alu op + 2) (fields mode reg rm) (with_operand 0 o) h g (operand8_at_is mode reg rm o eo ∙ ap (λ k. with_operand k o) (eqb-true reg 0 t)))
        by_test false t f = or_cl_has op mode reg rm j h g f
    fields_has FieldsAdd16 mode reg rm j h g e =
        of_both Add16 (entry_under regs16 reg) (reg16_at mode rm) j HasAt e
        (λ r q er eq. has_two 0x03 (fields mode reg rm) (two (code16 r) (code16 q)) h g (reg16_at_is mode reg rm q eq ∙ ap (λ k. two k (code16 q)) (code_of_reg16 reg r er)))
    fields_has FieldsCount8 mode reg rm j h g e =
        of_both Count8 (entry_under counts reg) (operand8_at mode rm) j HasAt e
        (λ c o er eo. has_two 0xFE (fields mode reg rm) (with_operand (code_of_count c) o) h g (operand8_at_is mode reg rm o eo ∙ ap (λ k. with_operand k o) (code_of_found_count reg c er)))
    fields_has FieldsXchg8 mode reg rm j h g e =
        of_both Xchg8 (entry_under regs8 reg) (reg8_at mode rm) j HasAt e
        (λ r q er eq. has_two 0x86 (fields mode reg rm) (two (code8 r) (code8 q)) h g (reg8_at_is mode reg rm q eq ∙ ap (λ k. two k (code8 q)) (code_of_reg8 reg r er)))
    fields_has FieldsXchg16 mode reg rm j h g e =
        of_both Xchg16 (entry_under regs16 reg) (reg16_at mode rm) j HasAt e
        (λ r q er eq. has_two 0x87 (fields mode reg rm) (two (code16 r) (code16 q)) h g (reg16_at_is mode reg rm q eq ∙ ap (λ k. two k (code16 q)) (code_of_reg16 reg r er)))
    fields_has FieldsRotate8 mode reg rm j h g e =
        of_both Rotate8 (entry_under rotates reg) (reg8_at mode rm) j HasAt e
        (λ k r er eq. has_two 0xD0 (fields mode reg rm) (two (code_of_rotate k) (code8 r)) h g (reg8_at_is mode reg rm r eq ∙ ap (λ n. two n (code8 r)) (code_of_found_rotate reg k er)))
    fields_has FieldsRotate16 mode reg rm j h g e =
        of_both Rotate16 (entry_under rotates reg) (reg16_at mode rm) j HasAt e
        (λ k r er eq. has_two 0xD1 (fields mode reg rm) (two (code_of_rotate k) (code16 r)) h g (reg16_at_is mode reg rm r eq ∙ ap (λ n. two n (code16 r)) (code_of_found_rotate reg k er)))
    fields_has FieldsNot8 mode reg rm j h g e =
        if_then (reg == 2) (option_map Not8 (reg8_at mode rm)) j (HasAt j) e
        (λ t f. of_map Not8 (reg8_at mode rm) j HasAt f
        (λ r er. has_two 0xF6 (fields mode reg rm) (two 2 (code8 r)) h g (reg8_at_is mode reg rm r er ∙ ap (λ k. two k (code8 r)) (eqb-true reg 2 t))))

    form_has : (b : ℕ) (f : Form) (o : Option ℕ) (j : Instr86) → slice_get code at ≡ Some b → Says b f → x ≡ o → by_form (Some f) o y z ≡ Some j → HasAt j
    form_has b (Alone i) o j h s g e =
        let is : i ≡ j = cc in
        subst HasAt is (subst (HasBytes code at) (sym s) (h, tt))
    form_has b (Fixed c i) None j h s g e = absurd (cc)
    form_has b (Fixed c i) (Some m) j h s g e =
        if_then (m == c) (Some i) j (HasAt j) e
        (λ t f. let is : i ≡ j = cc in subst HasAt is (subst (HasBytes code at) (sym s) (has_two b m c h g (eqb-true m c t))))
    form_has b (Byte f) o j h s g e =
        of_map (instruction_with_byte f) o j HasAt e
        (λ n en. subst (HasBytes code at) (sym (byte_encoding f n)) (h ∙ ap Some s, (g ∙ en, tt)))
    form_has b (Word f) o j h s g e =
        of_map (instruction_with_word f) (word_from o y) j HasAt e
        (λ w ew. subst (HasBytes code at) (sym (word_encoding f w)) (h ∙ ap Some s, word_has (at + 1) w o y g third ew))
    form_has b (Fields f) None j h s g e = absurd (cc)
    form_has b (Fields f) (Some m) j h s g e = fields_has f (m / 64) (m / 8 % 8) (m % 8) j (h ∙ ap Some s) (g ∙ ap Some (parts m)) e

    first_has : (b : ℕ) (f : Option Form) (j : Instr86) → slice_get code at ≡ Some b → form_of b ≡ f → by_form f x y z ≡ Some j → HasAt j
    first_has b None j h s e = absurd (cc)
    first_has b (Some f) j h s e = form_has b f x j h (form_says b f (bytes at b h) s) refl e

    all_has : (o : Option ℕ) (j : Instr86) → slice_get code at ≡ o → by_first o x y z ≡ Some j → HasAt j
    all_has None j h e = absurd (cc)
    all_has (Some b) j h e = first_has b (form_of b) j h refl e

    pub sound : (j : Instr86) → decoded code at ≡ Some j → HasBytes code at (enc86 j)
    unfolding decoded
    sound j e = all_has (slice_get code at) j refl e

pub reads_decoded : (code : List ℕ) → ((k b : ℕ) → slice_get code k ≡ Some b → b < 256) → ReadsCode code (decoded code)
reads_decoded code bytes = λ at i. (sound code at bytes i, complete code at i)

-- readers of one code agree
pub readers_agree : (code : List ℕ) (f g : ℕ → Option Instr86) → ReadsCode code f → ReadsCode code g → (at : ℕ) → f at ≡ g at
readers_agree code f g hf hg at = by_cases (f at) (g at) refl refl
  where
    by_cases : (o p : Option Instr86) → f at ≡ o → g at ≡ p → o ≡ p
    by_cases None None e d = refl
    by_cases None (Some j) e d = let k : f at ≡ Some j = (hf at j).1 ((hg at j).0 d) in absurd (cc)
    by_cases (Some i) p e d = sym ((hg at i).1 ((hf at i).0 e)) ∙ d

-- what is decoded is the one reader of a code of bytes
pub decoded_is_only_reader : (code : List ℕ) → ((k : ℕ) → get_or code k 0 < 256) → IsOnlyReader code (decoded code)
decoded_is_only_reader code fits = (reads, λ other h at. readers_agree code other (decoded code) h reads at)
  where
    byte : (k b : ℕ) → slice_get code k ≡ Some b → b < 256
    byte k b h = subst (λ c. c < 256) (get_or_from_slice_get code k b 0 h) (fits k)

    reads : ReadsCode code (decoded code)
    reads = reads_decoded code byte

-- a place past the end gives 0
bytes_everywhere : (code : List ℕ) → All (λ b. b < 256) code → (k : ℕ) → get_or code k 0 < 256
bytes_everywhere [] all k = lit< tt
bytes_everywhere (b ∷ code) all zero = all 0 b (omega arith)
bytes_everywhere (b ∷ code) all (suc k) = bytes_everywhere code (λ n d lt. all (suc n) d (omega arith)) k

pub one_reader : HasOneReader
one_reader code all = (decoded code, decoded_is_only_reader code (bytes_everywhere code all))

-- what stands at a place, by what is decoded there
pub is_the_one : (code : List ℕ) (at : ℕ) (i : Instr86) (n : ℕ) → ((k : ℕ) → get_or code k 0 < 256) → decoded code at ≡ Some i → n ≡ length (enc86 i) → IsDecodedAt code at (Some (i, n))
is_the_one code at i n fits h e =
    let reader = decoded_is_only_reader code fits in
    ((reader.0 at i).0 h, e, λ j g. let same : Some j ≡ Some i = sym ((reader.0 at j).1 g) ∙ h in cc)

pub none_stands : (code : List ℕ) (at : ℕ) → ((k : ℕ) → get_or code k 0 < 256) → decoded code at ≡ None → IsDecodedAt code at None
none_stands code at fits h = λ i g. let found : decoded code at ≡ Some i = ((decoded_is_only_reader code fits).0 at i).1 g in absurd (cc)
