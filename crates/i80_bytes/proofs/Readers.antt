-- What is decoded is what stands first in the bytes, as they tell it.
use Rattle.std.proofs.Common.{◌≡◌, ℕ, ◌+◌, ◌*◌, ◌/◌, ◌%◌, ◌<◌, ◌==◌, Bool, true, false, cond, List, [], ◌∷◌, ◌++◌, length, get_or, Option, Some, None, slice_get, refl, sym, ap, ◌∙◌, subst, arith}
use Rattle.std.proofs.lemmas.Bool.{eqb-true}
use Rattle.std.proofs.lemmas.List.{append-nil}
use Rattle.i80.specs.declared.Pair.TheVariants.{B as PairB, D as PairD, H as PairH, Sp}
use Rattle.i80.specs.declared.Word.TheVariants.{Num, Code}
use Rattle.i80.specs.declared.Goal.TheVariants.{At, Boot, Bdos}
use Rattle.i80.specs.declared.Instr80.{Instr80}
use Rattle.i80.specs.declared.Instr80.TheVariants.{Nop, Mov, Mvi, Lxi, Lda, Sta, Lhld, Shld, Ldax, Stax, Xchg, Xthl, Sphl, Pchl, Alu, AluI, Inr, Dcr, Inx, Dcx, Dad, Daa, Cma, Stc, Cmc, Rlc, Rrc, Ral, Rar, Push, Pop, Jmp, Jif, Call, Cif, Ret, Rif, Rst0, In, Out}
use Rattle.i80.specs.Columns.{is_well_formed, length80}
use Rattle.i80_bytes.specs.declared.decoding.Form.{Form}
use Rattle.i80_bytes.specs.declared.decoding.Form.TheVariants.{Alone, Byte, Word}
use Rattle.i80_bytes.specs.declared.decoding.ByteForm.{ByteForm}
use Rattle.i80_bytes.specs.declared.decoding.ByteForm.TheVariants.{Mvi as ByteMvi, AluI as ByteAlu, In as ByteIn, Out as ByteOut}
use Rattle.i80_bytes.specs.declared.decoding.WordForm.{WordForm}
use Rattle.i80_bytes.specs.declared.decoding.WordForm.TheVariants.{Lxi as WordLxi, Lda as WordLda, Sta as WordSta, Lhld as WordLhld, Shld as WordShld, Jmp as WordJmp, Jif as WordJif, Call as WordCall, Cif as WordCif}
use Rattle.i80_bytes.specs.Enc80.{address_of, with_word, enc80}
use Rattle.i80_bytes.specs.Decoded.{goal_at, as_told, StandsFirst, IsDecoded, IsPrefixFree}
use Rattle.i80_bytes.specs.Decoder.{form_of, instruction_with_byte, instruction_with_word, by_form80, decoded80}
use Rattle.i80_bytes.proofs.Tables.{byte_opcode, word_opcode, byte_form, word_form, mov_found, alu_found, inr_found, dcr_found, inx_found, dcx_found, dad_found, push_found, pop_found, rif_found, ldax_found, stax_found, Says, form_says}

-- from an encoding to what is decoded

at_alone : (opcode : ℕ) (rest : List ℕ) (i : Instr80) → form_of opcode ≡ Some (Alone i) → decoded80 (opcode ∷ rest) ≡ Some i
unfolding decoded80
at_alone opcode rest i e = ap (λ f. by_form80 f (slice_get (opcode ∷ rest) 1) (slice_get (opcode ∷ rest) 2)) e

at_byte : (f : ByteForm) (n : ℕ) (rest : List ℕ) → decoded80 (byte_opcode f ∷ (n ∷ rest)) ≡ Some (instruction_with_byte f n)
unfolding decoded80
at_byte f n rest = ap (λ g. by_form80 g (Some n) (slice_get (byte_opcode f ∷ (n ∷ rest)) 2)) (byte_form f)

word_parts : (w : ℕ) → 256 * (w / 256) + w % 256 ≡ w
word_parts w = omega arith

at_word : (f : WordForm) (w : ℕ) (rest : List ℕ) → decoded80 (with_word (word_opcode f) w ++ rest) ≡ Some (instruction_with_word f w)
unfolding decoded80
at_word f w rest = ap (λ g. by_form80 g (Some (w % 256)) (Some (w / 256))) (word_form f) ∙ ap (λ v. Some (instruction_with_word f v)) (word_parts w)

pub complete : (i : Instr80) (rest : List ℕ) → is_well_formed i ≡ true → decoded80 (enc80 i ++ rest) ≡ Some (as_told i)
complete Nop rest h = at_alone 0x00 rest Nop refl
complete (Mov to from) rest h = at_alone _ rest (Mov to from) (mov_found to from h)
complete (Mvi to n) rest h = at_byte (ByteMvi to) n rest
complete (Lxi p (Num w)) rest h = at_word (WordLxi p) w rest
complete (Lxi p (Code a)) rest h = at_word (WordLxi p) a rest
complete (Lda a) rest h = at_word WordLda a rest
complete (Sta a) rest h = at_word WordSta a rest
complete (Lhld a) rest h = at_word WordLhld a rest
complete (Shld a) rest h = at_word WordShld a rest
complete (Ldax p) rest h = at_alone _ rest (Ldax p) (ldax_found p h)
complete (Stax p) rest h = at_alone _ rest (Stax p) (stax_found p h)
complete Xchg rest h = at_alone 0xEB rest Xchg refl
complete Xthl rest h = at_alone 0xE3 rest Xthl refl
complete Sphl rest h = at_alone 0xF9 rest Sphl refl
complete Pchl rest h = at_alone 0xE9 rest Pchl refl
complete (Alu op s) rest h = at_alone _ rest (Alu op s) (alu_found op s)
complete (AluI op n) rest h = at_byte (ByteAlu op) n rest
complete (Inr s) rest h = at_alone _ rest (Inr s) (inr_found s)
complete (Dcr s) rest h = at_alone _ rest (Dcr s) (dcr_found s)
complete (Inx p) rest h = at_alone _ rest (Inx p) (inx_found p)
complete (Dcx p) rest h = at_alone _ rest (Dcx p) (dcx_found p)
complete (Dad p) rest h = at_alone _ rest (Dad p) (dad_found p)
complete Daa rest h = at_alone 0x27 rest Daa refl
complete Cma rest h = at_alone 0x2F rest Cma refl
complete Stc rest h = at_alone 0x37 rest Stc refl
complete Cmc rest h = at_alone 0x3F rest Cmc refl
complete Rlc rest h = at_alone 0x07 rest Rlc refl
complete Rrc rest h = at_alone 0x0F rest Rrc refl
complete Ral rest h = at_alone 0x17 rest Ral refl
complete Rar rest h = at_alone 0x1F rest Rar refl
complete (Push p) rest h = at_alone _ rest (Push p) (push_found p)
complete (Pop p) rest h = at_alone _ rest (Pop p) (pop_found p)
complete (Jmp t) rest h = at_word WordJmp (address_of t) rest
complete (Jif c t) rest h = at_word (WordJif c) (address_of t) rest
complete (Call t) rest h = at_word WordCall (address_of t) rest
complete (Cif c t) rest h = at_word (WordCif c) (address_of t) rest
complete Ret rest h = at_alone 0xC9 rest Ret refl
complete (Rif c) rest h = at_alone _ rest (Rif c) (rif_found c)
complete Rst0 rest h = at_alone 0xC7 rest Rst0 refl
complete (In port) rest h = at_byte ByteIn port rest
complete (Out port) rest h = at_byte ByteOut port rest

-- from what is decoded to its encoding

-- a target is at the address that tells it
goal_address : (a : ℕ) → address_of (goal_at a) ≡ a
goal_address a = by_boot (a == 0) refl
  where
    by_bdos : (b : Bool) → (a == 5) ≡ b → address_of (cond b Bdos (At a)) ≡ a
    by_bdos true h = sym (eqb-true a 5 h)
    by_bdos false h = refl

    by_boot : (b : Bool) → (a == 0) ≡ b → address_of (cond b Boot (cond (a == 5) Bdos (At a))) ≡ a
    by_boot true h = sym (eqb-true a 0 h)
    by_boot false h = by_bdos (a == 5) refl

byte_encoding : (f : ByteForm) (n : ℕ) → enc80 (instruction_with_byte f n) ≡ byte_opcode f ∷ (n ∷ [])
byte_encoding (ByteMvi s) n = refl
byte_encoding (ByteAlu op) n = refl
byte_encoding ByteIn n = refl
byte_encoding ByteOut n = refl

word_encoding : (f : WordForm) (w : ℕ) → enc80 (instruction_with_word f w) ≡ with_word (word_opcode f) w
word_encoding (WordLxi p) w = refl
word_encoding WordLda w = refl
word_encoding WordSta w = refl
word_encoding WordLhld w = refl
word_encoding WordShld w = refl
word_encoding WordJmp w = ap (with_word 0xC3) (goal_address w)
word_encoding (WordJif c) w = ap (with_word (word_opcode (WordJif c))) (goal_address w)
word_encoding WordCall w = ap (with_word 0xCD) (goal_address w)
word_encoding (WordCif c) w = ap (with_word (word_opcode (WordCif c))) (goal_address w)

byte_good : (f : ByteForm) (n : ℕ) → is_well_formed (instruction_with_byte f n) ≡ true
byte_good (ByteMvi s) n = refl
byte_good (ByteAlu op) n = refl
byte_good ByteIn n = refl
byte_good ByteOut n = refl

word_good : (f : WordForm) (w : ℕ) → is_well_formed (instruction_with_word f w) ≡ true
word_good (WordLxi PairB) w = refl
word_good (WordLxi PairD) w = refl
word_good (WordLxi PairH) w = refl
word_good (WordLxi Sp) w = refl
word_good WordLda w = refl
word_good WordSta w = refl
word_good WordLhld w = refl
word_good WordShld w = refl
word_good WordJmp w = refl
word_good (WordJif c) w = refl
word_good WordCall w = refl
word_good (WordCif c) w = refl

low_of : (h l : ℕ) → l < 256 → (256 * h + l) % 256 ≡ l
low_of h l b = omega arith

high_of : (h l : ℕ) → l < 256 → (256 * h + l) / 256 ≡ h
high_of h l b = omega arith

alone_stands : (opcode : ℕ) (rest : List ℕ) (i : Instr80) → Says opcode (Alone i) → StandsFirst (opcode ∷ rest) i
alone_stands opcode rest i says = (says.1, (rest, sym (ap (λ bytes. bytes ++ rest) says.0)))

byte_stands : (opcode : ℕ) (f : ByteForm) (n : ℕ) (rest : List ℕ) → opcode ≡ byte_opcode f → StandsFirst (opcode ∷ (n ∷ rest)) (instruction_with_byte f n)
byte_stands opcode f n rest e = (byte_good f n, (rest, ap (λ b. b ∷ (n ∷ rest)) e ∙ sym (ap (λ bytes. bytes ++ rest) (byte_encoding f n))))

word_stands : (opcode : ℕ) (f : WordForm) (l h : ℕ) (rest : List ℕ) → opcode ≡ word_opcode f → l < 256 → StandsFirst (opcode ∷ (l ∷ (h ∷ rest))) (instruction_with_word f (256 * h + l))
word_stands opcode f l h rest e small =
    let w = 256 * h + l in (
      word_good f w,
      (
        rest,
        ap (λ b. b ∷ (l ∷ (h ∷ rest))) e
            ∙ ap (λ x. word_opcode f ∷ (x ∷ (h ∷ rest))) (sym (low_of h l small))
            ∙ ap (λ x. word_opcode f ∷ (w % 256 ∷ (x ∷ rest))) (sym (high_of h l small))
            ∙ sym (ap (λ bytes. bytes ++ rest) (word_encoding f w)),
      ),
    )

form_stands : (opcode : ℕ) (rest : List ℕ) (f : Form) (j : Instr80) → Says opcode f → ((k : ℕ) → get_or (opcode ∷ rest) k 0 < 256) → by_form80 (Some f) (slice_get (opcode ∷ rest) 1) (slice_get (opcode ∷ rest) 2) ≡ Some j → StandsFirst (opcode ∷ rest) j
form_stands opcode rest (Alone i) j says fits e =
    let is : i ≡ j = cc in
    subst (StandsFirst (opcode ∷ rest)) is (alone_stands opcode rest i says)
form_stands opcode [] (Byte f) j says fits e = absurd (cc)
form_stands opcode (n ∷ rest) (Byte f) j says fits e =
    let is : instruction_with_byte f n ≡ j = cc in
    subst (StandsFirst (opcode ∷ (n ∷ rest))) is (byte_stands opcode f n rest says)
form_stands opcode [] (Word f) j says fits e = absurd (cc)
form_stands opcode (l ∷ []) (Word f) j says fits e = absurd (cc)
form_stands opcode (l ∷ (h ∷ rest)) (Word f) j says fits e =
    let is : instruction_with_word f (256 * h + l) ≡ j = cc in
    subst (StandsFirst (opcode ∷ (l ∷ (h ∷ rest)))) is (word_stands opcode f l h rest says (fits 1))

pub sound : (bytes : List ℕ) (j : Instr80) → ((k : ℕ) → get_or bytes k 0 < 256) → decoded80 bytes ≡ Some j → StandsFirst bytes j
unfolding decoded80
sound [] j fits e = absurd (cc)
sound (opcode ∷ rest) j fits e = by_form_of (form_of opcode) refl e
  where
    by_form_of : (o : Option Form) → form_of opcode ≡ o → by_form80 o (slice_get (opcode ∷ rest) 1) (slice_get (opcode ∷ rest) 2) ≡ Some j → StandsFirst (opcode ∷ rest) j
    by_form_of None h e = absurd (cc)
    by_form_of (Some f) h e = form_stands opcode rest f j (form_says opcode f (fits 0) h) fits e

-- what stands first is decoded
stands_decoded : (bytes : List ℕ) (i : Instr80) → StandsFirst bytes i → decoded80 bytes ≡ Some (as_told i)
stands_decoded bytes i h = ap decoded80 h.1.1 ∙ complete i h.1.0 h.0

-- the answers of decoding
pub is_the_one : (bytes : List ℕ) (i : Instr80) (n : ℕ) → ((k : ℕ) → get_or bytes k 0 < 256) → decoded80 bytes ≡ Some i → n ≡ length (enc80 i) → IsDecoded bytes (Some (i, n))
is_the_one bytes i n fits h e = (sound bytes i fits h, e, λ j g. let same : Some (as_told j) ≡ Some i = sym (stands_decoded bytes j g) ∙ h in cc)

pub none_stands : (bytes : List ℕ) → decoded80 bytes ≡ None → IsDecoded bytes None
none_stands bytes h = λ i g. let found : decoded80 bytes ≡ Some (as_told i) = stands_decoded bytes i g in absurd (cc)

-- the length of an encoding is the table's
pub encoding_length : (i : Instr80) → length (enc80 i) ≡ length80 i
encoding_length Nop = refl
encoding_length (Mov to from) = refl
encoding_length (Mvi to n) = refl
encoding_length (Lxi p w) = refl
encoding_length (Lda a) = refl
encoding_length (Sta a) = refl
encoding_length (Lhld a) = refl
encoding_length (Shld a) = refl
encoding_length (Ldax p) = refl
encoding_length (Stax p) = refl
encoding_length Xchg = refl
encoding_length Xthl = refl
encoding_length Sphl = refl
encoding_length Pchl = refl
encoding_length (Alu op s) = refl
encoding_length (AluI op n) = refl
encoding_length (Inr s) = refl
encoding_length (Dcr s) = refl
encoding_length (Inx p) = refl
encoding_length (Dcx p) = refl
encoding_length (Dad p) = refl
encoding_length Daa = refl
encoding_length Cma = refl
encoding_length Stc = refl
encoding_length Cmc = refl
encoding_length Rlc = refl
encoding_length Rrc = refl
encoding_length Ral = refl
encoding_length Rar = refl
encoding_length (Push p) = refl
encoding_length (Pop p) = refl
encoding_length (Jmp t) = refl
encoding_length (Jif c t) = refl
encoding_length (Call t) = refl
encoding_length (Cif c t) = refl
encoding_length Ret = refl
encoding_length (Rif c) = refl
encoding_length Rst0 = refl
encoding_length (In port) = refl
encoding_length (Out port) = refl

pub prefix_free : IsPrefixFree
prefix_free i j h good =
    let itself = ap decoded80 (sym (append-nil (enc80 j))) ∙ complete j [] good in
    let same : Some (as_told i) ≡ Some (as_told j) = sym (stands_decoded (enc80 j) i h) ∙ itself in
    cc
