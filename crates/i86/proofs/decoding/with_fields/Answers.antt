-- A form of two operands is theirs, and none where one of them is missing.
use Rattle.std.proofs.Common.{◌≡◌, ℕ, ◌∙◌, Option, sym, ap}
use Rattle.i86.specs.declared.Instr86.{Instr86}
use Rattle.i86.specs.declared.Instr86.TheVariants.{MovReg8, MovMem8, MovReg16, MovDirect16, Add16, Count8, Xchg8, Xchg16, Rotate8, Rotate16}
use Rattle.i86.specs.declared.decoding.FieldsForm.{FieldsForm}
use Rattle.i86.specs.Decoder.{of_two, with_fields}
use Rattle.i86.proofs.decoding.with_fields.Goals as goal

-- two results, by what the match saw of them and by what they are
by_two : {A B : Type 0} (f : A → B → Instr86) {r a s : Option A} {q b t : Option B} → r ≡ a → r ≡ s → q ≡ b → q ≡ t → of_two f a b ≡ of_two f s t
by_two f {r} {a} {s} {q} {b} {t} r_seen r_is q_seen q_is = ap (λ o. of_two f o b) (sym r_seen ∙ r_is) ∙ ap (of_two f s) (sym q_seen ∙ q_is)

-- the same, of the form that the match saw
of_form : {form seen : FieldsForm} {answer : Option Instr86} (mode reg rm : ℕ) (byte word : Option ℕ) → form ≡ seen → answer ≡ with_fields seen mode reg rm byte word → answer ≡ with_fields form mode reg rm byte word
of_form mode reg rm byte word is h = h ∙ sym (ap (λ f. with_fields f mode reg rm byte word) is)

pub returns-in-Some-Some : goal.returns-in-Some-Some
returns-in-Some-Some c = of_form _ _ _ _ _ c.in-MovReg8.is (by_two MovReg8 c.in-Some-Some.is-0 c.reg8.ensures c.in-Some-Some.is-1 c.operand8.ensures)

pub returns-in_default : goal.returns-in_default
returns-in_default c = of_form _ _ _ _ _ c.in-MovReg8.is (by_two MovReg8 c.in_default.is-0 c.reg8.ensures c.in_default.is-1 c.operand8.ensures)

pub returns-in_default-12 : goal.returns-in_default-12
returns-in_default-12 c = of_form _ _ _ _ _ c.in-MovReg8.is (by_two MovReg8 c.in_default.is-0 c.reg8.ensures c.operand8.ensures c.operand8.ensures)

pub returns-in-Some-Some-2 : goal.returns-in-Some-Some-2
returns-in-Some-Some-2 c = of_form _ _ _ _ _ c.in-MovMem8.is (by_two (λ r p. MovMem8 p r) c.in-Some-Some-2.is-0 c.reg8-in-MovMem8.ensures c.in-Some-Some-2.is-1 c.ptr.ensures)

pub returns-in_default-2 : goal.returns-in_default-2
returns-in_default-2 c = of_form _ _ _ _ _ c.in-MovMem8.is (by_two (λ r p. MovMem8 p r) c.in_default-2.is-0 c.reg8-in-MovMem8.ensures c.in_default-2.is-1 c.ptr.ensures)

pub returns-in_default-2-2 : goal.returns-in_default-2-2
returns-in_default-2-2 c = of_form _ _ _ _ _ c.in-MovMem8.is (by_two (λ r p. MovMem8 p r) c.in_default-2.is-0 c.reg8-in-MovMem8.ensures c.ptr.ensures c.ptr.ensures)

pub returns-in-Some-Some-4 : goal.returns-in-Some-Some-4
returns-in-Some-Some-4 c = of_form _ _ _ _ _ c.in-MovReg16.is (by_two MovReg16 c.in-Some-Some-4.is-0 c.reg16.ensures c.in-Some-Some-4.is-1 c.operand16.ensures)

pub returns-in_default-4 : goal.returns-in_default-4
returns-in_default-4 c = of_form _ _ _ _ _ c.in-MovReg16.is (by_two MovReg16 c.in_default-4.is-0 c.reg16.ensures c.in_default-4.is-1 c.operand16.ensures)

pub returns-in_default-4-2 : goal.returns-in_default-4-2
returns-in_default-4-2 c = of_form _ _ _ _ _ c.in-MovReg16.is (by_two MovReg16 c.in_default-4.is-0 c.reg16.ensures c.operand16.ensures c.operand16.ensures)

pub returns-in-Some-Some-5 : goal.returns-in-Some-Some-5
returns-in-Some-Some-5 c = of_form _ _ _ _ _ c.in-MovDirect16.is (by_two (λ r a. MovDirect16 a r) c.in-Some-Some-5.is-0 c.reg16-in-MovDirect16.ensures c.in-Some-Some-5.is-1 c.direct.ensures)

pub returns-in_default-5 : goal.returns-in_default-5
returns-in_default-5 c = of_form _ _ _ _ _ c.in-MovDirect16.is (by_two (λ r a. MovDirect16 a r) c.in_default-5.is-0 c.reg16-in-MovDirect16.ensures c.in_default-5.is-1 c.direct.ensures)

pub returns-in_default-5-2 : goal.returns-in_default-5-2
returns-in_default-5-2 c = of_form _ _ _ _ _ c.in-MovDirect16.is (by_two (λ r a. MovDirect16 a r) c.in_default-5.is-0 c.reg16-in-MovDirect16.ensures c.direct.ensures c.direct.ensures)

pub returns-in-Some-Some-6 : goal.returns-in-Some-Some-6
returns-in-Some-Some-6 c = of_form _ _ _ _ _ c.in-Add16.is (by_two Add16 c.in-Some-Some-6.is-0 c.reg16-in-Add16.ensures c.in-Some-Some-6.is-1 c.register16.ensures)

pub returns-in_default-6 : goal.returns-in_default-6
returns-in_default-6 c = of_form _ _ _ _ _ c.in-Add16.is (by_two Add16 c.in_default-6.is-0 c.reg16-in-Add16.ensures c.in_default-6.is-1 c.register16.ensures)

pub returns-in_default-6-2 : goal.returns-in_default-6-2
returns-in_default-6-2 c = of_form _ _ _ _ _ c.in-Add16.is (by_two Add16 c.in_default-6.is-0 c.reg16-in-Add16.ensures c.register16.ensures c.register16.ensures)

pub returns-in-Some-Some-7 : goal.returns-in-Some-Some-7
returns-in-Some-Some-7 c = of_form _ _ _ _ _ c.in-Count8.is (by_two Count8 c.in-Some-Some-7.is-0 c.count.ensures c.in-Some-Some-7.is-1 c.operand8-in-Count8.ensures)

pub returns-in_default-7 : goal.returns-in_default-7
returns-in_default-7 c = of_form _ _ _ _ _ c.in-Count8.is (by_two Count8 c.in_default-7.is-0 c.count.ensures c.in_default-7.is-1 c.operand8-in-Count8.ensures)

pub returns-in_default-7-2 : goal.returns-in_default-7-2
returns-in_default-7-2 c = of_form _ _ _ _ _ c.in-Count8.is (by_two Count8 c.in_default-7.is-0 c.count.ensures c.operand8-in-Count8.ensures c.operand8-in-Count8.ensures)

pub returns-in-Some-Some-8 : goal.returns-in-Some-Some-8
returns-in-Some-Some-8 c = of_form _ _ _ _ _ c.in-Xchg8.is (by_two Xchg8 c.in-Some-Some-8.is-0 c.reg8-in-Xchg8.ensures c.in-Some-Some-8.is-1 c.register8.ensures)

pub returns-in_default-8 : goal.returns-in_default-8
returns-in_default-8 c = of_form _ _ _ _ _ c.in-Xchg8.is (by_two Xchg8 c.in_default-8.is-0 c.reg8-in-Xchg8.ensures c.in_default-8.is-1 c.register8.ensures)

pub returns-in_default-8-2 : goal.returns-in_default-8-2
returns-in_default-8-2 c = of_form _ _ _ _ _ c.in-Xchg8.is (by_two Xchg8 c.in_default-8.is-0 c.reg8-in-Xchg8.ensures c.register8.ensures c.register8.ensures)

pub returns-in-Some-Some-9 : goal.returns-in-Some-Some-9
returns-in-Some-Some-9 c = of_form _ _ _ _ _ c.in-Xchg16.is (by_two Xchg16 c.in-Some-Some-9.is-0 c.reg16-in-Xchg16.ensures c.in-Some-Some-9.is-1 c.register16-in-Xchg16.ensures)

pub returns-in_default-9 : goal.returns-in_default-9
returns-in_default-9 c = of_form _ _ _ _ _ c.in-Xchg16.is (by_two Xchg16 c.in_default-9.is-0 c.reg16-in-Xchg16.ensures c.in_default-9.is-1 c.register16-in-Xchg16.ensures)

pub returns-in_default-9-2 : goal.returns-in_default-9-2
returns-in_default-9-2 c = of_form _ _ _ _ _ c.in-Xchg16.is (by_two Xchg16 c.in_default-9.is-0 c.reg16-in-Xchg16.ensures c.register16-in-Xchg16.ensures c.register16-in-Xchg16.ensures)

pub returns-in-Some-Some-10 : goal.returns-in-Some-Some-10
returns-in-Some-Some-10 c = of_form _ _ _ _ _ c.in-Rotate8.is (by_two Rotate8 c.in-Some-Some-10.is-0 c.rotate.ensures c.in-Some-Some-10.is-1 c.register8-in-Rotate8.ensures)

pub returns-in_default-10 : goal.returns-in_default-10
returns-in_default-10 c = of_form _ _ _ _ _ c.in-Rotate8.is (by_two Rotate8 c.in_default-10.is-0 c.rotate.ensures c.in_default-10.is-1 c.register8-in-Rotate8.ensures)

pub returns-in_default-10-2 : goal.returns-in_default-10-2
returns-in_default-10-2 c = of_form _ _ _ _ _ c.in-Rotate8.is (by_two Rotate8 c.in_default-10.is-0 c.rotate.ensures c.register8-in-Rotate8.ensures c.register8-in-Rotate8.ensures)

pub returns-in-Some-Some-11 : goal.returns-in-Some-Some-11
returns-in-Some-Some-11 c = of_form _ _ _ _ _ c.in-Rotate16.is (by_two Rotate16 c.in-Some-Some-11.is-0 c.rotate-in-Rotate16.ensures c.in-Some-Some-11.is-1 c.register16-in-Rotate16.ensures)

pub returns-in_default-11 : goal.returns-in_default-11
returns-in_default-11 c = of_form _ _ _ _ _ c.in-Rotate16.is (by_two Rotate16 c.in_default-11.is-0 c.rotate-in-Rotate16.ensures c.in_default-11.is-1 c.register16-in-Rotate16.ensures)

pub returns-in_default-11-2 : goal.returns-in_default-11-2
returns-in_default-11-2 c = of_form _ _ _ _ _ c.in-Rotate16.is (by_two Rotate16 c.in_default-11.is-0 c.rotate-in-Rotate16.ensures c.register16-in-Rotate16.ensures c.register16-in-Rotate16.ensures)
