-- The byte of the fields mod, reg and rm: its parts, and the operands that they name.
use Rattle.std.proofs.Common.{◌≡◌, ℕ, ◌+◌, ◌*◌, ◌/◌, ◌%◌, ◌<◌, ◌==◌, Bool, true, false, cond, Option, Some, None, option_map, refl, ap, ◌∙◌, subst, lit<, arith}
use Rattle.std.proofs.lemmas.Bool.{eqb-true}
use Rattle.i86.specs.declared.Reg8.{Reg8}
use Rattle.i86.specs.declared.Reg16.{Reg16}
use Rattle.i86.specs.declared.Ptr.{Ptr}
use Rattle.i86.specs.declared.Operand8.{Operand8}
use Rattle.i86.specs.declared.Operand8.TheVariants.{Reg, Mem}
use Rattle.i86.specs.declared.Operand16.{Operand16}
use Rattle.i86.specs.declared.Operand16.TheVariants.{Reg as Reg_16, Direct}
use Rattle.i86.specs.declared.Instr86.{Instr86}
use Rattle.i86.specs.Enc86.{code8, code16, code_of_ptr, two, one, with_operand}
use Rattle.i86.specs.Decoder.{entry_under, regs8, regs16, ptrs, reg8_at, reg16_at, ptr_at, operand8_at, direct_at, operand16_at, of_two}
use Rattle.i86.proofs.Tables.{code_of_reg8, code_of_reg16, code_of_found_ptr, reg8_found, ptr_found, code8_small, ptr_small}

-- the number of the fields
abbrev pub fields : ℕ → ℕ → ℕ → ℕ
fields mode reg rm = 64 * mode + (8 * reg + rm)

pub mode_of : (mode reg rm : ℕ) → reg < 8 → rm < 8 → fields mode reg rm / 64 ≡ mode
mode_of mode reg rm g h = omega arith

pub reg_of : (mode reg rm : ℕ) → mode < 4 → reg < 8 → rm < 8 → fields mode reg rm / 8 % 8 ≡ reg
reg_of mode reg rm f g h = omega arith

pub rm_of : (mode reg rm : ℕ) → rm < 8 → fields mode reg rm % 8 ≡ rm
rm_of mode reg rm h = omega arith

pub parts : (m : ℕ) → m ≡ fields (m / 64) (m / 8 % 8) (m % 8)
parts m = omega arith

-- an answer that is there, where it is made of others
pub if_then : {X : Type 0} (b : Bool) (o : Option X) (x : X) (P : Type 0) → cond b o None ≡ Some x → (b ≡ true → o ≡ Some x → P) → P
if_then true o x P h g = g refl h
if_then false o x P h g = absurd (cc)

pub of_map : {A X : Type 0} (f : A → X) (o : Option A) (x : X) (P : X → Type 0) → option_map f o ≡ Some x → ((a : A) → o ≡ Some a → P (f a)) → P x
of_map f None x P h g = absurd (cc)
of_map f (Some a) x P h g = let e : f a ≡ x = cc in subst P e (g a refl)

pub of_both : {A B : Type 0} (f : A → B → Instr86) (o : Option A) (p : Option B) (i : Instr86) (P : Instr86 → Type 0) → of_two f o p ≡ Some i → ((a : A) (b : B) → o ≡ Some a → p ≡ Some b → P (f a b)) → P i
of_both f None p i P h g = absurd (cc)
of_both f (Some a) p i P h g = of_map (f a) p i P h (λ b e. g a b refl e)

pub both_found : {A B : Type 0} (f : A → B → Instr86) (o : Option A) (p : Option B) (a : A) (b : B) → o ≡ Some a → p ≡ Some b → of_two f o p ≡ Some (f a b)
both_found f o p a b h g = ap (λ x. of_two f x p) h ∙ ap (option_map (f a)) g

-- an operand that is found is the one whose fields these are
pub reg8_at_is : (mode reg rm : ℕ) (r : Reg8) → reg8_at mode rm ≡ Some r → fields mode reg rm ≡ two reg (code8 r)
reg8_at_is mode reg rm r h =
    if_then (mode == 3) (entry_under regs8 rm) r (fields mode reg rm ≡ two reg (code8 r)) h
    (λ t e. let m : mode ≡ 3 = eqb-true mode 3 t in let k : rm ≡ code8 r = code_of_reg8 rm r e in omega arith)

pub reg16_at_is : (mode reg rm : ℕ) (r : Reg16) → reg16_at mode rm ≡ Some r → fields mode reg rm ≡ two reg (code16 r)
reg16_at_is mode reg rm r h =
    if_then (mode == 3) (entry_under regs16 rm) r (fields mode reg rm ≡ two reg (code16 r)) h
    (λ t e. let m : mode ≡ 3 = eqb-true mode 3 t in let k : rm ≡ code16 r = code_of_reg16 rm r e in omega arith)

pub ptr_at_is : (mode reg rm : ℕ) (p : Ptr) → ptr_at mode rm ≡ Some p → fields mode reg rm ≡ one reg (code_of_ptr p)
ptr_at_is mode reg rm p h =
    if_then (mode == 0) (entry_under ptrs rm) p (fields mode reg rm ≡ one reg (code_of_ptr p)) h
    (λ t e. let m : mode ≡ 0 = eqb-true mode 0 t in let k : rm ≡ code_of_ptr p = code_of_found_ptr rm p e in omega arith)

pub direct_at_is : (mode reg rm a : ℕ) (word : Option ℕ) → direct_at mode rm word ≡ Some a → (fields mode reg rm ≡ one reg 6) × (word ≡ Some a)
direct_at_is mode reg rm a word h =
    if_then (mode == 0) (cond (rm == 6) word None) a ((fields mode reg rm ≡ one reg 6) × (word ≡ Some a)) h
    (λ t e. if_then (rm == 6) word a ((fields mode reg rm ≡ one reg 6) × (word ≡ Some a)) e
    (λ u w. let m : mode ≡ 0 = eqb-true mode 0 t in let k : rm ≡ 6 = eqb-true rm 6 u in (omega arith, w)))

pub operand8_at_is : (mode reg rm : ℕ) (o : Operand8) → operand8_at mode rm ≡ Some o → fields mode reg rm ≡ with_operand reg o
operand8_at_is mode reg rm o h = by_test (mode == 3) refl h
  where
    by_test : (b : Bool) → (mode == 3) ≡ b → cond b (option_map Reg (entry_under regs8 rm)) (option_map Mem (ptr_at mode rm)) ≡ Some o → fields mode reg rm ≡ with_operand reg o
    by_test true t e =
        of_map Reg (entry_under regs8 rm) o (λ o. fields mode reg rm ≡ with_operand reg o) e
        (λ r f. let m : mode ≡ 3 = eqb-true mode 3 t in let k : rm ≡ code8 r = code_of_reg8 rm r f in omega arith)
    by_test false t e = of_map Mem (ptr_at mode rm) o (λ o. fields mode reg rm ≡ with_operand reg o) e (λ p f. ptr_at_is mode reg rm p f)

-- a word operand and the bytes of its fields
abbrev pub Names : ℕ → Operand16 → ℕ → Option ℕ → Type 0
Names reg (Reg_16 r) m word = m ≡ two reg (code16 r)
Names reg (Direct a) m word = (m ≡ one reg 6) × (word ≡ Some a)

pub operand16_at_is : (mode reg rm : ℕ) (o : Operand16) (word : Option ℕ) → operand16_at mode rm word ≡ Some o → Names reg o (fields mode reg rm) word
operand16_at_is mode reg rm o word h = by_test (mode == 3) refl h
  where
    by_test : (b : Bool) → (mode == 3) ≡ b → cond b (option_map Reg_16 (entry_under regs16 rm)) (option_map Direct (direct_at mode rm word)) ≡ Some o → Names reg o (fields mode reg rm) word
    by_test true t e =
        of_map Reg_16 (entry_under regs16 rm) o (λ o. Names reg o (fields mode reg rm) word) e
        (λ r f. let m : mode ≡ 3 = eqb-true mode 3 t in let k : rm ≡ code16 r = code_of_reg16 rm r f in omega arith)
    by_test false t e = of_map Direct (direct_at mode rm word) o (λ o. Names reg o (fields mode reg rm) word) e (λ a f. direct_at_is mode reg rm a word f)

-- a byte operand has fields: mod and rm
abbrev pub mode_of_operand : Operand8 → ℕ
mode_of_operand (Reg r) = 3
mode_of_operand (Mem p) = 0

abbrev pub rm_of_operand : Operand8 → ℕ
rm_of_operand (Reg r) = code8 r
rm_of_operand (Mem p) = code_of_ptr p

pub operand8_fields : (reg : ℕ) (o : Operand8) → with_operand reg o ≡ fields (mode_of_operand o) reg (rm_of_operand o)
operand8_fields reg (Reg r) = omega arith
operand8_fields reg (Mem p) = omega arith

pub operand8_mode_small : (o : Operand8) → mode_of_operand o < 4
operand8_mode_small (Reg r) = lit< tt
operand8_mode_small (Mem p) = lit< tt

pub operand8_rm_small : (o : Operand8) → rm_of_operand o < 8
operand8_rm_small (Reg r) = code8_small r
operand8_rm_small (Mem p) = ptr_small p

pub operand8_found : (o : Operand8) → operand8_at (mode_of_operand o) (rm_of_operand o) ≡ Some o
operand8_found (Reg r) = ap (option_map Reg) (reg8_found r)
operand8_found (Mem p) = ap (option_map Mem) (ptr_found p)
