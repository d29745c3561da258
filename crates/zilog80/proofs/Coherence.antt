-- Zilog's spelling is one of statements that can be assembled, and each is spelt in one way.
use Rattle.std.proofs.Common.{◌≡◌, ℕ, List, [], ◌∷◌, ◌++◌, Bool, true, false, not, All, refl, inl, inr}
use Rattle.std.specs.List.{AllByRecursion, list_any, list_all, slice_split, onto_first}
use Rattle.std.specs.Str.{bytes_eq}
use Rattle.std.proofs.lemmas.List.Elements.{All-from_recursion}
use Rattle.asm80_types.specs.Tree.{Named, Operand, Whole}
use Rattle.asm80_types.specs.Words.{operations, registers as statement_registers, is_operation as is_statement_operation, is_register as is_statement_register}
use Rattle.asm80_types.specs.WellFormed.{IsLawfulOperand}
use Rattle.asm80_types.specs.Ranges.{IsInRange}
use Rattle.asm80_text.specs.declared.token.Token.{Token}
use Rattle.asm80_text.specs.Small.{IsSmall, AreSmall}
use Rattle.asm80_text.specs.Tokens.{IsLawful}
use Rattle.asm80_text.specs.Coherent.{IsCoherent}
use Rattle.asm80_text.proofs.Alone.{one_operand_list}
use Rattle.asm80_text.proofs.Lawful.{list_lawful}
use Rattle.asm80_text.proofs.Ranges.{list_range}
use Rattle.zilog80.specs.Operands.{Spelt, Name, AtName, Literal, Value, AtValue, IsSpelt, Class}
use Rattle.zilog80.specs.Table.{bare_rows, unary_rows, binary_rows}
use Rattle.zilog80.specs.Words.{directives, reserved_names, is_directive, is_register}
use Rattle.zilog80.specs.Zilog.{IsInstruction, bare, unary, binary, IsZilogForm, directive, instruction, operand_parts, is_comma, zilog_spelling}
use Rattle.zilog80.specs.Read.{value_in}
use Rattle.zilog80.proofs.Among.{among, named, passes, two_cases}
use Rattle.zilog80.proofs.Spelling.{spelt_range}
use Rattle.zilog80.proofs.Giving.{each_given}
use Rattle.zilog80.proofs.Rows.{one_instruction}

true_false : (b : Bool) → b ≡ true → b ≡ false → ⊥
true_false b e f = cc

-- ---- words

registers_reserved : list_all (λ w. list_any (λ v. bytes_eq v w) reserved_names) statement_registers ≡ true
unfolding reserved_names statement_registers
registers_reserved = refl

-- a word that is not reserved is no register of statements
no_register : (name : List ℕ) → is_register name ≡ false → is_statement_register name ≡ false
no_register name free = elim (two_cases (is_statement_register name)) [
  | inl t ↦ absurd (true_false (is_register name) (passes (λ w. list_any (λ v. bytes_eq v w) reserved_names) statement_registers name registers_reserved (named statement_registers name t)) free)
  | inr f ↦ f
]

directives_operate : list_all is_statement_operation directives ≡ true
unfolding directives operations
directives_operate = refl

bare_operate : list_all (λ (r : List ℕ × List ℕ). is_statement_operation r.1) bare_rows ≡ true
unfolding bare_rows operations
bare_operate = refl

unary_operate : list_all (λ (r : List ℕ × Class × List ℕ). is_statement_operation r.2) unary_rows ≡ true
unfolding unary_rows operations
unary_operate = refl

binary_operate : list_all (λ (r : List ℕ × Class × Class × List ℕ). is_statement_operation r.3) binary_rows ≡ true
unfolding binary_rows operations
binary_operate = refl

no_bare_directive : list_all (λ (r : List ℕ × List ℕ). not (is_directive r.0)) bare_rows ≡ true
unfolding bare_rows directives
no_bare_directive = refl

no_unary_directive : list_all (λ (r : List ℕ × Class × List ℕ). not (is_directive r.0)) unary_rows ≡ true
unfolding unary_rows directives
no_unary_directive = refl

no_binary_directive : list_all (λ (r : List ℕ × Class × Class × List ℕ). not (is_directive r.0)) binary_rows ≡ true
unfolding binary_rows directives
no_binary_directive = refl

-- an instruction of the table is an operation of statements, and no directive
operates : {word op : List ℕ} {parts : List (List Token)} {args : List Operand} → IsInstruction word parts op args → is_statement_operation op ≡ true
operates {word} {op} (bare h) = passes (λ (r : List ℕ × List ℕ). is_statement_operation r.1) bare_rows (word, op) bare_operate (among bare_rows (word, op) h)
operates {word} {op} (unary c a h s t) = passes (λ (r : List ℕ × Class × List ℕ). is_statement_operation r.2) unary_rows (word, c, op) unary_operate (among unary_rows (word, c, op) h)
operates {word} {op} (binary c d a b h s t i j) = passes (λ (r : List ℕ × Class × Class × List ℕ). is_statement_operation r.3) binary_rows (word, c, d, op) binary_operate (among binary_rows (word, c, d, op) h)

no_directive : {word op : List ℕ} {parts : List (List Token)} {args : List Operand} → IsInstruction word parts op args → not (is_directive word) ≡ true
no_directive {word} {op} (bare h) = passes (λ (r : List ℕ × List ℕ). not (is_directive r.0)) bare_rows (word, op) no_bare_directive (among bare_rows (word, op) h)
no_directive {word} {op} (unary c a h s t) = passes (λ (r : List ℕ × Class × List ℕ). not (is_directive r.0)) unary_rows (word, c, op) no_unary_directive (among unary_rows (word, c, op) h)
no_directive {word} {op} (binary c d a b h s t i j) = passes (λ (r : List ℕ × Class × Class × List ℕ). not (is_directive r.0)) binary_rows (word, c, d, op) no_binary_directive (among binary_rows (word, c, d, op) h)

-- ---- operands

appended : (P : Operand → Type 0) (xs ys : List Operand) → AllByRecursion P xs → AllByRecursion P ys → AllByRecursion P (xs ++ ys)
appended P [] ys h k = k
appended P (x ∷ xs) ys h k = (h.0, appended P xs ys h.1 k)

-- what holds of each name and of the value of each operand holds of all that an instruction is given
module _ (P : Operand → Type 0) (Q : List Token → Type 0) (names : (n : List ℕ) → P (Whole (Named n))) (values : (ts : List Token) (a : Spelt) → Q ts → IsSpelt ts a → AllByRecursion P (value_in a)) where
  each_operand : {word op : List ℕ} {parts : List (List Token)} {args : List Operand} → IsInstruction word parts op args → AllByRecursion Q parts → AllByRecursion P args
  each_operand (bare h) q = tt
  each_operand (unary {ts = ts} {args = args} c a h s t) q = each_given P c a args names (values ts a q.0 s) t
  each_operand (binary {ts = ts} {us = us} {args = args} {others = others} c d a b h s t i j) q =
      appended P args others (each_given P c a args names (values ts a q.0 s) i) (each_given P d b others names (values us b q.1.0 t) j)

any_value : (a : Spelt) → AllByRecursion IsLawfulOperand (value_in a)
any_value (Name n) = tt
any_value (AtName n) = tt
any_value (Literal n) = (tt, tt)
any_value (Value e) = (tt, tt)
any_value (AtValue e) = (tt, tt)

all_parts : (parts : List (List Token)) → AllByRecursion (λ (ts : List Token). Unit {0}) parts
all_parts [] = tt
all_parts (ts ∷ parts) = (tt, all_parts parts)

onto_small : (t : Token) (parts : List (List Token)) → IsSmall t → AllByRecursion AreSmall parts → AllByRecursion AreSmall (onto_first t parts)
onto_small t [] h a = ((h, tt), tt)
onto_small t (part ∷ parts) h a = ((h, a.0), a.1)

split_small : (ts : List Token) → AreSmall ts → AllByRecursion AreSmall (slice_split is_comma ts)
split_small [] h = (tt, tt)
split_small (t ∷ ts) h = elim (two_cases (is_comma t)) [
  | inl e ↦ rw e (tt, split_small ts h.1)
  | inr e ↦ rw e (onto_small t (slice_split is_comma ts) h.0 (split_small ts h.1))
]

parts_small : (ts : List Token) → AreSmall ts → AllByRecursion AreSmall (operand_parts ts)
parts_small [] h = tt
parts_small (t ∷ ts) h = split_small (t ∷ ts) h

-- ---- forms

form_lawful : {word op : List ℕ} {ts : List Token} {args : List Operand} → All (IsLawful zilog_spelling) ts → IsZilogForm word ts op args → (is_statement_operation op ≡ true) × All IsLawfulOperand args
form_lawful {word} {ts = ts} {args = args} lawful (directive e h) =
    (passes is_statement_operation directives word directives_operate (named directives word e), list_lawful zilog_spelling ts args lawful h)
form_lawful {ts = ts} lawful (instruction x) =
    (operates x, All-from_recursion _ _ (each_operand IsLawfulOperand (λ us. Unit {0}) (λ n. tt) (λ us a q s. any_value a) x (all_parts (operand_parts ts))))

form_range : {word op : List ℕ} {ts : List Token} {args : List Operand} → AreSmall ts → IsZilogForm word ts op args → AllByRecursion IsInRange args
form_range small (directive e h) = list_range h small
form_range {ts = ts} small (instruction x) = each_operand IsInRange AreSmall (λ n. tt) (λ us a q s. spelt_range s q) x (parts_small ts small)

not_both : (b : Bool) → b ≡ true → not b ≡ true → ⊥
not_both true p q = cc
not_both false p q = cc

-- a directive is no instruction
pub directive_no_instruction : {word op : List ℕ} {parts : List (List Token)} {args : List Operand} → is_directive word ≡ true → IsInstruction word parts op args → ⊥
directive_no_instruction {word} e x = not_both (is_directive word) e (no_directive x)

one_form : {word op other : List ℕ} {ts : List Token} {args others : List Operand} → IsZilogForm word ts op args → IsZilogForm word ts other others → (op ≡ other) × (args ≡ others)
one_form (directive e h) (directive f k) = (refl, one_operand_list h k)
one_form (directive e h) (instruction x) = absurd (directive_no_instruction e x)
one_form (instruction x) (directive e h) = absurd (directive_no_instruction e x)
one_form {word} (instruction x) (instruction y) = one_instruction word x y

pub zilog_coherent : IsCoherent zilog_spelling
zilog_coherent = record {
  labels = no_register;
  lawful = λ word op ts args operation lawful form. form_lawful lawful form;
  ranged = λ word op ts args small form. form_range small form;
  one = λ word ts op other args others form again. one_form form again;
}
