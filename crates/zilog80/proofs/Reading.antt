-- What the functions that read operands and instructions found.
use Rattle.std.proofs.Common.{◌≡◌, ◌≢◌, ℕ, suc, ◌+◌, ◌-◌, ◌<◌, ◌≤◌, List, [], ◌∷◌, ◌++◌, length, length-drop, get_or, take, drop, Bool, true, false, ◌||◌, not, Option, Some, None, Result, Ok, Err, refl, sym, ap, ◌∙◌, arith, inl, inr, Bor}
use Rattle.std.specs.Prelude.{IfSome, is_some, option_copied}
use Rattle.std.specs.List.{slice_split, onto_first}
use Rattle.std.specs.Global.{Vec}
use Rattle.std.proofs.lemmas.List.{at_drop_more, at_drop_all, take_all}
use Rattle.std.proofs.lemmas.List.Sums.{prefix_len-drop_yes, prefix_len-drop_no, prefix_len-drop_all}
use Rattle.asm80_types.specs.declared.arg.Arg.{Arg}
use Rattle.asm80_types.specs.declared.expr.Expr.{Expr}
use Rattle.asm80_types.specs.declared.name.Name80.{Name80}
use Rattle.asm80_types.specs.Tree.{Operand, tree_of}
use Rattle.asm80_text.specs.declared.token.Token.{Token}
use Rattle.asm80_text.specs.declared.token.Token.TheVariants.{Comma, Register}
use Rattle.asm80_text.specs.declared.fault.ParseFault.{ParseFault}
use Rattle.asm80_text.specs.declared.fault.ParseFault.TheVariants as faults
use Rattle.asm80_text.specs.TokenResults.{GivesOperation}
use Rattle.asm80_text.specs.Results.{GivesOperandList}
use Rattle.zilog80.specs.declared.class.Class.{Class as ReadClass}
use Rattle.zilog80.specs.Operands.{Spelt, Value, AtValue, Class, has_reserved, is_reserved, atom_of, IsSpelt, atom, value, at_value, operands}
use Rattle.zilog80.specs.Table.{bare_rows, unary_rows, binary_rows}
use Rattle.zilog80.specs.Zilog.{is_comma, operand_parts, IsInstruction, bare, unary, binary, IsZilogForm, directive, instruction, zilog_spelling}
use Rattle.zilog80.specs.Words.{is_directive}
use Rattle.zilog80.specs.Read.{class_of, operand_len, GivesSpelt, GivesEnclosed, GivesWhole, IsNextOperand, GivesInstruction, IsBareRow, IsUnaryRow, IsBinaryRow}
use Rattle.zilog80.proofs.Among.{two_cases}
use Rattle.zilog80.proofs.Spelling.{one_spelt, enclosed_whole}
use Rattle.zilog80.proofs.Coherence.{directive_no_instruction}

true_false : (b : Bool) → b ≡ true → b ≡ false → ⊥
true_false b e f = cc

some_none : {X : Type 0} (x : X) (o : Option X) → o ≡ Some x → o ≡ None → ⊥
some_none x o e f = cc

-- ---- operands

pub reserved_fails : (ts : List Token) → atom_of ts ≡ None → has_reserved ts ≡ true → (a : Spelt) → IsSpelt ts a → ⊥
reserved_fails ts none e a (atom k) = some_none a (atom_of ts) k none
reserved_fails ts none e _ (value n h s q) = true_false (has_reserved ts) e h
reserved_fails ts none e _ (at_value n h s) = true_false (has_reserved ts) e h

none_reserved : (t : Token) → ((n : Name80) → t ≡ Register n → ⊥) → is_reserved t ≡ false
none_reserved (Register n) none = absurd (none n refl)
none_reserved t none = refl

pub passes_unreserved : (ts : List Token) (i : ℕ) (t : Token) → i < length ts → t ≡ get_or ts i t → has_reserved (drop i ts) ≡ has_reserved ts → ((n : Name80) → t ≡ Register n → ⊥) → has_reserved (drop (i + 1) ts) ≡ has_reserved ts
passes_unreserved ts i t lt at same none = sym (at_drop_more has_reserved ts i t lt ∙ ap (λ b. b || has_reserved (drop (i + 1) ts)) (ap is_reserved (sym at) ∙ none_reserved t none)) ∙ same

pub reserved_at : (ts : List Token) (i : ℕ) (t : Token) (n : Name80) → i < length ts → t ≡ get_or ts i t → has_reserved (drop i ts) ≡ has_reserved ts → t ≡ Register n → true ≡ has_reserved ts
reserved_at ts i t n lt at same is = sym (at_drop_more has_reserved ts i t lt ∙ ap (λ (x : Token). is_reserved x || has_reserved (drop (i + 1) ts)) (sym at ∙ is)) ∙ same

pub enclosed_read : (ts : List Token) (o : Option Expr) (e : Expr) → atom_of ts ≡ None → has_reserved ts ≡ false → o ≡ Some e → GivesEnclosed ts (Ok o) → IsSpelt ts (AtValue (tree_of e))
enclosed_read ts (Some f) e none free is g = let same : f ≡ e = cc in at_value none free (rw same at g)
enclosed_read ts None e none free is g = absurd cc

pub whole_read : (ts : List Token) (o : Option Expr) (e : Expr) → atom_of ts ≡ None → has_reserved ts ≡ false → o ≡ None → GivesEnclosed ts (Ok o) → GivesWhole ts (Ok e) → IsSpelt ts (Value (tree_of e))
whole_read ts None e none free is g w = value none free w g
whole_read ts (Some f) e none free is g w = absurd cc

pub whole_fails : (ts : List Token) (f : ParseFault) → atom_of ts ≡ None → GivesWhole ts (Err f) → GivesSpelt ts (Err f)
whole_fails ts faults.Memory none w = tt
whole_fails ts faults.Malformed none w = λ a x. no_spelling w a x
  where
    no_spelling : GivesWhole ts (Err faults.Malformed) → (a : Spelt) → IsSpelt ts a → ⊥
    no_spelling w a (atom k) = some_none a (atom_of ts) k none
    no_spelling w _ (value {e = e} n h s q) = w e s
    no_spelling w _ (at_value {e = e} n h s) = w e (enclosed_whole ts e s)

-- ---- parts

abbrev front : List Token → List Token
front ts = take (operand_len ts) ts

abbrev behind : List Token → List Token
behind ts = drop (operand_len ts) ts

no_cons : (t : Token) (ts : List Token) → ◌≡◌ {A = List Token} (t ∷ ts) [] → ⊥
no_cons t ts e = cc

head_is : (t u : Token) (ts us : List Token) → ◌≡◌ {A = List Token} (t ∷ ts) (u ∷ us) → ts ≡ us
head_is t u ts us e = cc

len_comma : (t : Token) (ts : List Token) → is_comma t ≡ true → operand_len (t ∷ ts) ≡ 0
len_comma t ts e = rw e refl

len_more : (t : Token) (ts : List Token) → is_comma t ≡ false → operand_len (t ∷ ts) ≡ suc (operand_len ts)
len_more t ts e = let one : 1 + operand_len ts ≡ suc (operand_len ts) = omega arith in rw (e, one) refl

front_more : (t : Token) (ts : List Token) → is_comma t ≡ false → front (t ∷ ts) ≡ t ∷ front ts
front_more t ts e = ap (λ (n : ℕ). take n (t ∷ ts)) (len_more t ts e)

behind_more : (t : Token) (ts : List Token) → is_comma t ≡ false → behind (t ∷ ts) ≡ behind ts
behind_more t ts e = ap (λ (n : ℕ). drop n (t ∷ ts)) (len_more t ts e)

behind_comma : (t : Token) (ts : List Token) → is_comma t ≡ true → behind (t ∷ ts) ≡ t ∷ ts
behind_comma t ts e = ap (λ (n : ℕ). drop n (t ∷ ts)) (len_comma t ts e)

front_comma : (t : Token) (ts : List Token) → is_comma t ≡ true → front (t ∷ ts) ≡ []
front_comma t ts e = ap (λ (n : ℕ). take n (t ∷ ts)) (len_comma t ts e)

split_comma : (t : Token) (ts : List Token) → is_comma t ≡ true → slice_split is_comma (t ∷ ts) ≡ [] ∷ slice_split is_comma ts
split_comma t ts e = rw e refl

split_more : (t : Token) (ts : List Token) → is_comma t ≡ false → slice_split is_comma (t ∷ ts) ≡ onto_first t (slice_split is_comma ts)
split_more t ts e = rw e refl

pub one_part : (ts : List Token) → behind ts ≡ [] → slice_split is_comma ts ≡ front ts ∷ []
one_part [] e = refl
one_part (t ∷ ts) e = elim (two_cases (is_comma t)) [
  | inl c ↦ absurd (no_cons t ts (sym (behind_comma t ts c) ∙ e))
  | inr n ↦ split_more t ts n ∙ ap (onto_first t) (one_part ts (sym (behind_more t ts n) ∙ e)) ∙ ap (λ (us : List Token). us ∷ []) (sym (front_more t ts n))
]

pub more_parts : (ts : List Token) (u : Token) (us : List Token) → behind ts ≡ u ∷ us → slice_split is_comma ts ≡ front ts ∷ slice_split is_comma us
more_parts [] u us e = absurd (no_cons u us (sym e))
more_parts (t ∷ ts) u us e = elim (two_cases (is_comma t)) [
  | inl c ↦ split_comma t ts c ∙ ap (λ (x : List Token). x ∷ slice_split is_comma ts) (sym (front_comma t ts c)) ∙ ap (λ (x : List Token). front (t ∷ ts) ∷ slice_split is_comma x) (head_is t u ts us (sym (behind_comma t ts c) ∙ e))
  | inr n ↦ split_more t ts n ∙ ap (onto_first t) (more_parts ts u us (sym (behind_more t ts n) ∙ e)) ∙ ap (λ (x : List Token). x ∷ slice_split is_comma us) (sym (front_more t ts n))
]

no_comma : (t : Token) → (t ≡ Comma → ⊥) → is_comma t ≡ false
no_comma Comma n = absurd (n refl)
no_comma t n = refl

-- token by token
pub passes_token : (ts : List Token) (i : ℕ) (d : Token) → i < length ts → operand_len ts ≡ i + operand_len (drop i ts) → (get_or ts i d ≡ Comma → ⊥) → operand_len ts ≡ (i + 1) + operand_len (drop (i + 1) ts)
passes_token ts i d lt e n =
    let one = prefix_len-drop_yes (λ t. not (is_comma t)) ts i d lt (ap not (no_comma (get_or ts i d) n)) in
    omega (arith, e, one)

pub comma_at : (ts : List Token) (i : ℕ) (d : Token) → i < length ts → operand_len ts ≡ i + operand_len (drop i ts) → get_or ts i d ≡ Comma → slice_split is_comma ts ≡ take i ts ∷ slice_split is_comma (take (length ts - (i + 1)) (drop (i + 1) ts))
comma_at ts i d lt e is =
    let none = prefix_len-drop_no (λ t. not (is_comma t)) ts i d lt (ap (λ t. not (is_comma t)) is) in
    let at : operand_len ts ≡ i = omega (arith, e, none) in
    let whole = take_all (length ts - (i + 1)) (drop (i + 1) ts) (omega (arith, length-drop (i + 1) ts)) in
    more_parts ts (get_or ts i d) (drop (i + 1) ts) (ap (λ n. drop n ts) at ∙ at_drop_more (λ (x : List Token). x) ts i d lt)
    ∙ ap (λ n. take n ts ∷ slice_split is_comma (drop (i + 1) ts)) at ∙ ap (λ (us : List Token). take i ts ∷ slice_split is_comma us) (sym whole)

pub comma_nowhere : (ts : List Token) (i : ℕ) → length ts ≤ i → operand_len ts ≡ i + operand_len (drop i ts) → slice_split is_comma ts ≡ ts ∷ []
comma_nowhere ts i le e =
    let none = prefix_len-drop_all (λ t. not (is_comma t)) ts i le in
    let at : operand_len ts ≡ i = omega (arith, e, none) in
    one_part ts (ap (λ n. drop n ts) at ∙ at_drop_all (λ (x : List Token). x) ts i le) ∙ ap (λ (us : List Token). us ∷ []) (ap (λ n. take n ts) at ∙ take_all i ts le)

pub some_parts : (ts : List Token) → ts ≢ [] → operand_parts ts ≡ slice_split is_comma ts
some_parts [] ne = absurd (ne refl)
some_parts (t ∷ ts) ne = refl

pub no_parts : (ts : List Token) → ts ≡ [] → operand_parts ts ≡ []
no_parts [] e = refl
no_parts (t ∷ ts) e = absurd (no_cons t ts e)

onto_some : (t : Token) (parts : List (List Token)) → onto_first t parts ≡ [] → ⊥
onto_some t [] e = cc
onto_some t (p ∷ parts) e = cc

-- no tokens are no parts
never_none : (ts : List Token) → slice_split is_comma ts ≡ [] → ⊥
never_none [] e = cc
never_none (t ∷ ts) e = elim (two_cases (is_comma t)) [
  | inl c ↦ some_list (slice_split is_comma ts) (sym (split_comma t ts c) ∙ e)
  | inr n ↦ onto_some t (slice_split is_comma ts) (sym (split_more t ts n) ∙ e)
]
  where
    some_list : (parts : List (List Token)) → ◌≡◌ {A = List (List Token)} ([] ∷ parts) [] → ⊥
    some_list parts e = cc

pub one_left : (ts a : List Token) (o : Option (Bor (List Token))) → o ≡ None → IsNextOperand ts a (option_copied o) → IsNextOperand ts a None
one_left ts a None e h = h
one_left ts a (Some us) e h = absurd cc

pub more_left : (ts a : List Token) (o : Option (Bor (List Token))) (us : Bor (List Token)) → o ≡ Some us → IsNextOperand ts a (option_copied o) → IsNextOperand ts a (Some us.now)
more_left ts a None us e h = absurd cc
more_left ts a (Some vs) us e h = let same : vs ≡ us = cc in rw (← same) h

pub some_copied : (o : Option (Bor (List Token))) → is_some (option_copied o) ≡ is_some o
some_copied None = refl
some_copied (Some us) = refl

-- ---- instructions

abbrev Given : List ℕ → List (List Token) → Type 0
Given word parts = (op : List ℕ) (args : List Operand) → IsInstruction word parts op args → ⊥

three_fail : (word : List ℕ) (a b : List Token) (parts : List (List Token)) → (parts ≡ [] → ⊥) → Given word (a ∷ b ∷ parts)
three_fail word a b [] some op args x = some refl
three_fail word a b (p ∷ parts) some op args x = too_many x
  where
    too_many : IsInstruction word (a ∷ b ∷ p ∷ parts) op args → ⊥
    too_many x = elim x [ ]

pub three_operands : (word : List ℕ) (ts us a b : List Token) (c : Option (List Token)) → ts ≢ [] → IsNextOperand ts a (Some us) → IsNextOperand us b c → is_some c ≡ true → Given word (operand_parts ts)
three_operands word ts us a b (Some vs) ne h k e =
    rw (some_parts ts ne ∙ h ∙ ap (λ (x : List (List Token)). a ∷ x) k) (three_fail word a b (slice_split is_comma vs) (never_none vs))
three_operands word ts us a b None ne h k e = absurd cc

pub two_operands : (word : List ℕ) (ts us a b : List Token) (c : Option (List Token)) (r : Result (List ℕ × Vec Arg) ParseFault) → ts ≢ [] → IsNextOperand ts a (Some us) → IsNextOperand us b c → is_some c ≡ false → GivesInstruction word (a ∷ b ∷ []) r → GivesInstruction word (operand_parts ts) r
two_operands word ts us a b None r ne h k e g = rw (some_parts ts ne ∙ h ∙ ap (λ (x : List (List Token)). a ∷ x) k) g
two_operands word ts us a b (Some vs) r ne h k e g = absurd cc

pub one_operand : (word : List ℕ) (ts a : List Token) (r : Result (List ℕ × Vec Arg) ParseFault) → ts ≢ [] → IsNextOperand ts a None → GivesInstruction word (a ∷ []) r → GivesInstruction word (operand_parts ts) r
one_operand word ts a r ne h g = rw (some_parts ts ne ∙ h) g

pub no_operand : (word : List ℕ) (ts : List Token) (r : Result (List ℕ × Vec Arg) ParseFault) → ts ≡ [] → GivesInstruction word [] r → GivesInstruction word (operand_parts ts) r
no_operand word ts r e g = rw (no_parts ts e) g

pub no_bare : (word : List ℕ) → IsBareRow bare_rows word None → Given word []
no_bare word none op args (bare h) = none op h

pub unary_fails : (word : List ℕ) (ts : List Token) (f : ParseFault) → GivesSpelt ts (Err f) → GivesInstruction word (ts ∷ []) (Err f)
unary_fails word ts faults.Memory g = tt
unary_fails word ts faults.Malformed g = λ op args x. never g x
  where
    never : GivesSpelt ts (Err faults.Malformed) → {op : List ℕ} {args : List Operand} → IsInstruction word (ts ∷ []) op args → ⊥
    never g (unary c a h s t) = g a s

pub no_unary : (word : List ℕ) (ts : List Token) (a : Spelt) → IsSpelt ts a → IsUnaryRow unary_rows word a None → Given word (ts ∷ [])
no_unary word ts a s none op args (unary c b h r t) = some_none args (operands c b) t (ap (operands c) (one_spelt r s) ∙ none c op h)

given_as : (c : Class) (a : Spelt) (o : Option (List Operand)) (before after : List Operand) → operands c a ≡ o → is_some o ≡ true → before ≡ [] → IfSome o (λ xs. after ≡ before ++ xs) → operands c a ≡ Some after
given_as c a (Some xs) before after e some none g = e ∙ ap Some (sym (g ∙ ap (λ (k : List Operand). k ++ xs) none))
given_as c a None before after e some none g = absurd cc

pub unary_read : (word : List ℕ) (ts : List Token) (a : Spelt) (class : ReadClass) (op : List ℕ) (before after : List Operand) → IsSpelt ts a → IsUnaryRow unary_rows word a (Some (class, op)) → before ≡ [] → IfSome (operands (class_of class) a) (λ xs. after ≡ before ++ xs) → IsInstruction word (ts ∷ []) op after
unary_read word ts a class op before after s row none g = unary (class_of class) a row.0 s (given_as (class_of class) a (operands (class_of class) a) before after refl row.1 none g)

pub left_fails : (word : List ℕ) (ts us : List Token) (f : ParseFault) → GivesSpelt ts (Err f) → GivesInstruction word (ts ∷ us ∷ []) (Err f)
left_fails word ts us faults.Memory g = tt
left_fails word ts us faults.Malformed g = λ op args x. never g x
  where
    never : GivesSpelt ts (Err faults.Malformed) → {op : List ℕ} {args : List Operand} → IsInstruction word (ts ∷ us ∷ []) op args → ⊥
    never g (binary c d a b h s t i j) = g a s

pub right_fails : (word : List ℕ) (ts us : List Token) (f : ParseFault) → GivesSpelt us (Err f) → GivesInstruction word (ts ∷ us ∷ []) (Err f)
right_fails word ts us faults.Memory g = tt
right_fails word ts us faults.Malformed g = λ op args x. never g x
  where
    never : GivesSpelt us (Err faults.Malformed) → {op : List ℕ} {args : List Operand} → IsInstruction word (ts ∷ us ∷ []) op args → ⊥
    never g (binary c d a b h s t i j) = g b t

pub no_binary : (word : List ℕ) (ts us : List Token) (a b : Spelt) → IsSpelt ts a → IsSpelt us b → IsBinaryRow binary_rows word a b None → Given word (ts ∷ us ∷ [])
no_binary word ts us a b s t none op _ (binary {args = x} {others = y} c d e f h r u i j) =
    none c d op x y h (ap (operands c) (one_spelt s r) ∙ i) (ap (operands d) (one_spelt t u) ∙ j)

more_as : (d : Class) (b : Spelt) (o : Option (List Operand)) (first after : List Operand) → operands d b ≡ o → is_some o ≡ true → IfSome o (λ xs. after ≡ first ++ xs) → (ys : List Operand) × (operands d b ≡ Some ys) × (after ≡ first ++ ys)
more_as d b (Some ys) first after e some g = (ys, e, g)
more_as d b None first after e some g = absurd cc

pub binary_read : (word : List ℕ) (ts us : List Token) (a b : Spelt) (to from : ReadClass) (op : List ℕ) (before first after : List Operand) → IsSpelt ts a → IsSpelt us b → IsBinaryRow binary_rows word a b (Some (to, from, op)) → before ≡ []
    → IfSome (operands (class_of to) a) (λ xs. first ≡ before ++ xs) → IfSome (operands (class_of from) b) (λ xs. after ≡ first ++ xs) → IsInstruction word (ts ∷ us ∷ []) op after
binary_read word ts us a b to from op before first after s t row none g k =
    let more = more_as (class_of from) b (operands (class_of from) b) first after refl row.2 k in
    rw more.2 (binary (class_of to) (class_of from) a b row.0 s t (given_as (class_of to) a (operands (class_of to) a) before first refl row.1 none g) more.1)

-- ---- forms

pub directive_test : (name word : List ℕ) (r b : Bool) → r ≡ is_directive name → name ≡ word → r ≡ b → is_directive word ≡ b
directive_test name word r b e same is = ap is_directive (sym same) ∙ sym e ∙ is

pub directive_read : (word : List ℕ) (ts : List Token) → is_directive word ≡ false → (r : Result (List ℕ × Vec Arg) ParseFault) → GivesInstruction word (operand_parts ts) r → GivesOperation zilog_spelling word ts r
directive_read word ts other (Ok x) g = instruction g
directive_read word ts other (Err faults.Memory) g = tt
directive_read word ts other (Err faults.Malformed) g = λ op args x. never g x
  where
    never : GivesInstruction word (operand_parts ts) (Err faults.Malformed) → {op : List ℕ} {args : List Operand} → IsZilogForm word ts op args → ⊥
    never g (directive e h) = true_false (is_directive word) e other
    never g (instruction {op = op} {args = args} x) = g op args x

pub directive_fails : (word : List ℕ) (ts : List Token) → is_directive word ≡ true → (f : ParseFault) → GivesOperandList ts (Err f) → GivesOperation zilog_spelling word ts (Err f)
directive_fails word ts is faults.Memory g = tt
directive_fails word ts is faults.Malformed g = λ op args x. never g x
  where
    never : GivesOperandList ts (Err faults.Malformed) → {op : List ℕ} {args : List Operand} → IsZilogForm word ts op args → ⊥
    never g (directive {args = args} e h) = g args h
    never g (instruction x) = directive_no_instruction is x

pub given_pushed : (o : Option (List Operand)) (xs before after : List Operand) → Some xs ≡ o → after ≡ before ++ xs → IfSome o (λ ys. after ≡ before ++ ys)
given_pushed (Some ys) xs before after e h = let same : xs ≡ ys = cc in rw (← same) h
given_pushed None xs before after e h = tt
