-- Operands that break no rule of the second walk make a well formed instruction of as many bytes as the first walk counted,
-- or one that is foreign to the profile.
use Rattle.std.proofs.Common.{◌≡◌, ℕ, ◌==◌, not, ◌&&◌, ◌||◌, Bool, true, false, cond, List, [], ◌∷◌, zip, Option, Some, None, is_some, is_none, IfSome, option_map, option_and_then, refl, arith}
use Rattle.std.specs.List.{find, list_all}
use Rattle.std.proofs.lemmas.Bool.Decides.{nat_tests}
use Rattle.std.proofs.lemmas.Bool.{and_parts}
use Rattle.i80.specs.declared.Src.{Src}
use Rattle.i80.specs.declared.Src.TheVariants.{Reg, Mem}
use Rattle.i80.specs.declared.Pair.{Pair as Pair80}
use Rattle.i80.specs.declared.Pair.TheVariants as pairs
use Rattle.i80.specs.declared.Instr80.{Instr80}
use Rattle.i80.specs.declared.Instr80.TheVariants as i80
use Rattle.i80.specs.Columns.{is_well_formed, length80}
use Rattle.asm80_types.specs.Tree.{Operand, Statement}
use Rattle.asm80_source_def.specs.declared.operation.Operation.{Operation}
use Rattle.asm80_source_def.specs.declared.operation.Operation.TheVariants as op
use Rattle.asm80_source_def.specs.declared.operation.Kind.{Kind}
use Rattle.asm80_source_def.specs.declared.operation.Kind.TheVariants.{Register, Pair, Indirect, Stack, Byte, Word, Address, Target, Restart}
use Rattle.asm80_source_def.specs.declared.rule.AsmRule.{AsmRule}
use Rattle.asm80_source_def.specs.declared.rule.AsmRule.TheVariants.{V5}
use Rattle.asm80_source_def.specs.FirstFaults.{rule_if}
use Rattle.asm80_source_def.specs.Operations.{operation_table, operation_of, operand_kinds}
use Rattle.asm80_source_def.specs.Values.{Scope}
use Rattle.asm80_source_def.specs.Walk.{size_of_kinds, size_by}
use Rattle.asm80_source_def.specs.Operands.{register_name, indirect_named, src_of, pair_of_operand, indirect_of, stack_of, is_of_kind, are_of_kinds, is_memory, moves_memory, rule_of_values, rule_by_kinds, rule_of_operands}
use Rattle.asm80_source_def.specs.Items.{Setting, value, byte, word_of, move, is_instruction_op, instruction}
use Rattle.asm80_source_def.specs.Layout.{is_foreign_by}

-- ---- what the second walk's rules say of the operands of an instruction

-- they are those of the operation
abbrev pub are_by : Option (List Kind) → List Operand → Bool
are_by None args = false
are_by (Some ks) args = are_of_kinds ks args

unbroken : (x y : Bool) (later : Option AsmRule) → rule_if (not x || y) V5 later ≡ None → (x ≡ true) × (y ≡ false)
unbroken true true later h = absurd cc
unbroken true false later h = (refl, refl)
unbroken false y later h = absurd cc

fit_by :
    (s : Scope) (o : Operation) (args : List Operand) (ks : Option (List Kind)) → is_some ks ≡ true → rule_by_kinds s o args ks ≡ None
    → (are_by ks args ≡ true) × (moves_memory o args ≡ false)
fit_by s o args None some h = absurd cc
fit_by s o args (Some ks) some h = unbroken (are_of_kinds ks args) (moves_memory o args) (rule_of_values s (zip ks args)) h

pub accepted_fit :
    (s : Scope) (args : List Operand) (o : Operation) → is_instruction_op (Some o) ≡ true → rule_of_operands s args (Some o) ≡ None
    → (are_by (operand_kinds o) args ≡ true) × (moves_memory o args ≡ false)
accepted_fit s args op.Db is h = absurd cc
accepted_fit s args op.Dw is h = absurd cc
accepted_fit s args o is h = fit_by s o args (operand_kinds o) is h

pub instruction_size : (s : Statement) (o : Operation) → is_instruction_op (Some o) ≡ true → size_by s (Some o) ≡ size_of_kinds (operand_kinds o)
instruction_size s op.Db is = absurd cc
instruction_size s op.Dw is = absurd cc
instruction_size s o is = refl

-- ---- the operations without operands

-- an instruction without operands has one byte
abbrev pub is_bare_sound : Operation → Bool
is_bare_sound (op.Bare i) = is_well_formed i && (length80 i == 1)
is_bare_sound o = true

abbrev named_sound : List ℕ × Operation → Bool
named_sound x = is_bare_sound x.1

all_sound : list_all named_sound operation_table ≡ true
unfolding operation_table
all_sound = refl

-- what is named by a row of the table
abbrev FoundIsSound : Option (List ℕ × Operation) → Type 0
FoundIsSound found = IfSome (option_map (λ (x : List ℕ × Operation). x.1) found) (λ o. is_bare_sound o ≡ true)

found_by : (b : Bool) (x : List ℕ × Operation) (later : Option (List ℕ × Operation)) → named_sound x ≡ true → FoundIsSound later → FoundIsSound (cond b (Some x) later)
found_by true x later here h = here
found_by false x later here h = h

found_sound : (test : List ℕ × Operation → Bool) (xs : List (List ℕ × Operation)) → list_all named_sound xs ≡ true → FoundIsSound (find test xs)
found_sound test [] h = tt
found_sound test (x ∷ xs) h =
    let parts = and_parts (named_sound x) (list_all named_sound xs) h in
    found_by (test x) x (find test xs) parts.0 (found_sound test xs parts.1)

word_sound : (word : Option (List ℕ)) → IfSome (option_and_then operation_of word) (λ o. is_bare_sound o ≡ true)
word_sound None = tt
word_sound (Some w) = found_sound _ operation_table all_sound

of_some : {X : Type 0} (P : X → Type 0) (o : Option X) (x : X) → IfSome o P → o ≡ Some x → P x
of_some P o x h is = rw is at h

pub bare_sound : (word : Option (List ℕ)) (o : Operation) → option_and_then operation_of word ≡ Some o → is_bare_sound o ≡ true
bare_sound word o is = of_some (λ o. is_bare_sound o ≡ true) (option_and_then operation_of word) o (word_sound word) is

-- ---- operands by their kinds

none_given : (P : List Operand → Type 0) (args : List Operand) → are_of_kinds [] args ≡ true → P [] → P args
none_given P [] h p = p
none_given P (a ∷ args) h p = absurd cc

one_given : (k : Kind) (P : List Operand → Type 0) (args : List Operand) → are_of_kinds (k ∷ []) args ≡ true → ((a : Operand) → is_of_kind k a ≡ true → P (a ∷ [])) → P args
one_given k P [] h p = absurd cc
one_given k P (a ∷ args) h p =
    let parts = and_parts (is_of_kind k a) (are_of_kinds [] args) h in none_given (λ rest. P (a ∷ rest)) args parts.1 (p a parts.0)

two_given :
    (k l : Kind) (P : List Operand → Type 0) (args : List Operand) → are_of_kinds (k ∷ l ∷ []) args ≡ true
    → ((a b : Operand) → is_of_kind k a ≡ true → is_of_kind l b ≡ true → P (a ∷ b ∷ [])) → P args
two_given k l P [] h p = absurd cc
two_given k l P (a ∷ args) h p =
    let parts = and_parts (is_of_kind k a) (are_of_kinds (l ∷ []) args) h in
    one_given l (λ rest. P (a ∷ rest)) args parts.1 (λ b of_l. p a b parts.0 of_l)

-- ---- the instruction

-- it is well formed and has so many bytes
abbrev pub IsGood : ℕ → Instr80 → Type 0
IsGood n x = (is_well_formed x ≡ true) × (length80 x ≡ n)

-- there is one, unless it is foreign
abbrev pub IsMade : ℕ → Bool → Option Instr80 → Type 0
IsMade n is_foreign x = (is_foreign ≡ is_none x) × IfSome x (IsGood n)

pub same_made : (n m : ℕ) (f g : Bool) (x y : Option Instr80) → n ≡ m → f ≡ g → x ≡ y → IsMade m g y → IsMade n f x
same_made n m f g x y sizes same is h = rw (sizes, same, is) h

-- of an operand that names what the instruction is of
named_made : {X : Type 0} (n : ℕ) (f : X → Instr80) (o : Option X) → is_some o ≡ true → IfSome o (λ x. IsGood n (f x)) → IsMade n false (option_map f o)
named_made n f None some good = absurd cc
named_made n f (Some x) some good = (refl, good)

-- what holds of each value holds of the one that there is
each : {X : Type 0} (P : X → Type 0) (o : Option X) → ((x : X) → P x) → IfSome o P
each P None h = tt
each P (Some x) h = h x

move_made : (a b : Option Src) → is_some a ≡ true → is_some b ≡ true → (is_memory a && is_memory b) ≡ false → IsMade 1 false (move a b)
move_made None b of_a of_b apart = absurd cc
move_made (Some x) None of_a of_b apart = absurd cc
move_made (Some (Reg r)) (Some y) of_a of_b apart = (refl, (refl, refl))
move_made (Some Mem) (Some (Reg r)) of_a of_b apart = (refl, (refl, refl))
move_made (Some Mem) (Some Mem) of_a of_b apart = absurd cc

word_good : (t : Setting) (b : Operand) (x : Pair80) → IsGood 3 (i80.Lxi x (word_of t x b))
word_good t b pairs.B = (refl, refl)
word_good t b pairs.D = (refl, refl)
word_good t b pairs.H = (refl, refl)
word_good t b pairs.Sp = (refl, refl)

-- BC and DE only
indirect_made : (f : Pair80 → Instr80) (name : Option (List ℕ)) → IsGood 1 (f pairs.B) → IsGood 1 (f pairs.D) → IfSome (option_and_then indirect_named name) (λ x. IsGood 1 (f x))
indirect_made f None good_b good_d = tt
indirect_made f (Some name) good_b good_d = by_names _ _
  where
    by_names : (b d : Bool) → IfSome (cond b (Some pairs.B) (cond d (Some pairs.D) None)) (λ x. IsGood 1 (f x))
    by_names true d = good_b
    by_names false true = good_d
    by_names false false = tt

-- RST 0 is the warm boot; of another number it is foreign
restart_made : (is_zero : Bool) → IsMade 1 (not is_zero) (cond is_zero (Some i80.Rst0) None)
restart_made true = (refl, (refl, refl))
restart_made false = (refl, tt)

bare_good : (i : Instr80) → (is_well_formed i && (length80 i == 1)) ≡ true → IsGood 1 i
bare_good i h =
    let parts = and_parts (is_well_formed i) (length80 i == 1) h in
    let test : (length80 i == 1) ≡ true = parts.1 in
    (parts.0, grind (arith, nat_tests))

module _ (t : Setting) (args : List Operand) where
  -- what is shown of an operation with so many bytes
  abbrev Makes : ℕ → Operation → List Operand → Type 0
  Makes n o given = IsMade n (is_foreign_by t given (Some o)) (instruction t o given)

  pub accepted_made : (o : Operation) → is_bare_sound o ≡ true → are_by (operand_kinds o) args ≡ true → moves_memory o args ≡ false → Makes (size_of_kinds (operand_kinds o)) o args
  accepted_made (op.Bare i) bare fit apart = none_given (Makes 1 (op.Bare i)) args fit (refl, bare_good i bare)
  accepted_made op.Foreign bare fit apart = none_given (Makes 1 op.Foreign) args fit (refl, tt)
  accepted_made op.Rst bare fit apart = one_given Restart (Makes 1 op.Rst) args fit (λ a h. restart_made (value t a == 0))
  -- an address, a target or a byte
  accepted_made op.Lda bare fit apart = one_given Address (Makes 3 op.Lda) args fit (λ a h. (refl, (refl, refl)))
  accepted_made op.Sta bare fit apart = one_given Address (Makes 3 op.Sta) args fit (λ a h. (refl, (refl, refl)))
  accepted_made op.Lhld bare fit apart = one_given Address (Makes 3 op.Lhld) args fit (λ a h. (refl, (refl, refl)))
  accepted_made op.Shld bare fit apart = one_given Address (Makes 3 op.Shld) args fit (λ a h. (refl, (refl, refl)))
  accepted_made op.Jmp bare fit apart = one_given Target (Makes 3 op.Jmp) args fit (λ a h. (refl, (refl, refl)))
  accepted_made (op.Jif c) bare fit apart = one_given Target (Makes 3 (op.Jif c)) args fit (λ a h. (refl, (refl, refl)))
  accepted_made op.Call bare fit apart = one_given Target (Makes 3 op.Call) args fit (λ a h. (refl, (refl, refl)))
  accepted_made (op.Cif c) bare fit apart = one_given Target (Makes 3 (op.Cif c)) args fit (λ a h. (refl, (refl, refl)))
  accepted_made (op.AluI o) bare fit apart = one_given Byte (Makes 2 (op.AluI o)) args fit (λ a h. (refl, (refl, refl)))
  accepted_made op.In bare fit apart = one_given Byte (Makes 2 op.In) args fit (λ a h. (refl, (refl, refl)))
  accepted_made op.Out bare fit apart = one_given Byte (Makes 2 op.Out) args fit (λ a h. (refl, (refl, refl)))
  -- a register or M
  accepted_made (op.Alu o) bare fit apart =
      one_given Register (Makes 1 (op.Alu o)) args fit (λ a h. named_made 1 (i80.Alu o) (src_of a) h (each (λ x. IsGood 1 (i80.Alu o x)) (src_of a) (λ x. (refl, refl))))
  accepted_made op.Inr bare fit apart =
      one_given Register (Makes 1 op.Inr) args fit (λ a h. named_made 1 i80.Inr (src_of a) h (each (λ x. IsGood 1 (i80.Inr x)) (src_of a) (λ x. (refl, refl))))
  accepted_made op.Dcr bare fit apart =
      one_given Register (Makes 1 op.Dcr) args fit (λ a h. named_made 1 i80.Dcr (src_of a) h (each (λ x. IsGood 1 (i80.Dcr x)) (src_of a) (λ x. (refl, refl))))
  -- a pair
  accepted_made op.Inx bare fit apart =
      one_given Pair (Makes 1 op.Inx) args fit (λ a h. named_made 1 i80.Inx (pair_of_operand a) h (each (λ x. IsGood 1 (i80.Inx x)) (pair_of_operand a) (λ x. (refl, refl))))
  accepted_made op.Dcx bare fit apart =
      one_given Pair (Makes 1 op.Dcx) args fit (λ a h. named_made 1 i80.Dcx (pair_of_operand a) h (each (λ x. IsGood 1 (i80.Dcx x)) (pair_of_operand a) (λ x. (refl, refl))))
  accepted_made op.Dad bare fit apart =
      one_given Pair (Makes 1 op.Dad) args fit (λ a h. named_made 1 i80.Dad (pair_of_operand a) h (each (λ x. IsGood 1 (i80.Dad x)) (pair_of_operand a) (λ x. (refl, refl))))
  accepted_made op.Push bare fit apart =
      one_given Stack (Makes 1 op.Push) args fit (λ a h. named_made 1 i80.Push (stack_of a) h (each (λ x. IsGood 1 (i80.Push x)) (stack_of a) (λ x. (refl, refl))))
  accepted_made op.Pop bare fit apart =
      one_given Stack (Makes 1 op.Pop) args fit (λ a h. named_made 1 i80.Pop (stack_of a) h (each (λ x. IsGood 1 (i80.Pop x)) (stack_of a) (λ x. (refl, refl))))
  accepted_made op.Ldax bare fit apart =
      one_given Indirect (Makes 1 op.Ldax) args fit (λ a h. named_made 1 i80.Ldax (indirect_of a) h (indirect_made i80.Ldax (register_name a) (refl, refl) (refl, refl)))
  accepted_made op.Stax bare fit apart =
      one_given Indirect (Makes 1 op.Stax) args fit (λ a h. named_made 1 i80.Stax (indirect_of a) h (indirect_made i80.Stax (register_name a) (refl, refl) (refl, refl)))
  -- two operands
  accepted_made op.Mov bare fit apart =
      two_given Register Register (λ given. moves_memory op.Mov given ≡ false → Makes 1 op.Mov given) args fit (λ a b of_a of_b not_both. move_made (src_of a) (src_of b) of_a of_b not_both) apart
  accepted_made op.Mvi bare fit apart =
      two_given Register Byte (Makes 2 op.Mvi) args fit (λ a b of_a of_b. named_made 2 (λ (x : Src). i80.Mvi x (byte t b)) (src_of a) of_a (each (λ x. IsGood 2 (i80.Mvi x (byte t b))) (src_of a) (λ x. (refl, refl))))
  accepted_made op.Lxi bare fit apart =
      two_given Pair Word (Makes 3 op.Lxi) args fit (λ a b of_a of_b. named_made 3 (λ (x : Pair80). i80.Lxi x (word_of t x b)) (pair_of_operand a) of_a (each (λ x. IsGood 3 (i80.Lxi x (word_of t x b))) (pair_of_operand a) (word_good t b)))
  -- a directive has no operands of an instruction
  accepted_made o bare fit apart = absurd cc
