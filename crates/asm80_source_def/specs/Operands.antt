-- The second walk: the operands of instructions, DB and DW. Of a statement all faults are gathered, and the first in the order
-- V5, V1, V4, V3 is its rule.
use Rattle.std.specs.Prelude.{ℕ, ◌/◌, ◌==◌, nat_le, not, ◌&&◌, ◌||◌, Bool, true, false, cond, codes, List, [], ◌∷◌, zip, Option, Some, None, option_and_then, is_some}
use Rattle.std.specs.Option.{option_or}
use Rattle.std.specs.List.{list_any}
use Rattle.std.specs.Str.{bytes_eq}
use Rattle.i80.specs.declared.Reg.TheVariants.{A, B, C, D, E, H, L}
use Rattle.i80.specs.declared.Src.{Src}
use Rattle.i80.specs.declared.Src.TheVariants.{Reg, Mem}
use Rattle.i80.specs.declared.Pair.{Pair}
use Rattle.i80.specs.declared.Pair.TheVariants as pairs
use Rattle.i80.specs.declared.StackPair.{StackPair}
use Rattle.i80.specs.declared.StackPair.TheVariants as stack_pairs
use Rattle.asm80_types.specs.Tree.{Named, Operand, String, Whole}
use Rattle.asm80_source_def.specs.declared.operation.Operation.{Operation}
use Rattle.asm80_source_def.specs.declared.operation.Operation.TheVariants.{Db, Dw, Mov}
use Rattle.asm80_source_def.specs.declared.operation.Kind.{Kind}
use Rattle.asm80_source_def.specs.declared.operation.Kind.TheVariants.{Register, Pair as PairKind, Indirect, Stack, Byte, Word, Address, Target, Restart}
use Rattle.asm80_source_def.specs.declared.rule.AsmRule.{AsmRule}
use Rattle.asm80_source_def.specs.declared.rule.AsmRule.TheVariants.{V1, V3, V4, V5}
use Rattle.asm80_source_def.specs.Operations.{operand_kinds}
use Rattle.asm80_source_def.specs.declared.meaning.Meaning.{Meaning}
use Rattle.asm80_source_def.specs.Values.{Scope, is_no_value, operand_has_unknown, operand_divides_by_zero, operand_number}
use Rattle.asm80_source_def.specs.Names.{Name, is_settable, named}
use Rattle.asm80_source_def.specs.Walk.{Walk, WalkRow, meaning_in, row_is_taken, row_operation}
use Rattle.asm80_source_def.specs.FirstFaults.{Refusal, rule_if, with_line}

-- ---- what operands see

-- A label or a name of EQU may be used before it is defined; of a name of SET the last SET above is seen, and above the first
-- there is none.
abbrev pub meaning_by : List Name → Option Name → List ℕ → Option Meaning
meaning_by names_here None text = None
meaning_by names_here (Some n) text = cond (is_settable n.kind) (meaning_in names_here text) (Some n.meaning)

abbrev pub meaning_seen : Walk → Walk → List ℕ → Option Meaning
meaning_seen end w text = meaning_by w.names (named end.names text) text

abbrev pub operand_scope : Walk → Walk → Scope
operand_scope end w = record { here = w.at; find = meaning_seen end w }

-- ---- registers as operands

abbrev pub register_name : Operand → Option (List ℕ)
register_name (String bytes) = None
register_name (Whole (Named name)) = Some name
register_name (Whole e) = None

abbrev pub src_named : List ℕ → Option Src
src_named name =
    cond (bytes_eq name (codes "A")) (Some (Reg A)) (
    cond (bytes_eq name (codes "B")) (Some (Reg B)) (
    cond (bytes_eq name (codes "C")) (Some (Reg C)) (
    cond (bytes_eq name (codes "D")) (Some (Reg D)) (
    cond (bytes_eq name (codes "E")) (Some (Reg E)) (
    cond (bytes_eq name (codes "H")) (Some (Reg H)) (
    cond (bytes_eq name (codes "L")) (Some (Reg L)) (
    cond (bytes_eq name (codes "M")) (Some Mem) None)))))))

abbrev pub pair_named : List ℕ → Option Pair
pair_named name =
    cond (bytes_eq name (codes "B")) (Some pairs.B) (
    cond (bytes_eq name (codes "D")) (Some pairs.D) (
    cond (bytes_eq name (codes "H")) (Some pairs.H) (
    cond (bytes_eq name (codes "SP")) (Some pairs.Sp) None)))

-- the pairs whose address LDAX and STAX use
abbrev pub indirect_named : List ℕ → Option Pair
indirect_named name =
    cond (bytes_eq name (codes "B")) (Some pairs.B) (
    cond (bytes_eq name (codes "D")) (Some pairs.D) None)

abbrev pub stack_named : List ℕ → Option StackPair
stack_named name =
    cond (bytes_eq name (codes "B")) (Some stack_pairs.B) (
    cond (bytes_eq name (codes "D")) (Some stack_pairs.D) (
    cond (bytes_eq name (codes "H")) (Some stack_pairs.H) (
    cond (bytes_eq name (codes "PSW")) (Some stack_pairs.Psw) None)))

abbrev pub src_of : Operand → Option Src
src_of a = option_and_then src_named (register_name a)

abbrev pub pair_of_operand : Operand → Option Pair
pair_of_operand a = option_and_then pair_named (register_name a)

abbrev pub indirect_of : Operand → Option Pair
indirect_of a = option_and_then indirect_named (register_name a)

abbrev pub stack_of : Operand → Option StackPair
stack_of a = option_and_then stack_named (register_name a)

-- ---- V5

-- the operand is of the kind
abbrev pub is_of_kind : Kind → Operand → Bool
is_of_kind Register a = is_some (src_of a)
is_of_kind PairKind a = is_some (pair_of_operand a)
is_of_kind Indirect a = is_some (indirect_of a)
is_of_kind Stack a = is_some (stack_of a)
is_of_kind Byte a = not (is_no_value a)
is_of_kind Word a = not (is_no_value a)
is_of_kind Address a = not (is_no_value a)
is_of_kind Target a = not (is_no_value a)
is_of_kind Restart a = not (is_no_value a)

abbrev pub are_of_kinds : List Kind → List Operand → Bool
are_of_kinds [] [] = true
are_of_kinds [] (a ∷ args) = false
are_of_kinds (k ∷ ks) [] = false
are_of_kinds (k ∷ ks) (a ∷ args) = is_of_kind k a && are_of_kinds ks args

abbrev pub is_memory : Option Src → Bool
is_memory (Some Mem) = true
is_memory o = false

-- MOV M,M does not exist
abbrev pub moves_memory : Operation → List Operand → Bool
moves_memory Mov (a ∷ b ∷ []) = is_memory (src_of a) && is_memory (src_of b)
moves_memory o args = false

-- ---- the values among the operands

abbrev pub is_value_kind : Kind → Bool
is_value_kind Register = false
is_value_kind PairKind = false
is_value_kind Indirect = false
is_value_kind Stack = false
is_value_kind Byte = true
is_value_kind Word = true
is_value_kind Address = true
is_value_kind Target = true
is_value_kind Restart = true

-- V3: a byte's high byte is 0 or 0FFH; an RST number is at most 7
abbrev pub fits_byte : ℕ → Bool
fits_byte n = (n / 256 == 0) || (n / 256 == 0xFF)

abbrev pub fits_kind : Kind → ℕ → Bool
fits_kind Byte n = fits_byte n
fits_kind Restart n = nat_le n 7
fits_kind k n = true

abbrev pub number_is_unfit : Kind → Option ℕ → Bool
number_is_unfit k None = false
number_is_unfit k (Some n) = not (fits_kind k n)

abbrev pub is_unfit : Scope → Kind × Operand → Bool
is_unfit s x = number_is_unfit x.0 (operand_number s x.1)

abbrev pub values_break : (Operand → Bool) → List (Kind × Operand) → Bool
values_break test xs = list_any (λ (x : Kind × Operand). is_value_kind x.0 && test x.1) xs

-- the rule of operands of these kinds
abbrev pub rule_of_values : Scope → List (Kind × Operand) → Option AsmRule
rule_of_values s xs =
    rule_if (values_break (operand_has_unknown s) xs) V1 (
    rule_if (values_break (operand_divides_by_zero s) xs) V4 (
    rule_if (list_any (is_unfit s) xs) V3 None))

abbrev pub rule_of_instruction : Scope → Operation → List Kind → List Operand → Option AsmRule
rule_of_instruction s o ks args =
    rule_if (not (are_of_kinds ks args) || moves_memory o args) V5 (rule_of_values s (zip ks args))

-- ---- DB and DW: a list of items, each of them a byte or a string, or a word

abbrev pub is_string : Operand → Bool
is_string (String bytes) = true
is_string (Whole e) = false

abbrev pub is_no_byte_item : Operand → Bool
is_no_byte_item a = not (is_string a) && is_no_value a

abbrev pub no_items : List Operand → Bool
no_items [] = true
no_items (a ∷ args) = false

abbrev pub rule_of_items : Scope → List Operand → Bool → Option AsmRule → Option AsmRule
rule_of_items s args is_malformed other =
    rule_if (no_items args || is_malformed) V5 (
    rule_if (list_any (operand_has_unknown s) args) V1 (
    rule_if (list_any (operand_divides_by_zero s) args) V4 other))

abbrev pub item_is_unfit : Scope → Operand → Bool
item_is_unfit s a = number_is_unfit Byte (operand_number s a)

abbrev pub rule_of_bytes : Scope → List Operand → Option AsmRule
rule_of_bytes s args = rule_of_items s args (list_any is_no_byte_item args) (rule_if (list_any (item_is_unfit s) args) V3 None)

abbrev pub rule_of_words : Scope → List Operand → Option AsmRule
rule_of_words s args = rule_of_items s args (list_any is_no_value args) None

-- ---- the first fault

abbrev pub rule_by_kinds : Scope → Operation → List Operand → Option (List Kind) → Option AsmRule
rule_by_kinds s o args None = None
rule_by_kinds s o args (Some ks) = rule_of_instruction s o ks args

abbrev pub rule_of_operands : Scope → List Operand → Option Operation → Option AsmRule
rule_of_operands s args None = None
rule_of_operands s args (Some Db) = rule_of_bytes s args
rule_of_operands s args (Some Dw) = rule_of_words s args
rule_of_operands s args (Some o) = rule_by_kinds s o args (operand_kinds o)

-- of a statement that is taken; `end` is where the first walk ended
abbrev pub second_rule : Walk → WalkRow → Option AsmRule
second_rule end r =
    cond (row_is_taken r) (rule_of_operands (operand_scope end r.before) r.statement.args (row_operation r)) None

abbrev pub second_fault : Walk → List WalkRow → Option Refusal
second_fault end [] = None
second_fault end (r ∷ later) = option_or (with_line r.statement.line (second_rule end r)) (second_fault end later)
