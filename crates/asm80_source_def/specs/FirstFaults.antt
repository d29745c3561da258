-- The faults of the first walk: those of labels, EQU, SET, ORG, DS, IF, ENDIF and END. Of a statement all faults are gathered,
-- and the first in the order V6, V2, V7, V5, V1, V4 is its rule.
use Rattle.std.specs.Prelude.{ℕ, nat_le, not, ◌&&◌, ◌||◌, Bool, true, false, cond, List, [], ◌∷◌, length, Option, Some, None, is_some}
use Rattle.std.specs.Option.{option_or}
use Rattle.std.specs.List.{list_any}
use Rattle.asm80_types.specs.Tree.{Operand, Statement}
use Rattle.asm80_source_def.specs.declared.operation.Operation.{Operation}
use Rattle.asm80_source_def.specs.declared.operation.Operation.TheVariants.{Org, End, Equ, Set, If, EndIf, Ds}
use Rattle.asm80_source_def.specs.declared.rule.AsmRule.{AsmRule}
use Rattle.asm80_source_def.specs.declared.rule.AsmRule.TheVariants.{V1, V2, V4, V5, V6, V7}
use Rattle.asm80_source_def.specs.Values.{Scope, is_no_value, operand_has_unknown, operand_divides_by_zero}
use Rattle.asm80_source_def.specs.Names.{clashes, overflows}
use Rattle.asm80_source_def.specs.Walk.{Walk, WalkRow, operation_in, is_if, is_endif, scope, meaning_in, names_after, definition, row_is_taken, row_operation}

-- a rule of a number and its line
abbrev pub Refusal : Type 0
Refusal = ℕ × AsmRule

abbrev pub rule_if : Bool → AsmRule → Option AsmRule → Option AsmRule
rule_if test rule other = cond test (Some rule) other

-- ---- V6

-- the most IFs that may be open
abbrev pub most_ifs : ℕ
most_ifs = 8

-- Of the rows behind an IF that had so many IFs open before it, and where the walk ended: its ENDIF has come where no more
-- than these are open later.
abbrev pub is_closed_at_end : ℕ → List WalkRow → Walk → Bool
is_closed_at_end depth later end =
    list_any (λ (r : WalkRow). nat_le (length r.before.ifs) depth) later || nat_le (length end.ifs) depth

abbrev pub breaks_v6 : WalkRow → List WalkRow → Walk → Bool
breaks_v6 r later end =
    (is_if (row_operation r) && (nat_le most_ifs (length r.before.ifs) || not (is_closed_at_end (length r.before.ifs) later end)))
    || (is_endif (row_operation r) && (row_is_taken r && nat_le (length r.before.ifs) 0))

-- ---- V2 and V7, of a label

abbrev pub label_clashes : Walk → Statement → Option (List ℕ) → Bool
label_clashes w s None = false
label_clashes w s (Some text) = clashes w.names (definition w s text)

abbrev pub label_overflows : Walk → Statement → Option (List ℕ) → Bool
label_overflows w s None = false
label_overflows w s (Some text) = overflows w.names (definition w s text)

-- ---- V5, V1 and V4, of the operand of a directive

-- one operand, and a value
abbrev pub is_one_value : List Operand → Bool
is_one_value (a ∷ []) = not (is_no_value a)
is_one_value args = false

abbrev pub is_none_or_one_value : List Operand → Bool
is_none_or_one_value [] = true
is_none_or_one_value args = is_one_value args

abbrev pub has_no_operands : List Operand → Bool
has_no_operands [] = true
has_no_operands args = false

-- EQU and SET need a label; they, ORG, DS and IF have one operand, END has at most one, ENDIF has none
abbrev pub breaks_v5 : Statement → Option Operation → Bool
breaks_v5 s (Some Equ) = not (is_some s.label) || not (is_one_value s.args)
breaks_v5 s (Some Set) = not (is_some s.label) || not (is_one_value s.args)
breaks_v5 s (Some Org) = not (is_one_value s.args)
breaks_v5 s (Some Ds) = not (is_one_value s.args)
breaks_v5 s (Some If) = not (is_one_value s.args)
breaks_v5 s (Some End) = not (is_none_or_one_value s.args)
breaks_v5 s (Some EndIf) = not (has_no_operands s.args)
breaks_v5 s o = false

-- the operands that the first walk evaluates, and what they see: END's sees its own label too
abbrev pub evaluated : Statement → Option Operation → List Operand
evaluated s (Some Equ) = s.args
evaluated s (Some Set) = s.args
evaluated s (Some Org) = s.args
evaluated s (Some Ds) = s.args
evaluated s (Some If) = s.args
evaluated s (Some End) = s.args
evaluated s o = []

abbrev pub scope_by : Walk → Statement → Option Operation → Scope
scope_by w s (Some End) = record { here = w.at; find = meaning_in (names_after w s) }
scope_by w s o = scope w

abbrev pub breaks_v1 : Walk → Statement → Option Operation → Bool
breaks_v1 w s o = list_any (operand_has_unknown (scope_by w s o)) (evaluated s o)

abbrev pub breaks_v4 : Walk → Statement → Option Operation → Bool
breaks_v4 w s o = list_any (operand_divides_by_zero (scope_by w s o)) (evaluated s o)

-- ---- the first fault

-- the rule of a statement that is taken, V6 aside
abbrev pub rule_of_taken : Walk → Statement → Option AsmRule
rule_of_taken w s =
    rule_if (label_clashes w s s.label) V2 (
    rule_if (label_overflows w s s.label) V7 (
    rule_if (breaks_v5 s (operation_in s)) V5 (
    rule_if (breaks_v1 w s (operation_in s)) V1 (
    rule_if (breaks_v4 w s (operation_in s)) V4 None))))

abbrev pub rule_of_row : WalkRow → List WalkRow → Walk → Option AsmRule
rule_of_row r later end =
    rule_if (breaks_v6 r later end) V6 (cond (row_is_taken r) (rule_of_taken r.before r.statement) None)

abbrev pub with_line : ℕ → Option AsmRule → Option Refusal
with_line line None = None
with_line line (Some rule) = Some (line, rule)

-- the first statement with a rule
abbrev pub first_fault : List WalkRow → Walk → Option Refusal
first_fault [] end = None
first_fault (r ∷ later) end = option_or (with_line r.statement.line (rule_of_row r later end)) (first_fault later end)
