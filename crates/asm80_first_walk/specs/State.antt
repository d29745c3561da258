-- Where the walk is behind some of the statements, as the code holds it.
use Rattle.std.specs.Prelude.{◌≡◌, ℕ, nat_le, ◌&&◌, ◌||◌, Bool, true, false, cond, List, [], ◌∷◌, ◌++◌, length, map, filter, reverse, Option, Some, None, unwrap_or}
use Rattle.std.specs.Option.{option_or}
use Rattle.std.specs.List.{list_any}
use Rattle.asm80_types.specs.declared.stmt.Stmt80.{Stmt80}
use Rattle.asm80_types.specs.Tree.{Operand, Statement, statement_of}
use Rattle.asm80_source_def.specs.declared.operation.Operation.{Operation}
use Rattle.asm80_source_def.specs.declared.operation.Operation.TheVariants.{Org, Equ, Set, If, EndIf, Ds}
use Rattle.asm80_source_def.specs.declared.rule.AsmRule.{AsmRule}
use Rattle.asm80_source_def.specs.declared.rule.AsmRule.TheVariants.{V1, V2, V4, V5, V6, V7}
use Rattle.asm80_source_def.specs.Values.{Scope, operand_has_unknown, operand_divides_by_zero}
use Rattle.asm80_source_def.specs.Names.{Name}
use Rattle.asm80_source_def.specs.Walk.{Walk, operation_in, is_if, is_endif, is_end_directive, is_taken, scope, meaning_in, directive_meaning, walk_after, rows, walked, row_is_taken}
use Rattle.asm80_source_def.specs.FirstFaults.{Refusal, rule_if, most_ifs, label_clashes, label_overflows, breaks_v5, rule_of_taken, with_line, first_fault}
use Rattle.asm80_first_walk.specs.declared.walked.Taken.{Taken}
use Rattle.asm80_first_walk.specs.declared.ifs.OpenIf.{OpenIf}
use Rattle.asm80_first_walk.specs.Walked.{Stand}

-- the address, the names, the IFs that are open, the outermost first, the first fault that no later statement can undo, and
-- the statements that were taken
pub record State : Type 0 where
  pub at : ℕ
  pub names : List Name
  pub ifs : List OpenIf
  pub fault : Option Refusal
  pub rows : List Taken

abbrev pub taken_flags : List OpenIf → List Bool
taken_flags ifs = map (λ (i : OpenIf). i.is_taken) ifs

abbrev pub refusals : List OpenIf → List Refusal
refusals ifs = map (λ (i : OpenIf). i.refusal) ifs

abbrev pub walk_of : State → Walk
walk_of s = record { at = s.at; names = s.names; ifs = reverse (taken_flags s.ifs) }

-- ---- one statement more

-- V6 that no later statement can undo: an IF too deep, or an ENDIF without IF
abbrev pub breaks_nesting : Walk → Statement → Option Operation → Bool
breaks_nesting w s o =
    (is_if o && nat_le most_ifs (length w.ifs)) || (is_endif o && (is_taken w s && nat_le (length w.ifs) 0))

abbrev pub sure_rule : Walk → Statement → Option AsmRule
sure_rule w s =
    rule_if (breaks_nesting w s (operation_in s)) V6 (cond (is_taken w s) (rule_of_taken w s) None)

-- what the source is refused for if an IF on this line stays open
abbrev pub if_unclosed : Option Refusal → ℕ → Refusal
if_unclosed fault line = unwrap_or fault (line, V6)

-- all but the innermost
abbrev pub all_but_last : {X : Type 0} → List X → List X
all_but_last [] = []
all_but_last (x ∷ []) = []
all_but_last (x ∷ y ∷ xs) = x ∷ all_but_last (y ∷ xs)

abbrev pub refusals_by : State → Statement → Option Operation → List Refusal
refusals_by old s (Some If) = refusals old.ifs ++ if_unclosed old.fault s.line ∷ []
refusals_by old s (Some EndIf) = all_but_last (refusals old.ifs)
refusals_by old s o = refusals old.ifs

-- the IFs that are open after an operation; an IF is opened with a flag
abbrev pub nested_ifs : List OpenIf → Option Refusal → ℕ → Bool → Option Operation → List OpenIf
nested_ifs ifs fault line flag (Some If) = ifs ++ record { is_taken = flag; refusal = if_unclosed fault line } ∷ []
nested_ifs ifs fault line flag (Some EndIf) = all_but_last ifs
nested_ifs ifs fault line flag o = ifs

-- ---- the rules of a statement that is taken, in two parts

-- V1 and V4 of operands
abbrev pub rule_of_values : Scope → List Operand → Option AsmRule
rule_of_values sees args =
    rule_if (list_any (operand_has_unknown sees) args) V1 (rule_if (list_any (operand_divides_by_zero sees) args) V4 None)

-- the walk evaluates the operands of the operation with the names above its statement
abbrev pub is_evaluated : Option Operation → Bool
is_evaluated (Some Equ) = true
is_evaluated (Some Set) = true
is_evaluated (Some Org) = true
is_evaluated (Some Ds) = true
is_evaluated (Some If) = true
is_evaluated o = false

-- the rule by the names above
abbrev pub rule_above : Walk → Statement → Option Operation → Option AsmRule
rule_above w s o =
    rule_if (breaks_nesting w s o) V6 (
    rule_if (label_clashes w s s.label) V2 (
    rule_if (label_overflows w s s.label) V7 (
    rule_if (breaks_v5 s o) V5 (cond (is_evaluated o) (rule_of_values (scope w) s.args) None))))

-- the rule of the operand of END, which sees its own label too
abbrev pub rule_at_end : ℕ → List Name → List Operand → Option Operation → Option AsmRule
rule_at_end at names args o =
    cond (is_end_directive o) (rule_of_values (record { here = at; find = meaning_in names }) args) None

abbrev pub taken_row : ℕ → Walk → Statement → Taken
taken_row index w s =
    record { statement = index; at = w.at; operation = operation_in s; meaning = directive_meaning w s }

-- the state behind the statement of an index
pub record Steps (index : ℕ) (s : Statement) (old new : State) : Type 0 where
  pub walk : walk_of new ≡ walk_after (walk_of old) s
  pub refusals : refusals new.ifs ≡ refusals_by old s (operation_in s)
  pub fault : new.fault ≡ option_or old.fault (with_line s.line (sure_rule (walk_of old) s))
  pub rows : new.rows ≡ cond (is_taken (walk_of old) s) (old.rows ++ taken_row index (walk_of old) s ∷ []) old.rows

-- ---- all statements

-- the first fault where no statement is left
abbrev pub final : List Refusal → Option Refusal → Option Refusal
final [] fault = fault
final (r ∷ rs) fault = Some r

abbrev pub start : State
start = record { at = 0; names = []; ifs = []; fault = None; rows = [] }

-- The walk is done.
pub record Done (statements : List Stmt80) (s : State) : Type 0 where
  pub fault : first_fault (rows (map statement_of statements)) (walked (map statement_of statements)) ≡ final (refusals s.ifs) s.fault
  pub names : s.names ≡ (walked (map statement_of statements)).names
  pub taken : Stand statements s.rows (filter row_is_taken (rows (map statement_of statements)))
