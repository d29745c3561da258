-- The refusals of the layout and of this project's profile: for each rule the first statement that breaks it, and the rules
-- in the order S3, S6, S7, S1, S2, S4, S5.
use Rattle.std.specs.Prelude.{ℕ, zero, suc, ◌+◌, ◌-◌, ◌%◌, ◌==◌, nat_lt, nat_le, not, ◌&&◌, ◌||◌, Bool, true, false, cond, List, [], ◌∷◌, ◌++◌, map, find, zip, Option, Some, None, is_some}
use Rattle.std.specs.Option.{option_or}
use Rattle.std.specs.List.{list_any}
use Rattle.i80.specs.declared.Pair.{Pair as Pair80}
use Rattle.i80.specs.declared.Pair.TheVariants as pairs
use Rattle.asm80_types.specs.Tree.{Operand}
use Rattle.asm80_source_def.specs.declared.operation.Operation.{Operation}
use Rattle.asm80_source_def.specs.declared.operation.Operation.TheVariants.{Db, Dw, Lxi, Rst, Foreign}
use Rattle.asm80_source_def.specs.declared.operation.Kind.{Kind}
use Rattle.asm80_source_def.specs.declared.operation.Kind.TheVariants.{Byte, Word, Address, Target}
use Rattle.asm80_source_def.specs.declared.rule.AsmRule.{AsmRule}
use Rattle.asm80_source_def.specs.declared.rule.AsmRule.TheVariants.{S1, S2, S3, S4, S5, S6, S7}
use Rattle.asm80_source_def.specs.Operations.{operand_kinds}
use Rattle.asm80_source_def.specs.Values.{operand_places_inside}
use Rattle.asm80_source_def.specs.Walk.{Walk, WalkRow, size_of_statement, row_operation}
use Rattle.asm80_source_def.specs.FirstFaults.{Refusal}
use Rattle.asm80_source_def.specs.Operands.{pair_of_operand}
use Rattle.asm80_source_def.specs.Items.{Setting, setting, item_rows, address, starts_in, starts_at, value, code_address}

-- the first of the rows that breaks a rule
abbrev pub refused_at : AsmRule → Option WalkRow → Option Refusal
refused_at rule None = None
refused_at rule (Some r) = Some (r.statement.line, rule)

abbrev pub first_with : (WalkRow → Bool) → AsmRule → List WalkRow → Option Refusal
first_with test rule rs = refused_at rule (find test rs)

-- ---- cells

-- so many addresses from one up, modulo 65,536
abbrev pub counted_from : ℕ → ℕ → List ℕ
counted_from at zero = []
counted_from at (suc k) = (at % 0x10000) ∷ counted_from (at + 1) k

-- the cells of an instruction or of data
abbrev pub cells_of : WalkRow → List ℕ
cells_of r = counted_from (address r) (size_of_statement r.statement)

-- S6: a cell belongs to an earlier statement too
abbrev pub is_filled : List ℕ → ℕ → Bool
is_filled filled a = list_any (λ b. b == a) filled

abbrev pub first_overlap : List ℕ → List WalkRow → Option WalkRow
first_overlap filled [] = None
first_overlap filled (r ∷ rs) =
    cond (list_any (is_filled filled) (cells_of r)) (Some r) (first_overlap (cells_of r ++ filled) rs)

-- S7: a cell is below 100H, or not below T-2
abbrev pub is_outside : ℕ → ℕ → Bool
is_outside top a = not (nat_le 0x100 a && nat_lt a (top - 2))

abbrev pub stands_outside : ℕ → WalkRow → Bool
stands_outside top r = list_any (is_outside top) (cells_of r)

-- ---- operands

-- S1: HLT, EI, DI, and RST of a number other than 0
abbrev pub is_nonzero_restart : Setting → List Operand → Bool
is_nonzero_restart t (a ∷ []) = not (value t a == 0)
is_nonzero_restart t args = false

abbrev pub is_foreign_by : Setting → List Operand → Option Operation → Bool
is_foreign_by t args (Some Foreign) = true
is_foreign_by t args (Some Rst) = is_nonzero_restart t args
is_foreign_by t args o = false

-- operands with their kinds; an item of DB is a byte and one of DW a word
abbrev pub same_kind : Kind → List Operand → List (Kind × Operand)
same_kind k args = map (λ (a : Operand). (k, a)) args

abbrev pub zip_kinds : List Operand → Option (List Kind) → List (Kind × Operand)
zip_kinds args None = []
zip_kinds args (Some ks) = zip ks args

-- the immediate word of LXI SP is a number, in which an address of code is one too
abbrev pub is_stack_pointer : Option Pair80 → Bool
is_stack_pointer (Some pairs.Sp) = true
is_stack_pointer o = false

abbrev pub loads_sp : List Operand → Bool
loads_sp [] = false
loads_sp (a ∷ args) = is_stack_pointer (pair_of_operand a)

abbrev pub operands_by : List Operand → Option Operation → List (Kind × Operand)
operands_by args None = []
operands_by args (Some Db) = same_kind Byte args
operands_by args (Some Dw) = same_kind Word args
operands_by args (Some Lxi) = cond (loads_sp args) [] (zip_kinds args (operand_kinds Lxi))
operands_by args (Some o) = zip_kinds args (operand_kinds o)

abbrev pub operands_of : WalkRow → List (Kind × Operand)
operands_of r = operands_by r.statement.args (row_operation r)

-- S2: a target is neither the start of an instruction nor 0 nor 5
abbrev pub misses_by : Setting → Kind → Operand → Bool
misses_by t Target a = not (t.is_start (value t a) || (value t a == 0 || value t a == 5))
misses_by t k a = false

abbrev pub misses : Setting → Kind × Operand → Bool
misses t x = misses_by t x.0 x.1

-- S4: the address of an instruction stands in a larger expression, where a byte, a word or the address of a cell is needed
abbrev pub has_code_inside : Setting → Operand → Bool
has_code_inside t a = list_any t.is_start (operand_places_inside t.scope a)

abbrev pub computes_by : Setting → Kind → Operand → Bool
computes_by t Byte a = has_code_inside t a
computes_by t Word a = has_code_inside t a
computes_by t Address a = has_code_inside t a
computes_by t k a = false

abbrev pub computes : Setting → Kind × Operand → Bool
computes t x = computes_by t x.0 x.1

-- S5: the address of an instruction stands for a cell's
abbrev pub loads_code_by : Setting → Kind → Operand → Bool
loads_code_by t Address a = is_some (code_address t a)
loads_code_by t k a = false

abbrev pub loads_code : Setting → Kind × Operand → Bool
loads_code t x = loads_code_by t x.0 x.1

-- ---- the first refusal

module _ (rs : List WalkRow) (end : Walk) where
  abbrev pub is_foreign : WalkRow → Bool
  is_foreign r = is_foreign_by (setting rs end r) r.statement.args (row_operation r)

  abbrev pub has_operand : (Setting → Kind × Operand → Bool) → WalkRow → Bool
  has_operand test r = list_any (test (setting rs end r)) (operands_of r)

  abbrev pub layout_fault : ℕ → Option Refusal
  layout_fault top =
      option_or (cond (starts_at (starts_in rs) 0x100) None (Some (0, S3))) (
      option_or (refused_at S6 (first_overlap [] (item_rows rs))) (
      option_or (first_with (stands_outside top) S7 (item_rows rs)) (
      option_or (first_with is_foreign S1 (item_rows rs)) (
      option_or (first_with (has_operand misses) S2 (item_rows rs)) (
      option_or (first_with (has_operand computes) S4 (item_rows rs))
      (first_with (has_operand loads_code) S5 (item_rows rs)))))))
