-- Items: what the rows of the walk that fill cells are, as the code holds them.
use Rattle.std.specs.Prelude.{◌≡◌, ℕ, ◌-◌, ◌^◌, ◌<◌, nat_lt, ◌&&◌, ◌||◌, Bool, false, cond, List, [], ◌∷◌, ◌++◌, find, Option, Some, None}
use Rattle.std.specs.List.{list_any}
use Rattle.std.specs.Option.{option_or}
use Rattle.asm80_types.specs.Tree.{Operand}
use Rattle.asm80_values.specs.declared.form.Form.{Form}
use Rattle.asm80_values.specs.declared.form.Form.TheVariants.{Instruction, Data}
use Rattle.asm80_values.specs.Forms.{IsForm}
use Rattle.asm80_source_def.specs.declared.operation.Operation.{Operation}
use Rattle.asm80_source_def.specs.declared.rule.AsmRule.{AsmRule}
use Rattle.asm80_source_def.specs.declared.rule.AsmRule.TheVariants.{S1, S2, S4, S5, S7}
use Rattle.asm80_source_def.specs.Walk.{Walk, WalkRow, row_operation, size_of_statement}
use Rattle.asm80_source_def.specs.FirstFaults.{Refusal}
use Rattle.asm80_source_def.specs.Operands.{second_rule}
use Rattle.asm80_source_def.specs.Items.{Setting, setting, address}
use Rattle.asm80_source_def.specs.Layout.{counted_from, is_filled}
use Rattle.asm80_values.specs.declared.item.Item.{Item}

abbrev pub IsFormBy : Setting → List Operand → Option Operation → Form → Type 0
IsFormBy t args None f = ⊥
IsFormBy t args (Some o) f = IsForm t o args f

-- the item is what the row fills its cells with; its operands broke no rule of the second walk
pub record IsItem (rs : List WalkRow) (end : Walk) (i : Item) (r : WalkRow) : Type 0 where
  pub line : i.line ≡ r.statement.line
  pub at : i.at ≡ address r
  pub small : i.at < 2 ^ 16
  pub size : i.size ≡ size_of_statement r.statement
  pub accepted : second_rule end r ≡ None
  pub form : IsFormBy (setting rs end r) r.statement.args (row_operation r) i.form

-- the same one by one
abbrev pub AreItems : List WalkRow → Walk → List Item → List WalkRow → Type 0
AreItems rs end [] [] = Unit {0}
AreItems rs end [] (q ∷ qs) = ⊥
AreItems rs end (i ∷ is) [] = ⊥
AreItems rs end (i ∷ is) (q ∷ qs) = IsItem rs end i q × AreItems rs end is qs

-- ---- the rules of the layout, by items

abbrev pub cells_of_item : Item → List ℕ
cells_of_item i = counted_from i.at i.size

-- the first item with a cell that is filled already
abbrev pub overlap_from : List ℕ → List Item → Option Item
overlap_from filled [] = None
overlap_from filled (i ∷ is) =
    cond (list_any (is_filled filled) (cells_of_item i)) (Some i) (overlap_from (cells_of_item i ++ filled) is)

abbrev pub stands_outside : ℕ → Item → Bool
stands_outside top i = nat_lt 0 i.size && (nat_lt i.at 0x100 || nat_lt ((top - 2) - i.at) i.size)

abbrev pub form_breaks : AsmRule → Form → Bool
form_breaks S1 (Instruction i) = i.is_foreign
form_breaks S2 (Instruction i) = i.misses
form_breaks S4 (Instruction i) = i.computes
form_breaks S4 (Data d) = d.computes
form_breaks S5 (Instruction i) = i.loads_code
form_breaks rule f = false

abbrev pub breaks : ℕ → AsmRule → Item → Bool
breaks top S7 i = stands_outside top i
breaks top rule i = form_breaks rule i.form

abbrev pub refused_item : AsmRule → Option Item → Option Refusal
refused_item rule None = None
refused_item rule (Some i) = Some (i.line, rule)

abbrev pub profile_fault : ℕ → List Item → Option Refusal
profile_fault top is =
    option_or (refused_item S7 (find (breaks top S7) is)) (
    option_or (refused_item S1 (find (breaks top S1) is)) (
    option_or (refused_item S2 (find (breaks top S2) is)) (
    option_or (refused_item S4 (find (breaks top S4) is))
    (refused_item S5 (find (breaks top S5) is)))))
