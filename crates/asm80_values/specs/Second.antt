-- What the second walk gives, by the definitions.
use Rattle.std.specs.Prelude.{◌≡◌, ℕ, ◌^◌, ◌<◌, ◌||◌, Bool, true, false, ◌++◌, cond, List, map, filter, option_to_list, Option, Some, None, Result, Ok, Err}
use Rattle.asm80_types.specs.declared.stmt.Stmt80.{Stmt80}
use Rattle.asm80_types.specs.Tree.{statement_of}
use Rattle.base.specs.Addresses.{has_address, IsSetOf}
use Rattle.asm80_first_walk.specs.declared.walked.Taken.{Taken}
use Rattle.asm80_first_walk.specs.declared.walked.AsmFault.{AsmFault}
use Rattle.asm80_first_walk.specs.declared.walked.AsmFault.TheVariants.{Refused, Memory}
use Rattle.asm80_source_def.specs.declared.operation.Operation.{Operation}
use Rattle.asm80_source_def.specs.declared.operation.Operation.TheVariants.{Set}
use Rattle.asm80_source_def.specs.Names.{Name, defined}
use Rattle.asm80_source_def.specs.Walk.{WalkRow, rows, walked, meaning_in, row_is_taken, row_operation, size_of_statement, definition}
use Rattle.asm80_source_def.specs.FirstFaults.{first_fault}
use Rattle.asm80_source_def.specs.Operands.{rule_of_operands, second_fault}
use Rattle.asm80_source_def.specs.Items.{Setting, address, is_instruction_op, is_data_op, item_rows, starts_in}
use Rattle.asm80_values.specs.declared.item.Item.{Item}
use Rattle.asm80_values.specs.Items.{IsFormBy, AreItems}

-- the rows that are taken
abbrev pub taken_rows : List Stmt80 → List WalkRow
taken_rows statements = filter row_is_taken (rows (map statement_of statements))

-- the address of a row that is an instruction
abbrev pub start_of_row : Taken → Option ℕ
start_of_row t = cond (is_instruction_op t.operation) (Some t.at) None

-- ---- one row

-- of the operation of a row that is taken
abbrev pub fills_cells : Option Operation → Bool
fills_cells o = is_instruction_op o || is_data_op o

abbrev pub seen_in : List Name → List Bool → WalkRow → Setting
seen_in names starts r = record { scope = record { here = address r; find = meaning_in names }; is_start = has_address starts }

-- the item of a row in a setting
pub record Fills (t : Setting) (r : WalkRow) (i : Item) : Type 0 where
  pub line : i.line ≡ r.statement.line
  pub at : i.at ≡ address r
  pub small : i.at < 2 ^ 16
  pub size : i.size ≡ size_of_statement r.statement
  pub form : IsFormBy t r.statement.args (row_operation r) i.form

abbrev pub IsItemOf : Setting → WalkRow → Option Item → Type 0
IsItemOf t r None = fills_cells (row_operation r) ≡ false
IsItemOf t r (Some i) = (fills_cells (row_operation r) ≡ true) × Fills t r i

abbrev pub GivesItem : Setting → WalkRow → Result (Option Item) AsmFault → Type 0
GivesItem t r (Ok o) = (rule_of_operands t.scope r.statement.args (row_operation r) ≡ None) × IsItemOf t r o
GivesItem t r (Err (Refused line rule)) = (line ≡ r.statement.line) × (rule_of_operands t.scope r.statement.args (row_operation r) ≡ Some rule)
GivesItem t r (Err Memory) = Unit {0}

-- a SET sets its name again
abbrev pub set_by : WalkRow → List Name → Option Operation → Option (List ℕ) → List Name
set_by r names (Some Set) (Some text) = defined names (definition r.before r.statement text)
set_by r names o label = names

abbrev pub names_set : WalkRow → List Name → List Name
names_set r names = set_by r names (row_operation r) r.statement.label

-- The item of a row, if it has one, is added, and the name of a SET set again; or the row is refused. The row is of those that
-- are told.
abbrev pub AddsItem : (WalkRow → Type 0) → List Name → List Bool → List Item → List Name → List Item → Result (Unit {0}) AsmFault → Type 0
AddsItem Is names starts items names' items' (Ok done) =
    (o : Option Item)
    × (items' ≡ items ++ option_to_list o)
    × ((r : WalkRow) → Is r → GivesItem (seen_in names starts r) r (Ok o))
    × ((r : WalkRow) → Is r → names' ≡ names_set r names)
AddsItem Is names starts items names' items' (Err fault) = (r : WalkRow) → Is r → GivesItem (seen_in names starts r) r (Err fault)

-- ---- all rows

abbrev pub AreItemsOf : List Stmt80 → List Item → Type 0
AreItemsOf statements is =
    (second_fault (walked (map statement_of statements)) (rows (map statement_of statements)) ≡ None)
    × AreItems (rows (map statement_of statements)) (walked (map statement_of statements)) is (item_rows (rows (map statement_of statements)))

abbrev pub AreRefused : List Stmt80 → AsmFault → Type 0
AreRefused statements (Refused line rule) =
    second_fault (walked (map statement_of statements)) (rows (map statement_of statements)) ≡ Some (line, rule)
AreRefused statements Memory = Unit {0}

-- neither walk finds a fault in the statements, and these are their items and the addresses at which instructions start
pub record AreFound (statements : List Stmt80) (items : List Item) (starts : List Bool) : Type 0 where
  pub accepted : first_fault (rows (map statement_of statements)) (walked (map statement_of statements)) ≡ None
  pub are_items : AreItemsOf statements items
  pub are_starts : IsSetOf starts (starts_in (rows (map statement_of statements)))
