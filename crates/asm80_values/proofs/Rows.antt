-- The items of rows, from the forms of their operands.
use Rattle.std.proofs.Common.{◌≡◌, true, List, Option, Some, Result, Ok, refl, subst}
use mathlib.Core.Bool.{or-true}
use Rattle.asm80_types.specs.Tree.{Operand}
use Rattle.asm80_values.specs.declared.fault.FormFault.{FormFault}
use Rattle.asm80_values.specs.declared.form.Form.{Form}
use Rattle.asm80_values.specs.declared.form.Form.TheVariants.{Nothing, Instruction, Data}
use Rattle.asm80_values.specs.declared.form.Instruction.{Instruction as Instr}
use Rattle.asm80_values.specs.declared.form.Data.{Data as Cells}
use Rattle.asm80_values.specs.Forms.{IsForm, GivesForm}
use Rattle.asm80_source_def.specs.declared.operation.Operation.{Operation}
use Rattle.asm80_source_def.specs.Items.{Setting, is_instruction_op}
use Rattle.asm80_source_def.specs.Walk.{WalkRow, row_operation}
use Rattle.asm80_values.specs.declared.item.Item.{Item}
use Rattle.asm80_values.specs.Second.{GivesItem, IsItemOf, fills_cells}

-- the same of the same
pub given : (t0 t : Setting) (o : Operation) (args0 args : List Operand) (r : Result Form FormFault) → t0 ≡ t → args0 ≡ args → GivesForm t0 o args0 r → GivesForm t o args r
given t0 t o args0 args r same same_args h =
    let T : Setting → Type 0 = λ x. GivesForm x o args0 r in
    let A : List Operand → Type 0 = λ x. GivesForm t o x r in
    subst A same_args (subst T same h)

pub item_given : (t : Setting) (r : WalkRow) (o : Operation) (f : Form) (i : Option Item) → row_operation r ≡ Some o → GivesForm t o r.statement.args (Ok f) → IsItemOf t r i → GivesItem t r (Ok i)
item_given t r o f i is h item = (rw is h.0, item)

pub instruction_fills : (t : Setting) (o : Operation) (args : List Operand) (oo : Option Operation) (i : Instr) → oo ≡ Some o → IsForm t o args (Instruction i) → fills_cells oo ≡ true
instruction_fills t o args oo i is h = rw (is, h.0) refl

pub data_fills : (t : Setting) (o : Operation) (args : List Operand) (oo : Option Operation) (d : Cells) → oo ≡ Some o → IsForm t o args (Data d) → fills_cells oo ≡ true
data_fills t o args oo d is h = rw (is, h.0) (or-true (is_instruction_op (Some o)))

pub form_fills : (t : Setting) (o : Operation) (args : List Operand) (oo : Option Operation) (f : Form) → (f ≡ Nothing → ⊥) → oo ≡ Some o → IsForm t o args f → fills_cells oo ≡ true
form_fills t o args oo Nothing some is h = absurd (some refl)
form_fills t o args oo (Instruction i) some is h = instruction_fills t o args oo i is h
form_fills t o args oo (Data d) some is h = data_fills t o args oo d is h
