-- The items of rows that the second walk accepts are sound: what each fills its cells with has as many bytes.
use Rattle.std.proofs.Common.{◌≡◌, ℕ, ◌&&◌, ◌||◌, Bool, true, false, cond, List, [], ◌∷◌, length, All, Option, Some, None, refl, ap, ◌∙◌, arith}
use Rattle.std.proofs.lemmas.List.Elements.{All-head, All-tail, All-cons, filter_passes}
use Rattle.asm80_types.specs.Tree.{Statement}
use Rattle.asm80_values.specs.declared.form.Form.{Form}
use Rattle.asm80_values.specs.declared.form.Form.TheVariants.{Nothing, Instruction, Data}
use Rattle.asm80_source_def.specs.declared.operation.Operation.{Operation}
use Rattle.asm80_source_def.specs.declared.rule.AsmRule.{AsmRule}
use Rattle.asm80_source_def.specs.Operations.{operand_kinds}
use Rattle.asm80_source_def.specs.Walk.{Walk, WalkRow, operation_in, size_by, size_of_kinds, row_is_taken, row_operation}
use Rattle.asm80_source_def.specs.Operands.{operand_scope, rule_of_operands}
use Rattle.asm80_source_def.specs.Items.{Setting, setting, is_instruction_op, is_data_op, fills_cells, item_rows, instruction}
use Rattle.asm80_source_def.specs.Layout.{is_foreign_by}
use Rattle.asm80_values.specs.declared.item.Item.{Item}
use Rattle.asm80_values.specs.Items.{IsFormBy, IsItem, AreItems}
use Rattle.asm80_values.specs.Programs.{IsSoundForm, IsSound}
use Rattle.asm80_values.proofs.Sizes.{data_size}
use Rattle.asm80_values.proofs.Accepted.{accepted_fit, instruction_size, bare_sound, same_made, accepted_made}

form_sound : (t : Setting) (s : Statement) (o : Option Operation) (f : Form) → operation_in s ≡ o → rule_of_operands t.scope s.args o ≡ None → IsFormBy t s.args o f → IsSoundForm (size_by s o) f
form_sound t s None f is rule h = absurd h
form_sound t s (Some o) Nothing is rule h = tt
form_sound t s (Some o) (Instruction i) is rule h =
    let fit = accepted_fit t.scope s.args o h.0 rule in
    same_made (size_by s (Some o)) (size_of_kinds (operand_kinds o)) i.is_foreign (is_foreign_by t s.args (Some o)) i.instr (instruction t o s.args) (instruction_size s o h.0) h.2 h.1 (accepted_made t s.args o (bare_sound s.op o is) fit.0 fit.1)
form_sound t s (Some o) (Data d) is rule h = ap length h.1 ∙ data_size t s o h.0

taken_fills : (taken x y : Bool) → ((taken && x) || (taken && y)) ≡ true → taken ≡ true
taken_fills true x y h = refl
taken_fills false x y h = absurd cc

taken_rule : (taken : Bool) (rule : Option AsmRule) → taken ≡ true → cond taken rule None ≡ None → rule ≡ None
taken_rule true rule is h = h
taken_rule false rule is h = absurd cc

same_size : (n m : ℕ) (f : Form) → n ≡ m → IsSoundForm m f → IsSoundForm n f
same_size n m f same h = rw same h

row_sound : (rs : List WalkRow) (end : Walk) (i : Item) (r : WalkRow) → fills_cells r ≡ true → IsItem rs end i r → IsSound i
row_sound rs end i r fills is =
    let taken = taken_fills (row_is_taken r) (is_instruction_op (row_operation r)) (is_data_op (row_operation r)) fills in
    let rule = taken_rule (row_is_taken r) (rule_of_operands (operand_scope end r.before) r.statement.args (row_operation r)) taken is.accepted in
    same_size i.size (size_by r.statement (row_operation r)) i.form is.size (form_sound (setting rs end r) r.statement (row_operation r) i.form refl rule is.form)

rows_sound : (rs : List WalkRow) (end : Walk) (is : List Item) (qs : List WalkRow) → All (λ q. fills_cells q ≡ true) qs → AreItems rs end is qs → All IsSound is
rows_sound rs end [] [] fill h = λ k d lt. absurd (omega arith)
rows_sound rs end [] (q ∷ qs) fill h = absurd h
rows_sound rs end (i ∷ is) [] fill h = absurd h
rows_sound rs end (i ∷ is) (q ∷ qs) fill h =
    All-cons IsSound i is (row_sound rs end i q (All-head (λ q. fills_cells q ≡ true) q qs fill) h.0) (rows_sound rs end is qs (All-tail (λ q. fills_cells q ≡ true) q qs fill) h.1)

-- every item of an accepted source is sound
pub are_sound : (rs : List WalkRow) (end : Walk) (is : List Item) → AreItems rs end is (item_rows rs) → All IsSound is
are_sound rs end is h = rows_sound rs end is (item_rows rs) (filter_passes fills_cells rs) h
