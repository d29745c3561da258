use Rattle.std.proofs.Common.{◌≡◌, map, Some, Ok, ap, sym, ◌∙◌}
use Rattle.asm80_types.specs.Tree.{Statement, operand_of}
use Rattle.asm80_source_def.specs.Walk.{row_operation, meaning_in}
use Rattle.asm80_source_def.specs.Items.{Setting}
use Rattle.base.specs.Addresses.{has_address}
use Rattle.asm80_values.specs.Forms.{GivesForm}
use Rattle.asm80_values.specs.Second.{seen_in}
use Rattle.asm80_values.proofs.second_walk.item_of.Goals as goal
use Rattle.asm80_values.proofs.Rows.{given, item_given}

pub returns-in-Ok : goal.returns-in-Ok
returns-in-Ok c = λ statements r stands same.
    let args : map operand_of c.as_slice-args.result.now ≡ r.statement.args = ap (map operand_of) c.as_slice-args.ensures ∙ ap (λ (s : Statement). s.args) same in
    let op : row_operation r ≡ Some c.in-Some.operation = sym stands.operation ∙ c.in-Some.is in
    let form : GivesForm (seen_in c.args.names.now c.args.starts.now r) c.in-Some.operation r.statement.args (Ok c.in-Ok.form) = given _ (seen_in c.args.names.now c.args.starts.now r) c.in-Some.operation _ r.statement.args (Ok c.in-Ok.form)
    (ap (λ here. let t : Setting = record { scope = record { here = here; find = meaning_in c.args.names.now }; is_start = has_address c.args.starts.now } in t) stands.at) args c.in-Ok.ensures in
    item_given (seen_in c.args.names.now c.args.starts.now r) r c.in-Some.operation c.in-Ok.form _ op form
    (c.item_with.ensures (seen_in c.args.names.now c.args.starts.now r) r (ap (λ (s : Statement). s.line) same) stands.at (sym args) op form.1)
