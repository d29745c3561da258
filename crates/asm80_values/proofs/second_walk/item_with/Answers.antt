use Rattle.std.proofs.Common.{ap, sym, ◌∙◌}
use Rattle.asm80_source_def.specs.Walk.{row_operation, size_by}
use Rattle.asm80_values.proofs.second_walk.item_with.Goals as goal
use Rattle.asm80_values.proofs.Rows.{form_fills}

pub returns-in_default : goal.returns-in_default
returns-in_default c = λ t r line at args op form. (
  form_fills t c.args.operation r.statement.args (row_operation r) c.args.form c.in_default.not-Nothing op form,
  record { line = line; at = at; small = c.ranges.at.fits; size = c.size_of_form.ensures t r.statement args form ∙ ap (size_by r.statement) (sym op); form = rw op form },
)
