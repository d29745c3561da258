use Rattle.std.proofs.Common.{◌≡◌, ◌∙◌, ap, cond, Some}
use Rattle.asm86_line_types.specs.Layout.{same_label}
use Rattle.asm86_line_types.specs.Image.{offset_in}
use Rattle.asm86_line_types.proofs.Labels.{put_is}
use Rattle.asm86_line_types.proofs.label_table.LabelTable.put.Goals as goal

pub returns-clause-ok : goal.returns-clause-ok
returns-clause-ok c = λ l.
    put_is c.args.label l c.args.number c.self.inside.numbers.entries c.insert.new.self.entries (c.in_ok-insert.ensures.updates.0 l)
    ∙ ap (λ xs. cond (same_label c.args.label l) (Some c.args.number) (offset_in xs l)) c.self.view_is
