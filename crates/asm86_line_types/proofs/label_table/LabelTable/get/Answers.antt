use Rattle.std.proofs.Common.{◌∙◌, ap}
use Rattle.asm86_line_types.specs.Image.{offset_in}
use Rattle.asm86_line_types.proofs.Labels.{lookup_is}
use Rattle.asm86_line_types.proofs.label_table.LabelTable.get.Goals as goal

pub returns : goal.returns
returns c =
    c.copied.ensures
    ∙ c.get.ensures.value
    ∙ lookup_is c.args.label c.self.inside.numbers.entries
    ∙ ap (λ xs. offset_in xs c.args.label) c.self.view_is
