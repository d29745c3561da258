use Rattle.std.proofs.Common.{◌∙◌, ap}
use Rattle.asm86_line_types.specs.Image.{offset_in}
use Rattle.asm86.proofs.offsets.Offsets.get.Goals as goal

pub returns : goal.returns
returns c =
    c.get.ensures
    ∙ c.self.invariant c.args.label
    ∙ ap (λ xs. offset_in xs c.args.label) c.self.view_is
