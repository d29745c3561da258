use Rattle.std.proofs.Common.{List, length, ap, ◌∙◌}
use Rattle.cells.specs.declared.Cell.{Cell}
use Rattle.asm80_values.proofs.second_walk.size_of_form.Goals as goal
use Rattle.asm80_values.proofs.Sizes.{data_size}

pub returns-in-Data : goal.returns-in-Data
returns-in-Data c = λ t s same form.
    let d = rw c.in-Data.is at form in
    ap (λ (cs : List Cell). length cs) (c.as_slice.ensures.value ∙ d.1) ∙ data_size t s c.args.operation d.0
