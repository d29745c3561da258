use Rattle.std.proofs.Common.{false, refl}
use Rattle.cells.specs.declared.Cell.TheVariants.{Num}
use Rattle.text_check.proofs.Cells.{not_true, one_not, all_do}
use Rattle.text_check.proofs.data.data_stand.Goals as goal

pub returns-then-not-cell_stands : goal.returns-then-not-cell_stands
returns-then-not-cell_stands c = (
  λ yes. absurd (not_true false refl yes),
  λ h. absurd (one_not c.args.program.now c.args.image.now c.cells-cells.result.now c.loop-at.at-index (0, Num 0) c.cells-cells.ensures.program c.cells-cells.ensures.value c.loop-at-test.true c.loop-at.invariant
      (λ s. not_true c.cell_stands.result c.if-not-cell_stands.true (c.cell_stands.ensures.1 s)) h),
)

pub returns : goal.returns
returns c =
    (λ yes. all_do c.args.program.now c.args.image.now c.cells-cells.result.now c.loop-at.at-index c.cells-cells.ensures.program c.cells-cells.ensures.value c.loop-at-test.false c.loop-at.invariant, λ h. refl)
