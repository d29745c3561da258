use Rattle.std.proofs.Common.{◌∙◌, ◌++◌, get_or, ap, subst}
use Rattle.std.proofs.lemmas.Result.{on_ok_weaker}
use Rattle.cells.specs.declared.Cell.TheVariants.{Num}
use Rattle.simulation_def.specs.Matches.{byte_at}
use Rattle.text_check.proofs.Cells.{not_true, all_do}
use Rattle.cmd_explain.specs.Lines.{data_line, found_line}
use Rattle.cmd_explain.specs.Explained.{DataTold}
use Rattle.cmd_explain.proofs.Data.{cell_is, cell_on, cell_apart, cells_on}
use Rattle.cmd_explain.proofs.frame.tell_data.Goals as goal

pub returns-then-not-cell_stands : goal.returns-then-not-cell_stands
returns-then-not-cell_stands c =
    let image = c.args.image.now in
    let cs = c.cells-cells.result.now in
    let i = c.loop-at.at-index in
    let x = get_or cs i (0, Num 0) in
    let own = data_line x.0 x.1 ++ found_line (byte_at image.cells x.0) in
    on_ok_weaker c.tell_cell.result
    (λ told. record {
      own = own;
      is = told ∙ ap (λ f. c.loop-at.told.items ++ (data_line x.0 x.1 ++ found_line f)) c.byte_at.ensures ∙ ap (λ t. t ++ own) c.loop-at.invariant.kept;
      claim = subst (λ xs. DataTold image xs own) c.cells-cells.ensures.value
          (cell_apart image cs i x.0 x.1 (cell_is cs i (0, Num 0) c.loop-at-test.true) (λ s. not_true c.cell_stands.result c.if-not-cell_stands.true (c.cell_stands.ensures.1 s)) c.loop-at.invariant.told);
    })
    c.tell_cell.ensures

pub loop-at-preserved : goal.loop-at-preserved
loop-at-preserved c =
    let image = c.args.image.now in
    let cs = c.cells-cells.result.now in
    let i = c.loop-at.at-index in
    let x = get_or cs i (0, Num 0) in
    let stands = c.cell_stands.ensures.0 c.if-not-cell_stands.false in
    record {
      kept = c.loop-at.invariant.kept;
      stand = cells_on image cs i (0, Num 0) c.loop-at-test.true stands c.loop-at.invariant.stand;
      told = cell_on image cs i x.0 x.1 (cell_is cs i (0, Num 0) c.loop-at-test.true) stands c.loop-at.invariant.told;
    }

pub returns : goal.returns
returns c =
    absurd (c.requires.apart (all_do c.args.program.now c.args.image.now c.cells-cells.result.now c.loop-at.at-index c.cells-cells.ensures.program c.cells-cells.ensures.value c.loop-at-test.false c.loop-at.invariant.stand))
