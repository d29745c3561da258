use Rattle.std.proofs.Common.{◌∙◌, ◌++◌, length, ap}
use Rattle.std.proofs.lemmas.Result.{IfOk-from_err}
use Rattle.cells.specs.declared.Cell.TheVariants.{Num}
use Rattle.templates.specs.Plain.{data_from}
use Rattle.templates.proofs.Growing.{data_more, data_whole, data_fits, data_longer, data_most}
use Rattle.templates.proofs.plain.put_data.Goals as goal

pub put_cell-requires : goal.put_cell-requires
put_cell-requires c = data_fits (length c.args.text.now) (length c.loop-at.text) c.loop-at.at-index _ c.requires c.loop-at.invariant.most c.loop-at-test.true c.cells-cells.ensures.few

pub loop-at-preserved : goal.loop-at-preserved
loop-at-preserved c =
    let so_far = c.loop-at.invariant in
    let put = c.in_ok-put_cell.ensures in
    record {
      so_far = data_more c.loop-at.text c.put_cell.new.text _ c.loop-at.next c.cells-cells.result.now c.loop-at.at-index (0, Num 0) c.loop-at-test.true put.value so_far.so_far;
      most = data_longer (length c.args.text.now) (length c.loop-at.text) (length c.put_cell.new.text) c.loop-at.at-index so_far.most put.most;
    }

pub returns : goal.returns
returns c =
    let so_far = c.loop-at.invariant in
    record {
      value = data_whole c.loop-at.text _ c.loop-at.next c.cells-cells.result.now c.loop-at.at-index c.loop-at-test.false so_far.so_far ∙ ap (λ cs. c.args.text.now ++ data_from 0 cs) c.cells-cells.ensures.value;
      most = data_most (length c.args.text.now) (length c.loop-at.text) c.loop-at.at-index _ so_far.most c.loop-at.auto.at-index-end c.cells-cells.ensures.few;
    }

pub returns-in_err-put_cell : goal.returns-in_err-put_cell
returns-in_err-put_cell c =
    let r = c.from_residual in
    record {
      value = IfOk-from_err r.result _ r.ensures.0;
      most = IfOk-from_err r.result _ r.ensures.0;
    }
