use Rattle.std.proofs.Common.{refl}
use Rattle.std.proofs.lemmas.List.{take_all}
use Rattle.std.proofs.lemmas.Result.{err_from_is_err_and}
use Rattle.asm86_line_reader.proofs.Checked.{taken, small_more, all_taken}
use Rattle.asm86_line_reader.proofs.Each.{each_none, each_step}
use Rattle.asm86_line_reader.proofs.Given.{fails_with}
use Rattle.asm86_line_reader.proofs.items.each_item.Goals as goal

pub loop-operand-init : goal.loop-operand-init
loop-operand-init c = rw c.new-statements.ensures.items (record { given = each_none _; small = refl })

pub returns-in_err-item : goal.returns-in_err-item
returns-in_err-item c =
    let p = err_from_is_err_and c.from_residual.result c.from_residual.ensures.1 in
    rw (p.1, p.2) (fails_with _ c.args.operands.now c.loop-operand.operand-index _ _ c.requires c.loop-operand-test.true c.in_err-item.ensures)

pub loop-operand-preserved : goal.loop-operand-preserved
loop-operand-preserved c =
    let h = taken _ _ c.in_ok-item.ensures in
    rw c.in_ok-push.ensures.items (record {
      given = each_step _ c.args.operands.now c.loop-operand.operand-index _ _ _ c.loop-operand-test.true c.loop-operand.invariant.given h.0;
      small = small_more c.loop-operand.statements.items c.in_ok-item.field-0 c.loop-operand.invariant.small h.1;
    })

pub returns : goal.returns
returns c = all_taken _ _ (rw (take_all c.loop-operand.operand-index c.args.operands.now c.loop-operand-test.false) at c.loop-operand.invariant.given) c.loop-operand.invariant.small
