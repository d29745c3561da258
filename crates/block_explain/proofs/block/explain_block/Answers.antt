use Rattle.std.proofs.Common.{◌∙◌, sym}
use Rattle.std.specs.String.{string_bytes}
use Rattle.sym_block_def.specs.Block80.{block80}
use Rattle.sym_block_def.specs.BlockMatch.{block_reason}
use Rattle.simulation_def.specs.Needed.{needed_by}
use Rattle.block_check.proofs.Verdicts.{none_found, some_found}
use Rattle.block_explain.proofs.Blocks.{lines_are}
use Rattle.block_explain.proofs.block.explain_block.Goals as goal

pub returns-in-Shown : goal.returns-in-Shown
returns-in-Shown c = λ n count needs e.
    let p = c.args.program.now in
    let k = needed_by p n in
    none_found (block_reason p c.args.text.now k c.args.leader count) (sym c.in-Shown.is ∙ c.check.ensures.verdict n count needs e)

pub returns-in_ok-lines-in-NotShown : goal.returns-in_ok-lines-in-NotShown
returns-in_ok-lines-in-NotShown c = λ n count needs e.
    let p = c.args.program.now in
    let text = c.args.text.now in
    let first = c.args.leader in
    let k = needed_by p n in
    let reason = c.in-NotShown.reason in
    let found = some_found (block_reason p text k first count) reason (sym c.in-NotShown.is ∙ c.check.ensures.verdict n count needs e) in (
      found,
      lines_are p text (k.at first) first count k (block80 p first count) c.check.new.work reason (string_bytes c.in_ok-lines-in-NotShown.lines) c.ends_say_why.ensures (λ y walked. c.check.ensures.compared n count y needs e walked) found c.in_ok-lines-in-NotShown.ensures,
    )
