use Rattle.std.proofs.Common.{◌∙◌, ap, map}
use Rattle.std.specs.String.{string_bytes}
use Rattle.std.proofs.lemmas.Result.{IfOk-weaker}
use Rattle.cmd_lists.specs.Saves.{report_lines}
use Rattle.cmd_lists.proofs.Gathering.{lines_some}
use Rattle.cmd_lists.proofs.saves.SavesListed.lines.Goals as goal

pub returns-clause-some : goal.returns-clause-some
returns-clause-some c =
    IfOk-weaker c.lines_of.result _ _
    (λ lines h. lines_some c.args.program.now (map string_bytes lines.items) (record { savings = c.in_ok-savings.savings.items; are = c.in_ok-savings.ensures; is = h ∙ ap report_lines c.as_slice.ensures.value }))
    c.lines_of.ensures
