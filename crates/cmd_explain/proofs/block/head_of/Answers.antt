use Rattle.std.proofs.Common.{◌∙◌, sym}
use Rattle.std.proofs.lemmas.Result.{IfOk-weaker}
use Rattle.cmd_explain.proofs.block.head_of.Goals as goal

pub returns : goal.returns
returns c =
    IfOk-weaker c.head_lines.result _ _
    (λ head is. record {
      from = c.in-Some.from;
      to = c.in-Some-line_at.to;
      starts = sym c.line_at.ensures ∙ c.in-Some.is;
      ends = sym c.line_at-2.ensures ∙ c.in-Some-line_at.is;
      is = is;
    })
    c.head_lines.ensures
