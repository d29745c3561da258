use Rattle.std.proofs.Common.{◌∙◌, ◌++◌, ap₂}
use Rattle.std.specs.Prelude.{codes}
use Rattle.std.specs.Fmt.{decimal}
use Rattle.std.proofs.lemmas.Result.{IfOk-weaker}
use Rattle.cmd_lists.proofs.saves.save_line.Goals as goal

pub returns : goal.returns
returns c =
    IfOk-weaker c.format.result _ _
    (λ said is. is ∙ ap₂ (λ place text. place ++ (codes " line " ++ (decimal c.args.saving.now.line ++ (codes " " ++ (text ++ codes "\n"))))) c.in_ok-place.ensures c.in_ok-text.ensures)
    c.format.ensures.ok
