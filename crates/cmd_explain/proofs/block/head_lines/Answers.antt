use Rattle.std.proofs.Common.{◌≡◌, ◌∙◌, ◌++◌, ℕ, List, ap, ap₂, sym, append_assoc}
use Rattle.std.specs.Prelude.{codes}
use Rattle.std.proofs.lemmas.Result.{IfOk-weaker}
use Rattle.cmd_explain.specs.Lines.{source_lines}
use Rattle.cmd_explain.proofs.block.head_lines.Goals as goal

-- the two lines are one text
joined : (digits name lines : List ℕ) → codes "block " ++ (digits ++ (codes ", " ++ (name ++ (codes "\n" ++ lines)))) ≡ (codes "block " ++ (digits ++ (codes ", " ++ (name ++ codes "\n")))) ++ lines
joined digits name lines =
    sym (ap (λ l. codes "block " ++ l) (append_assoc digits (codes ", " ++ (name ++ codes "\n")) lines
    ∙ ap (λ l. digits ++ (codes ", " ++ l)) (append_assoc name (codes "\n") lines)))

pub returns : goal.returns
returns c =
    let lines = source_lines c.args.from c.args.to in
    IfOk-weaker c.format.result _ _
    (λ text is. is ∙ ap₂ (λ digits name. codes "block " ++ (digits ++ (codes ", " ++ (name ++ (codes "\n" ++ lines))))) c.in_ok-digits.ensures c.reason_name-name.ensures ∙ joined _ _ lines)
    c.format.ensures.ok
