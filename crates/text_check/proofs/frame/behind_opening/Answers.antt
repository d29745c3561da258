use Rattle.std.proofs.Common.{◌∙◌, ◌++◌, sym, ap}
use Rattle.text_check.proofs.Frames.{no_prologue}
use Rattle.text_check.proofs.frame.behind_opening.Goals as goal

pub returns-in_err-rest-2 : goal.returns-in_err-rest-2
returns-in_err-rest-2 c =
    rw c.from_residual-in_err-rest-2.ensures
    (no_prologue c.args.top c.args.text.now c.in_ok-rest.rest.now c.in_ok-rest.ensures
    (λ after h. c.in_err-rest-2.ensures after (h ∙ sym (ap (λ l. l ++ after) (c.as_slice.ensures.value ∙ c.prologue.ensures)))))
