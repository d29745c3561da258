use Rattle.std.proofs.Common.{ap, sym, ◌∙◌}
use Rattle.std.proofs.lemmas.Result.{err_from_is_err_and}
use Rattle.cpu80_tagged.specs.Step.{go_on}
use Rattle.cpu80_tagged.specs.Draft.{state_of_draft}
use Rattle.cpu80_tagged.proofs.Turns.{row_is, row_stops}
use Rattle.cpu80_tagged.proofs.draft.Draft.go_on.Goals as goal

pub returns-in_err-effect : goal.returns-in_err-effect
returns-in_err-effect c =
    let s = state_of_draft c.args.self.now in
    let e = err_from_is_err_and c.from_residual.result c.from_residual.ensures.1 in
    record {
      answer = rw (e.1, e.2) (sym (ap (go_on c.args.area.now.program.now c.args.after) (row_stops _ _ s _ c.in_err-effect.ensures.row)));
      nothing_asked = rw e.1 tt;
      memory = c.in_err-effect.ensures.memory;
    }

pub returns : goal.returns
returns c =
    let s = state_of_draft c.args.self.now in
    record {
      answer = c.go_to.ensures.answer s ∙ sym (ap (go_on c.args.area.now.program.now c.args.after) (row_is _ tt s _ c.in_ok-effect.ensures.row));
      nothing_asked = c.go_to.ensures.nothing_asked;
      memory = c.go_to.ensures.memory ∙ c.in_ok-effect.ensures.memory;
    }
