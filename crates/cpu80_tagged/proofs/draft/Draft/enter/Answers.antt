use Rattle.std.proofs.Common.{◌≡◌, ℕ, Bool, cond, Result, Ok, ap, sym, ◌∙◌}
use Rattle.std.proofs.lemmas.Result.{err_from_is_err_and}
use Rattle.cells.specs.declared.Rule.{Rule}
use Rattle.cells.specs.declared.Rule.TheVariants.{P1}
use Rattle.dialogue.specs.Run.{Stops}
use Rattle.asm80_types.specs.Program.{Program, is_start}
use Rattle.cpu80_tagged.specs.State.{State80}
use Rattle.cpu80_tagged.specs.Step.{enter, go_to}
use Rattle.cpu80_tagged.specs.Draft.{state_of_draft}
use Rattle.cpu80_tagged.proofs.Turns.{row_is, row_stops}
use Rattle.cpu80_tagged.proofs.draft.Draft.enter.Goals as goal

-- once the return is pushed, all hangs on whether an instruction starts there
pushed : (p : Program) (at after : ℕ) (b : Bool) (row : Result State80 Rule) (t : State80) → b ≡ is_start p after → row ≡ Ok t → cond b (go_to p t at) (Stops P1) ≡ enter p at after row
pushed p at after b row t h e = ap (λ s. cond s (go_to p t at) (Stops P1)) h ∙ sym (ap (enter p at after) e)

pub returns-then-not-is_start : goal.returns-then-not-is_start
returns-then-not-is_start c =
    let s = state_of_draft c.args.self.now in
    record {
      answer = pushed c.args.area.now.program.now c.args.at c.args.after _ _ (state_of_draft c.push.new.self) c.if-not-is_start.ensures (row_is _ tt s _ c.in_ok-push.ensures.row);
      nothing_asked = tt;
      memory = c.in_ok-push.ensures.memory;
    }

pub returns : goal.returns
returns c =
    let s = state_of_draft c.args.self.now in
    record {
      answer = c.go_to.ensures.answer s
          ∙ pushed c.args.area.now.program.now c.args.at c.args.after _ _ (state_of_draft c.push.new.self) c.if-not-is_start.ensures (row_is _ tt s _ c.in_ok-push.ensures.row);
      nothing_asked = c.go_to.ensures.nothing_asked;
      memory = c.go_to.ensures.memory ∙ c.in_ok-push.ensures.memory;
    }

pub returns-in_err-push : goal.returns-in_err-push
returns-in_err-push c =
    let s = state_of_draft c.args.self.now in
    let e = err_from_is_err_and c.from_residual.result c.from_residual.ensures.1 in
    record {
      answer = rw (e.1, e.2) (sym (ap (enter c.args.area.now.program.now c.args.at c.args.after) (row_stops _ _ s _ c.in_err-push.ensures.row)));
      nothing_asked = rw e.1 tt;
      memory = c.in_err-push.ensures.memory;
    }
