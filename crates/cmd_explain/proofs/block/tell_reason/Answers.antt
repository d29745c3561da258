use Rattle.std.proofs.Common.{◌∙◌, ◌++◌, Some, sym, ap, subst, drop}
use Rattle.std.proofs.lemmas.Result.{on_ok_weaker}
use Rattle.sym_run.specs.Stop.{walk_end}
use Rattle.cmd_explain.specs.Lines.{ends_at}
use Rattle.cmd_explain.specs.Explained.{ReasonTold, EndTold}
use Rattle.cmd_explain.proofs.Positions.{to_the_end, end_at}
use Rattle.cmd_explain.proofs.block.tell_reason.Goals as goal

pub returns-in-Some : goal.returns-in-Some
returns-in-Some c =
    let p = c.args.sides.now.program.now in
    let lines = c.args.sides.now.lines.now in
    let reason = c.args.said.now.reason in
    let place = c.in-Some.place in
    let own = ends_at (drop place lines) in
    on_ok_weaker c.tell_end.result
    (λ told. λ k rest label said. record {
      own = own;
      is = told ∙ ap (λ l. c.args.told.now.items ++ ends_at l) (to_the_end place lines);
      claim = subst (λ b. ReasonTold p lines k c.args.leader c.args.count b reason own) (sym c.if-not-ends_walk.false ∙ c.ends_walk.ensures)
          (subst (λ xs. EndTold lines (walk_end p xs c.args.leader c.args.count) own) c.requires.text
          (end_at lines place (walk_end p c.args.sides.now.text.now c.args.leader c.args.count) (c.in-Some.ensures.1 ∙ ap (λ xs. Some (drop place xs)) c.requires.text)));
    })
    c.tell_end.ensures
