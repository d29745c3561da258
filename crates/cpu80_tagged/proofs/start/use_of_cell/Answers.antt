use Rattle.std.proofs.Common.{sym, ◌∙◌}
use Rattle.cpu80_tagged.proofs.Starts.{no_start_open}
use Rattle.cpu80_tagged.proofs.start.use_of_cell.Goals as goal

pub returns-then-not-is_closed_cell-clause-start : goal.returns-then-not-is_closed_cell-clause-start
returns-then-not-is_closed_cell-clause-start c =
    sym (no_start_open c.args.program.now c.args.at (sym c.is_closed_cell.ensures ∙ c.if-not-is_closed_cell.true))
