use Rattle.templates_law.proofs.Match.Matching.{matches}
use Rattle.templates_law.proofs.match_laws.own_blocks_match.Goals as goal

pub returns : goal.returns
returns c =
    matches c.needs_are_closed.ensures c.blocks_cut_the_program.ensures c.steps_keep_sorts.ensures c.rows_agree.ensures c.rows_keep_sorts.ensures c.pairs_may_go.ensures c.statements_are_passed.ensures
    c.templates_are_walked.ensures c.exits_agree.ensures
