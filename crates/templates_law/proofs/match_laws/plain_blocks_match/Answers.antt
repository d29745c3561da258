use Rattle.templates_law.proofs.Match.PlainMatching.{matches}
use Rattle.templates_law.proofs.match_laws.plain_blocks_match.Goals as goal

pub returns : goal.returns
returns c = matches c.steps_keep_sorts.ensures c.rows_agree.ensures c.statements_are_passed.ensures c.templates_are_walked.ensures c.exits_agree.ensures
