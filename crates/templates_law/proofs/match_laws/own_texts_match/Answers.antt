use Rattle.templates_law.proofs.Match.Whole.{all_match}
use Rattle.templates_law.proofs.match_laws.own_texts_match.Goals as goal

pub returns : goal.returns
returns c = all_match c.own_blocks_match.ensures
