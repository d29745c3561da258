use Rattle.shrink.proofs.Matched.{found_match}
use Rattle.shrink.proofs.shrinking.shrink.Goals as goal

pub shrink_by-requires-clause-matches : goal.shrink_by-requires-clause-matches
shrink_by-requires-clause-matches c = λ n needs. found_match c.args.program.now n c.args.lines.now c.requires.shown.0 needs c.requires.shown.1
