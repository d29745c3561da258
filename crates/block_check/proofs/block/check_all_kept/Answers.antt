use Rattle.std.proofs.Common.{refl}
use Rattle.simulation_def.specs.Ones.{all_kept}
use Rattle.block_check.proofs.Found.{one_is_block}
use Rattle.block_check.proofs.block.check_all_kept.Goals as goal

pub check_kept-requires-clause-block : goal.check_kept-requires-clause-block
check_kept-requires-clause-block c = one_is_block c.args.program.now c.args.at c.requires

pub returns-clause-verdict : goal.returns-clause-verdict
returns-clause-verdict c = c.check_kept.ensures.verdict (all_kept c.args.program.now) refl

pub returns-clause-outcomes : goal.returns-clause-outcomes
returns-clause-outcomes c = c.check_kept.ensures.outcomes (all_kept c.args.program.now) refl
