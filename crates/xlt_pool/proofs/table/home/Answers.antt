use Rattle.xlt_pool.specs.Table.{home_of}
use Rattle.xlt_pool.proofs.table.home.Goals as goal

pub returns-clause-value : goal.returns-clause-value
unfolding home_of
returns-clause-value c = cc
