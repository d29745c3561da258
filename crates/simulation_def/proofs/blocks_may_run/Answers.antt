use Rattle.simulation_def.proofs.Blocks.{may_run}
use Rattle.simulation_def.proofs.blocks_may_run.Goals as goal

pub returns : goal.returns
returns c = λ p is a n h. may_run p a n (c.blocks_cut_the_program.ensures p is) h
