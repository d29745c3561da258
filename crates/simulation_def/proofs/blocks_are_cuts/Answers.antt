use Rattle.simulation_def.proofs.Cutting.{blocks_cut}
use Rattle.simulation_def.proofs.blocks_are_cuts.Goals as goal

pub returns : goal.returns
returns c = λ p is. blocks_cut p is (c.blocks_cut_the_program.ensures p is) (c.blocks_may_run.ensures p is)
