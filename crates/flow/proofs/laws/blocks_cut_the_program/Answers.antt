use Rattle.flow.proofs.Extents.{blocks_cut}
use Rattle.flow.proofs.laws.blocks_cut_the_program.Goals as goal

pub returns : goal.returns
returns c = blocks_cut
