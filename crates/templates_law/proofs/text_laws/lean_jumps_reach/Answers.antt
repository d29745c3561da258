use Rattle.templates_law.proofs.Text.LeanText.{lean_reach}
use Rattle.templates_law.proofs.text_laws.lean_jumps_reach.Goals as goal

pub returns : goal.returns
returns c n p is = lean_reach n p is (c.blocks_cut_the_program.ensures p is)
