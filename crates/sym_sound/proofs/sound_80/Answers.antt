use Rattle.sym_sound.proofs.Machine80.Blocks.{blocks_run}
use Rattle.sym_sound.proofs.sound_80.Goals as goal

pub returns : goal.returns
returns c = blocks_run c.made_terms_keep_values.ensures c.made_terms_have_sorts.ensures c.steps_keep_sorts.ensures
