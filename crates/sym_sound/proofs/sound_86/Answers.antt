use Rattle.sym_sound.proofs.Machine86.Sound.{walks_run}
use Rattle.sym_sound.proofs.Machine86.Runtime.{runtimes_run}
use Rattle.sym_sound.proofs.sound_86.Goals as goal

pub returns : goal.returns
returns c = record { walks = walks_run c.made_terms_keep_values.ensures c.made_terms_have_sorts.ensures c.steps_keep_sorts.ensures; runtime = runtimes_run }
