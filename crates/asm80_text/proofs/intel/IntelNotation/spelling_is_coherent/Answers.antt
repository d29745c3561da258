use Rattle.asm80_text.proofs.Coherence.{intel_coherent}
use Rattle.asm80_text.proofs.intel.IntelNotation.spelling_is_coherent.Goals as goal

pub returns : goal.returns
returns c = intel_coherent
