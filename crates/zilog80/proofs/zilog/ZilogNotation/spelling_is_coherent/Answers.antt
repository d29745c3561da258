use Rattle.zilog80.proofs.Coherence.{zilog_coherent}
use Rattle.zilog80.proofs.zilog.ZilogNotation.spelling_is_coherent.Goals as goal

pub returns : goal.returns
returns c = zilog_coherent
