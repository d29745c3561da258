use Rattle.asm86.proofs.Back.{reads_back}
use Rattle.asm86.proofs.text_laws.written_text_reads_back.Goals as goal

pub returns : goal.returns
returns c = λ lines h o e. reads_back lines h o e
