use Rattle.shrink.proofs.Back.{reads_back, text_has_image}
use Rattle.shrink.proofs.laws.written_lines_read_back.Goals as goal

pub returns-clause-reads : goal.returns-clause-reads
returns-clause-reads c = reads_back c.written_text_reads_back.ensures

pub returns-clause-image : goal.returns-clause-image
returns-clause-image c = text_has_image c.written_text_reads_back.ensures
