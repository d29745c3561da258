use Rattle.asm86_line_reader.proofs.ReadBack.{read_back}
use Rattle.asm86_line_reader.proofs.line.written_lines_read_back.Goals as goal

pub returns : goal.returns
returns c = λ stmt line h e. read_back stmt line h e
