use Rattle.asm86_line_reader.proofs.Labels.{line_names_labels}
use Rattle.asm86_line_reader.proofs.line.lines_name_labels.Goals as goal

pub returns : goal.returns
returns c = λ line ss x. line_names_labels x
