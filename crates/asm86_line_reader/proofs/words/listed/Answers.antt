use Rattle.std.proofs.Common.{refl}
use Rattle.asm86_line_reader.specs.Words.{instruction_words, others}
use Rattle.asm86_line_reader.proofs.Listed.{listed}
use Rattle.asm86_line_reader.proofs.words.listed.Goals as goal

pub returns : goal.returns
unfolding instruction_words others
returns c = listed _ c.args.word.now _ c.listed_in.ensures refl refl
