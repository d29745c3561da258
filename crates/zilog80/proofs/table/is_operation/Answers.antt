use Rattle.std.proofs.Common.{refl, ◌∙◌}
use Rattle.zilog80.specs.Table.{bare_rows, unary_rows, binary_rows}
use Rattle.zilog80.specs.Words.{directives}
use Rattle.zilog80.proofs.Listed.{words, words_are}
use Rattle.zilog80.proofs.table.is_operation.Goals as goal

pub returns : goal.returns
unfolding directives bare_rows unary_rows binary_rows words
returns c = c.is_listed.ensures words refl ∙ words_are c.args.word.now
