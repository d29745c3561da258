use Rattle.std.proofs.Common.{length, sym, ◌∙◌}
use Rattle.std.proofs.lemmas.Bool.{le-ltb}
use Rattle.zilog80.proofs.Listed.{one_letter}
use Rattle.zilog80.proofs.zilog.ZilogNotation.is_operation.Goals as goal

pub returns-else-word-gt1 : goal.returns-else-word-gt1
returns-else-word-gt1 c = le-ltb 1 (length c.args.word.now) c.if-word-gt1.false ∙ sym (one_letter c.args.word.now c.if-word-gt1.false)
