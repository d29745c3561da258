use Rattle.std.proofs.Common.{◌∙◌, ap}
use Rattle.asm86_line_reader.specs.Words.{label_or_unknown}
use Rattle.asm86_line_reader.proofs.Listed.{named}
use Rattle.asm86_line_reader.proofs.words.name_token.Goals as goal

pub returns-in-Some : goal.returns-in-Some
returns-in-Some c = named c.args.word.now _ c.in-Some.ensures

pub returns-in-Some-numbered : goal.returns-in-Some-numbered
returns-in-Some-numbered c = ap label_or_unknown c.in-Some-numbered.ensures ∙ named c.args.word.now _ c.in_default.ensures

pub returns-in-None : goal.returns-in-None
returns-in-None c = ap label_or_unknown c.in-None.ensures ∙ named c.args.word.now _ c.in_default.ensures
