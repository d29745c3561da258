use Rattle.std.proofs.Common.{rules, tests}
use Rattle.std.proofs.lemmas.Iterator.Consumers.{map_from_collect}
use Rattle.std.proofs.lemmas.Iterator.Splits.{YieldsList-from_slice_split}
use Rattle.asm80_text.specs.Line.{is_bang}
use Rattle.asm80_text.proofs.Several.{collected_lawful}
use Rattle.asm80_text.proofs.parts.parts_of.Goals as goal

pub returns-clause-parts : goal.returns-clause-parts
returns-clause-parts g c = map_from_collect _ c.collect.ensures.ran (YieldsList-from_slice_split _ is_bang c.args.tokens.now c.split.ensures.rest c.split.ensures.done c.split.ensures.closure (λ x r q k. search (rules, tests)))

pub returns-clause-lawful : goal.returns-clause-lawful
returns-clause-lawful g c = collected_lawful g.N.Notation.spelling c.args.tokens.now c.collect.result c.requires (returns-clause-parts g c)
