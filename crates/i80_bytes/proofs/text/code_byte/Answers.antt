use Rattle.std.proofs.Common.{ap, ◌∙◌}
use Rattle.std.specs.Option.{option_or}
use Rattle.i80_bytes.proofs.Texts.{code_is}
use Rattle.i80_bytes.proofs.text.code_byte.Goals as goal

pub returns : goal.returns
returns c =
    c.or-2.ensures
    ∙ ap (λ o. option_or o c.byte_from-third.result) c.or.ensures
    ∙ code_is c.args.program.now c.args.at c.byte_from-first.result c.byte_from-second.result c.byte_from-third.result c.byte_from-first.ensures.program c.byte_from-first.ensures.byte c.byte_from-second.ensures.byte c.byte_from-third.ensures.byte
