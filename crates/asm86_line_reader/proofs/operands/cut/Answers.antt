use Rattle.std.proofs.Common.{◌-◌, length, get_or, take, drop}
use Rattle.asm86_line_reader.specs.declared.token.Token.TheVariants.{Comma}
use Rattle.asm86_line_reader.proofs.Cut.{cut_some, cut_none, front_of, empty}
use Rattle.asm86_line_reader.proofs.operands.cut.Goals as goal

pub returns-in_default : goal.returns-in_default
returns-in_default c =
    let rest = c.split_at.result.1.now in
    cut_none c.args.tokens.now c.split_at.result.0.now rest c.part_len.result c.part_len.ensures.value c.split_at.ensures.front c.split_at.ensures.back (empty rest c.in_default.len_below)

pub returns-in_default-len1-up : goal.returns-in_default-len1-up
returns-in_default-len1-up c =
    let rest = c.split_at.result.1.now in
    cut_some c.args.tokens.now c.split_at.result.0.now rest c.part_len.result (get_or rest 0 Comma) (take (length rest - 1) (drop 1 rest)) c.part_len.ensures.value c.split_at.ensures.front c.split_at.ensures.back
    (front_of rest Comma c.in_default-len1-up.len_at_least)
