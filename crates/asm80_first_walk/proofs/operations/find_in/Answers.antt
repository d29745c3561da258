use Rattle.std.proofs.Common.{◌∙◌, sym}
use Rattle.asm80_first_walk.proofs.Tables.{found_in_row, no_first, no_letter}
use Rattle.asm80_first_walk.proofs.operations.find_in.Goals as goal

pub returns-in_default : goal.returns-in_default
returns-in_default c = λ entries same all. no_first entries c.args.word.now (sym c.in_default.ensures.value) all

pub returns-then-not-is_ascii_uppercase : goal.returns-then-not-is_ascii_uppercase
returns-then-not-is_ascii_uppercase c = λ entries same all.
    no_letter entries c.args.word.now c.in-Some.letter.now (sym c.in-Some.ensures.value) (sym c.is_ascii_uppercase.ensures.value ∙ c.if-not-is_ascii_uppercase.true) all

pub returns : goal.returns
returns c = λ entries same all.
    c.operation_among.ensures ∙ found_in_row c.args.lists.now entries c.args.word.now c.in-Some.letter.now c.from.result _ same (sym c.in-Some.ensures.value) (sym c.is_ascii_uppercase.ensures.value ∙ c.if-not-is_ascii_uppercase.false) c.from.ensures
