use Rattle.std.proofs.Common.{◌∙◌, sym}
use Rattle.asm86_line_reader.proofs.Listed.{no_letter, below, no_list, in_list}
use Rattle.asm86_line_reader.proofs.words.listed_in.Goals as goal

pub returns-in_err-letter : goal.returns-in_err-letter
returns-in_err-letter c = c.from_residual.ensures ∙ no_letter _ c.args.word.now (sym c.in_err-letter.ensures.value)

pub returns-then-letter-lt65 : goal.returns-then-letter-lt65
returns-then-letter-lt65 c = below _ c.args.word.now _ (sym c.in_ok-letter.ensures.value) c.if-letter-lt65.true

pub returns-in_err-get : goal.returns-in_err-get
returns-in_err-get c = c.from_residual-in_err-get.ensures ∙ no_list c.args.lists.now c.args.word.now _ _ (sym c.in_ok-letter.ensures.value) c.if-letter-lt65.false c.from.ensures c.in_err-get.ensures.lookup.3

pub returns : goal.returns
returns c = c.look.ensures ∙ in_list c.args.lists.now c.args.word.now _ _ _ (sym c.in_ok-letter.ensures.value) c.if-letter-lt65.false c.from.ensures c.in_ok-get.ensures.lookup.3.0 c.in_ok-get.ensures.lookup.1
