use Rattle.std.proofs.Common.{sym, ◌∙◌}
use Rattle.asm86_line_reader.specs.Line.{long}
use Rattle.asm86_line_reader.proofs.Capitals.{same_capitals}
use Rattle.asm86_line_reader.proofs.line.read_line.Goals as goal

pub returns-then-line-gt-LONGEST_LINE : goal.returns-then-line-gt-LONGEST_LINE
returns-then-line-gt-LONGEST_LINE c = long c.if-line-gt-LONGEST_LINE.true

pub returns-then-has_no_lower : goal.returns-then-has_no_lower
returns-then-has_no_lower c = c.read_capitals.ensures c.args.line.now c.if-line-gt-LONGEST_LINE.false (same_capitals c.args.line.now (sym c.has_no_lower.ensures ∙ c.if-has_no_lower.true))

pub returns : goal.returns
returns c = c.read_capitals-2.ensures c.args.line.now c.if-line-gt-LONGEST_LINE.false (sym (c.deref.ensures.value ∙ c.in_ok-capitals.ensures))
