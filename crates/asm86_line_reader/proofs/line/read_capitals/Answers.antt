use Rattle.asm86_line_reader.specs.Line.{faulty}
use Rattle.asm86_line_reader.proofs.Lines.{read}
use Rattle.asm86_line_reader.proofs.line.read_capitals.Goals as goal

pub returns-in_default : goal.returns-in_default
returns-in_default c = λ line le is. let h = rw c.in_default.is at c.in_ok-tokens.ensures in faulty {ts = h.0} le (rw is h.1)

pub returns : goal.returns
returns c = λ line le is.
    let h = rw c.in-Some.is at c.in_ok-tokens.ensures in
    read line c.in-Some.tokens.items c.statements_of.result le (rw is h) (rw c.deref.ensures.value at c.statements_of.ensures)
