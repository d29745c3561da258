use Rattle.std.proofs.Common.{◌∙◌, sym}
use Rattle.base.specs.Cut.{without_cr}
use Rattle.asm86.proofs.Steps.{not_done, opened, given, after_done, after_byte, after_line}
use Rattle.asm86.proofs.reader.Text86.step.Goals as goal

pub returns-then-is_done-clause-grows : goal.returns-then-is_done-clause-grows
returns-then-is_done-clause-grows c = λ _ stream h. after_done stream c.args.self.now c.args.b (sym c.is_done.ensures ∙ c.if-is_done.true) h

pub returns-then-b-eq10-clause-grows : goal.returns-then-b-eq10-clause-grows
returns-then-b-eq10-clause-grows c = λ ne stream h.
    let d = not_done _ _ (sym c.is_done.ensures ∙ c.if-is_done.false) in
    let o = opened stream c.args.self.now d.0 d.1 h in
    rw c.if-b-eq10.true (after_line stream c.args.self.now c.end_line.new.self o (given (without_cr o.rest) c.args.self.now c.end_line.new.self ne (c.end_line.ensures o.rest o.held)))

pub returns-else-b-eq10-clause-grows : goal.returns-else-b-eq10-clause-grows
returns-else-b-eq10-clause-grows c = λ _ stream h.
    let d = not_done _ _ (sym c.is_done.ensures ∙ c.if-is_done.false) in
    after_byte stream c.args.self.now c.args.b _ (opened stream c.args.self.now d.0 d.1 h) c.if-b-eq10.false c.hold.ensures
