use Rattle.std.proofs.Common.{◌∙◌, sym}
use Rattle.asm86.proofs.Steps.{not_done, opened}
use Rattle.asm86.proofs.Whole.{all_done, all_rest}
use Rattle.asm86.proofs.reader.Text86.end.Goals as goal

pub returns-then-is_done-clause-whole : goal.returns-then-is_done-clause-whole
returns-then-is_done-clause-whole c = λ _ stream h. all_done stream c.args.self.now (sym c.is_done.ensures ∙ c.if-is_done.true) h

pub returns-clause-whole : goal.returns-clause-whole
returns-clause-whole c = λ ne stream h.
    let d = not_done _ _ (sym c.is_done.ensures ∙ c.if-is_done.false) in
    let o = opened stream c.args.self.now d.0 d.1 h in
    all_rest stream c.args.self.now c.end_rest.new.self o ne (c.end_rest.ensures o.rest o.held)
