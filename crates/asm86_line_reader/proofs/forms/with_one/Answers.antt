use Rattle.std.proofs.Common.{sym, ap, ◌∙◌}
use Rattle.asm86_line_reader.specs.declared.token.Operation.{Operation}
use Rattle.asm86_line_reader.specs.Forms.{with_one}
use Rattle.asm86_line_reader.specs.Results.{checked}
use Rattle.asm86_line_reader.proofs.forms.with_one.Goals as goal

pub returns-in-Count-default : goal.returns-in-Count-default
returns-in-Count-default c = c.counted.ensures ∙ ap (λ (o : Operation). checked (with_one o c.args.operand)) (sym c.in-Count-default.is-0)

pub returns-in-Push-default : goal.returns-in-Push-default
returns-in-Push-default c = c.pushed.ensures ∙ ap (λ (o : Operation). checked (with_one o c.args.operand)) (sym c.in-Push-default.is-0)

pub returns-in-Pop-default : goal.returns-in-Pop-default
returns-in-Pop-default c = c.popped.ensures ∙ ap (λ (o : Operation). checked (with_one o c.args.operand)) (sym c.in-Pop-default.is-0)

pub returns-in-Not-default : goal.returns-in-Not-default
returns-in-Not-default c = c.inverted.ensures ∙ ap (λ (o : Operation). checked (with_one o c.args.operand)) (sym c.in-Not-default.is-0)

pub returns-in-Int-default : goal.returns-in-Int-default
returns-in-Int-default c = c.interrupt.ensures ∙ ap (λ (o : Operation). checked (with_one o c.args.operand)) (sym c.in-Int-default.is-0)

pub returns-in-Jmp-default : goal.returns-in-Jmp-default
returns-in-Jmp-default c = c.jumped.ensures ∙ ap (λ (o : Operation). checked (with_one o c.args.operand)) (sym c.in-Jmp-default.is-0)
