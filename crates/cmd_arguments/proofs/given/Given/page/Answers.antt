use Rattle.std.proofs.Common.{[], sym, ap, ◌∙◌}
use Rattle.std.specs.Prelude.{option_and_then}
use Rattle.dialogue.specs.StartPage.{page_of_tail}
use Rattle.cmd_arguments.specs.Words.{text_or}
use Rattle.cmd_arguments.proofs.given.Given.page.Goals as goal

pub returns : goal.returns
returns c =
    let tail = ap (λ g. text_or [] g.tail) (sym c.self.view_is) ∙ c.text_or.ensures in
    c.of_tail.ensures ∙ ap page_of_tail c.as_bytes.ensures.value ∙ sym (ap (option_and_then page_of_tail) tail)
