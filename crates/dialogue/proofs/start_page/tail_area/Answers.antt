use Rattle.std.proofs.Common.{◌∙◌, sym}
use Rattle.dialogue.proofs.Pages.{area-is}
use Rattle.dialogue.proofs.start_page.tail_area.Goals as goal

pub returns-then-not-is_empty : goal.returns-then-not-is_empty
returns-then-not-is_empty c =
    area-is c.args.text.now c.zeros-area.result c.put.new.cells c.put-then-not-is_empty.new.cells c.requires
    (sym c.is_empty.ensures ∙ c.if-not-is_empty.true)
    c.zeros-area.ensures c.put.ensures c.put-then-not-is_empty.ensures
