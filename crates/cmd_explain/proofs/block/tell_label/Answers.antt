use Rattle.std.proofs.Common.{◌∙◌, ◌++◌, ◌-◌, refl, ap, get_or, drop}
use Rattle.std.proofs.lemmas.Result.{on_ok_weaker}
use Rattle.asm86_line_types.specs.Image.{statements}
use Rattle.cmd_explain.specs.Lines.{text_line}
use Rattle.cmd_explain.specs.Explained.{ReasonTold, LabelTold, ends_walk}
use Rattle.cmd_explain.proofs.Positions.{stands_before, any_line}
use Rattle.cmd_explain.proofs.Blocks.{tells_more}
use Rattle.cmd_explain.proofs.block.tell_label.Goals as goal

pub returns : goal.returns
returns c =
    let p = c.args.sides.now.program.now in
    let lines = c.args.sides.now.lines.now in
    let place = c.args.place in
    let rest = drop place (statements lines) in
    let reason = c.args.said.now.reason in
    let old = c.args.told.now.items in
    let label = get_or lines (place - 1) any_line in
    on_ok_weaker c.tell_reason.result
    (λ told. λ k said.
    tells_more (ReasonTold p lines k c.args.leader c.args.count (ends_walk reason) reason) (LabelTold p lines k c.args.leader c.args.count reason rest) old c.extend_from_slice.new.self.items c.tell_reason.new.told.items (text_line label.line)
    (c.in_ok-extend_from_slice.ensures.items ∙ ap (λ b. old ++ b) (c.as_bytes.ensures.value ∙ c.in_ok-line.ensures.ok))
    (λ own claim. record { label = label; stands = stands_before lines place any_line c.requires.after c.requires.within; why = own; told = claim; is = refl })
    (told k rest c.requires.label said))
    c.tell_reason.ensures
