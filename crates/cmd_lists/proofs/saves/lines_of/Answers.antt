use Rattle.std.proofs.Common.{◌∙◌, [], ◌∷◌, ◌++◌, length, map, take, sym, ap}
use Rattle.std.specs.String.{string_bytes}
use Rattle.std.proofs.lemmas.List.{map-append, map_more, take_all}
use Rattle.cmd_common.specs.Lines.{saves_line}
use Rattle.cmd_lists.specs.Saves.{save_line}
use Rattle.cmd_lists.proofs.saves.lines_of.Goals as goal

-- one more line
pub loop-saving-preserved : goal.loop-saving-preserved
loop-saving-preserved c =
    let savings = c.args.savings.now in
    let i = c.loop-saving.saving-index in
    let line = c.in_ok-save_line.field-0 in
    ap (map string_bytes) c.in_ok-push.ensures.items
    ∙ map-append string_bytes c.loop-saving.lines.items (line ∷ [])
    ∙ ap (λ lines. lines ++ string_bytes line ∷ []) c.loop-saving.invariant
    ∙ ap (λ l. map save_line (take i savings) ++ l ∷ []) (c.in_ok-save_line.ensures ∙ ap save_line c.saving-item.is)
    ∙ sym (map_more save_line savings i c.saving-item.result c.loop-saving-test.true)

-- and the last one
pub returns : goal.returns
returns c =
    let savings = c.args.savings.now in
    let last = c.in_ok-saves_line.field-0 in
    ap (map string_bytes) c.in_ok-push-2.ensures.items
    ∙ map-append string_bytes c.loop-saving.lines.items (last ∷ [])
    ∙ ap (λ lines. lines ++ string_bytes last ∷ []) (c.loop-saving.invariant ∙ ap (map save_line) (take_all c.loop-saving.saving-index savings c.loop-saving-test.false))
    ∙ ap (λ l. map save_line savings ++ l ∷ []) (c.in_ok-saves_line.ensures ∙ ap (λ n. saves_line n (length savings)) c.saved_among.ensures)
