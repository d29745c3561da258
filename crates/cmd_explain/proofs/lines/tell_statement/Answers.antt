use Rattle.std.proofs.Common.{◌∙◌, ◌-◌, [], ◌∷◌, ◌++◌, length, map, take, sym, ap, append_assoc}
use Rattle.std.proofs.lemmas.List.{map_more, take_all}
use Rattle.cmd_explain.specs.Lines.{blank_for_tab, without_first_tab}
use Rattle.cmd_explain.proofs.lines.tell_statement.Goals as goal

pub loop-byte-preserved : goal.loop-byte-preserved
loop-byte-preserved c =
    let old = c.args.told.now.items in
    let words = c.without_first_tab-byte-items.result.now in
    let i = c.loop-byte.byte-index in
    let before = map blank_for_tab (take i words) in
    let byte = c.blank_for_tab.result in
    c.in_ok-push.ensures.items
    ∙ ap (λ told. told ++ byte ∷ []) c.loop-byte.invariant
    ∙ append_assoc old before (byte ∷ [])
    ∙ ap (λ bytes. old ++ bytes) (ap (λ b. before ++ b ∷ []) c.blank_for_tab.ensures ∙ sym (map_more blank_for_tab words i 0 c.loop-byte-test.true))

pub returns : goal.returns
returns c =
    let old = c.args.told.now.items in
    let words = c.without_first_tab-byte-items.result.now in
    let line = c.as_slice-line.result.now in
    c.loop-byte.invariant
    ∙ ap (λ bytes. old ++ map blank_for_tab bytes)
    (take_all c.loop-byte.byte-index words c.loop-byte-test.false
    ∙ c.without_first_tab-byte-items.ensures
    ∙ ap (λ n. without_first_tab (take n line)) c.saturating_sub.ensures
    ∙ ap (λ l. without_first_tab (take (length l - 2) l)) (c.as_slice-line.ensures.value ∙ c.write_line-written.ensures.value))
