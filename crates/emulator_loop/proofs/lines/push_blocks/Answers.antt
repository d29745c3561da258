use Rattle.std.proofs.Common.{◌+◌, ◌++◌, drop, get_or, sym, ap, ◌∙◌, append_assoc}
use Rattle.std.proofs.lemmas.List.{at_drop_more, at_drop_all, append-nil}
use Rattle.dialogue.specs.declared.blocks.Block.{Block}
use Rattle.emulator_loop.specs.Lines.{blocks_text, bytes_text}
use Rattle.emulator_loop.proofs.lines.push_blocks.Goals as goal

pub loop-block-preserved : goal.loop-block-preserved
loop-block-preserved c =
    let blocks = c.args.blocks.now in
    let i = c.loop-block.block-index in
    let d = c.block-item.result in
    let line = c.loop-block.line.items in
    let rest = blocks_text (drop (i + 1) blocks) in
    let here = (get_or blocks i d).bytes in
    ap (λ l. l ++ rest) (c.in_ok-push_block.ensures ∙ ap (λ bytes. line ++ bytes_text bytes) (c.as_slice.ensures ∙ ap (λ (b : Block). b.bytes) c.block-item.is))
    ∙ append_assoc line (bytes_text here) rest
    ∙ ap (λ text. line ++ text) (sym (at_drop_more blocks_text blocks i d c.loop-block-test.true))
    ∙ c.loop-block.invariant

pub returns : goal.returns
returns c =
    let line = c.loop-block.line.items in
    sym (append-nil line) ∙ ap (λ text. line ++ text) (sym (at_drop_all blocks_text c.args.blocks.now c.loop-block.block-index c.loop-block-test.false)) ∙ c.loop-block.invariant
