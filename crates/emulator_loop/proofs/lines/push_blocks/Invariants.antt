use Rattle.std.proofs.Common.{◌≡◌, ◌++◌, drop}
use Rattle.emulator_loop.specs.Lines.{blocks_text}
use Rattle.emulator_loop.proofs.lines.push_blocks.Given as goal

abbrev pub invariant-loop-block : goal.invariant-loop-block
invariant-loop-block l =
    l.line.items ++ blocks_text (drop l.block-index l.blocks) ≡ l.fn.line.items ++ blocks_text l.blocks
