use Rattle.std.proofs.Common.{◌≡◌, drop}
use Rattle.cpu80_tagged.specs.Call.{put_blocks}
use Rattle.cpu80_tagged.specs.Draft.{memory_of}
use Rattle.cpu80_tagged.proofs.memory.put_blocks.Given as goal

abbrev pub invariant-loop-block : goal.invariant-loop-block
invariant-loop-block l = put_blocks (memory_of l.memory) (drop l.block-index l.blocks) ≡ put_blocks (memory_of l.fn.memory) l.blocks
