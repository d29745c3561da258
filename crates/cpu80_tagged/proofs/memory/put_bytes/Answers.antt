use Rattle.std.proofs.Common.{◌∙◌, arith}
use Rattle.cpu80_tagged.proofs.Writes.{put_more}
use Rattle.cpu80_tagged.proofs.memory.put_bytes.Goals as goal

pub loop-k-preserved : goal.loop-k-preserved
loop-k-preserved c =
    put_more c.loop-k.memory c.args.bytes.now c.args.at c.loop-k.k (omega arith) (omega arith)
    ∙ c.loop-k.invariant
