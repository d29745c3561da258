use Rattle.std.proofs.Common.{◌∙◌}
use Rattle.std.proofs.lemmas.Result.{IfOk-from_err}
use Rattle.cpu80.specs.ProcessorState.{untagged_memory}
use Rattle.dialogue.proofs.ByteMemory.{put_cells_more}
use Rattle.i80_bytes.proofs.start.with_cells.Goals as goal

pub returns-in_err-from_slice : goal.returns-in_err-from_slice
returns-in_err-from_slice c = IfOk-from_err c.from_residual.result _ c.from_residual.ensures.0

pub loop-at-preserved : goal.loop-at-preserved
loop-at-preserved c =
    put_cells_more (untagged_memory c.loop-at.memory) (untagged_memory c.set.new.self) c.args.cells.now c.loop-at.at-index (0, 0) c.loop-at-test.true c.set.ensures
    ∙ c.loop-at.invariant
