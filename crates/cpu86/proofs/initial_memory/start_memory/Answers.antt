use Rattle.std.proofs.lemmas.List.{at_drop_all}
use Rattle.std.proofs.Common.{ap, ◌∙◌, sym}
use Rattle.dialogue.specs.ByteMemory.{put_cells}
use Rattle.cpu86.specs.ProcessorState.{memory_of_86}
use Rattle.dialogue.proofs.ByteMemory.{put_cells_more}
use Rattle.cpu86.proofs.initial_memory.start_memory.Goals as goal

pub loop-at-init : goal.loop-at-init
loop-at-init c = ap (λ m. put_cells m c.args.cells.now) c.in_ok-memory.ensures

pub loop-at-preserved : goal.loop-at-preserved
loop-at-preserved c =
    put_cells_more (memory_of_86 c.loop-at.memory) (memory_of_86 c.set.new.self) c.args.cells.now c.loop-at.at-index (0, 0) c.loop-at-test.true c.set.ensures
    ∙ c.loop-at.invariant

pub returns : goal.returns
returns c = sym (at_drop_all (put_cells (memory_of_86 c.loop-at.memory)) c.args.cells.now c.loop-at.at-index c.loop-at-test.false) ∙ c.loop-at.invariant
