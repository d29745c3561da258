use Rattle.std.proofs.Common.{ap, ◌∙◌, sym}
use Rattle.dialogue.specs.ByteMemory.{put_bytes}
use Rattle.cpu86.specs.State.{back}
use Rattle.cpu86.specs.ProcessorState.{state_of_86, memory_of_86, with_mem}
use Rattle.cpu86.proofs.Calls.{asked, odd, written_back}
use Rattle.cpu86.proofs.processor.Processor.interrupt.Goals as goal

pub returns-in-Some : goal.returns-in-Some
returns-in-Some c =
    asked (record (state_of_86 c.args.self.now) { ip = c.args.next }) c.args.choice (memory_of_86 c.spoil.new.self) c.in-Some.shape c.if-function-eq0.false c.spoil.ensures (sym c.in-Some.ensures)

pub returns-in-None : goal.returns-in-None
returns-in-None c = (odd (record (state_of_86 c.args.self.now) { ip = c.args.next }) c.args.choice (memory_of_86 c.spoil.new.self) c.if-function-eq0.false c.spoil.ensures (sym c.in-None.ensures), ap (with_mem (state_of_86 c.args.self.now)) (written_back (memory_of_86 c.args.self.now.memory) (memory_of_86 c.spoil.new.self) (memory_of_86 c.set_bytes.new.self) c.args.self.now.sp c.args.choice c.spoil.ensures (c.set_bytes.ensures ∙ ap (put_bytes (memory_of_86 c.spoil.new.self) (back c.args.self.now.sp 6)) c.six_at-before.ensures)))
