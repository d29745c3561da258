use Rattle.cpu86.specs.ProcessorState.{state_of_86, memory_of_86}
use Rattle.cpu86.specs.Standing.{standing, said_by}
use Rattle.dialogue.proofs.Called.{taken}
use Rattle.cpu86.specs.Call.{replied86}
use Rattle.cpu86.proofs.cpu.Cpu86.reply.Goals as goal

pub returns-in-Answer-clause-taken : goal.returns-in-Answer-clause-taken
returns-in-Answer-clause-taken c e said =
    let processor = c.args.self.now.processor in
    taken replied86 e c.args.reply.now c.args.choice (state_of_86 processor) (standing c.reply_to_call.new.self) (said_by c.args.self.now.pending (memory_of_86 processor.memory)) c.reply_to_call.result said c.reply_to_call.ensures.reply

pub returns-in-Byte-clause-taken : goal.returns-in-Byte-clause-taken
returns-in-Byte-clause-taken c e said =
    let processor = c.args.self.now.processor in
    taken replied86 e c.args.reply.now c.args.choice (state_of_86 processor) (standing c.reply_to_in.new.self) (said_by c.args.self.now.pending (memory_of_86 processor.memory)) c.reply_to_in.result said c.reply_to_in.ensures.reply

pub returns-in-Taking-clause-taken : goal.returns-in-Taking-clause-taken
returns-in-Taking-clause-taken c e said =
    let processor = c.args.self.now.processor in
    taken replied86 e c.args.reply.now c.args.choice (state_of_86 processor) (standing c.reply_to_out.new.self) (said_by c.args.self.now.pending (memory_of_86 processor.memory)) c.reply_to_out.result said c.reply_to_out.ensures.reply
