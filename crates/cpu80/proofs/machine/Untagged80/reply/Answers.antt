use Rattle.dialogue.proofs.Called.{taken}
use Rattle.cpu80.specs.ProcessorState.{untagged_state, untagged_memory}
use Rattle.cpu80.specs.Standing.{standing, said_by}
use Rattle.cpu80.specs.Step.{replied_untagged}
use Rattle.cpu80.proofs.machine.Untagged80.reply.Goals as goal

pub returns-in-Answer : goal.returns-in-Answer
returns-in-Answer c =
    let processor = c.args.self.now.processor in
    record {
      reply = c.reply_to_call.ensures.reply;
      taken = λ fetch e of said. taken (replied_untagged fetch) e c.args.reply.now c.args.choice (untagged_state processor) (standing c.reply_to_call.new.self) (said_by c.args.self.now.pending (untagged_memory processor.memory)) c.reply_to_call.result said (c.reply_to_call.ensures.reply fetch of);
      machine = c.reply_to_call.ensures.machine;
    }

pub returns-in-Byte : goal.returns-in-Byte
returns-in-Byte c =
    let processor = c.args.self.now.processor in
    record {
      reply = λ fetch of. c.reply_to_in.ensures.reply fetch c.args.choice of;
      taken = λ fetch e of said. taken (replied_untagged fetch) e c.args.reply.now c.args.choice (untagged_state processor) (standing c.reply_to_in.new.self) (said_by c.args.self.now.pending (untagged_memory processor.memory)) c.reply_to_in.result said (c.reply_to_in.ensures.reply fetch c.args.choice of);
      machine = c.reply_to_in.ensures.machine;
    }

pub returns-in-Taking : goal.returns-in-Taking
returns-in-Taking c =
    let processor = c.args.self.now.processor in
    record {
      reply = λ fetch of. c.reply_to_out.ensures.reply fetch c.args.choice of;
      taken = λ fetch e of said. taken (replied_untagged fetch) e c.args.reply.now c.args.choice (untagged_state processor) (standing c.reply_to_out.new.self) (said_by c.args.self.now.pending (untagged_memory processor.memory)) c.reply_to_out.result said (c.reply_to_out.ensures.reply fetch c.args.choice of);
      machine = c.reply_to_out.ensures.machine;
    }
