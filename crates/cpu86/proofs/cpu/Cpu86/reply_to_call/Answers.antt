use Rattle.std.proofs.Common.{sym, ◌∙◌}
use Rattle.dialogue.specs.declared.request.Request.{Request}
use Rattle.dialogue.specs.declared.request.Event.TheVariants.{Call}
use Rattle.dialogue.specs.Shape.{request_of}
use Rattle.dialogue.specs.ByteMemory.{seen_by}
use Rattle.cpu86.specs.ProcessorState.{state_of_86, memory_of_86}
use Rattle.cpu86.proofs.Replies.{fits_same, said_call, not_taken}
use Rattle.cpu86.proofs.cpu.Cpu86.reply_to_call.Goals as goal

pub returns-then-not-fits-clause-reply : goal.returns-then-not-fits-clause-reply
returns-then-not-fits-clause-reply c =
    let processor = c.args.self.now.processor in
    let q : Request = request_of c.args.shape (seen_by (memory_of_86 processor.memory)) in
    not_taken (state_of_86 processor) c.args.self.now.pending (Call q) c.args.reply.now c.args.choice (said_call c.args.self.now.pending (memory_of_86 processor.memory) c.args.shape c.requires)
    (fits_same c.args.shape q.blocks c.from_vec.result c.args.reply.now ∙ sym c.fits.ensures ∙ c.if-not-fits.true)
