use Rattle.std.proofs.Common.{Bool, true, None, sym, ap, ◌∙◌}
use Rattle.dialogue.specs.declared.request.Event.TheVariants.{In}
use Rattle.cpu86.specs.State.{State86}
use Rattle.cpu86.specs.ProcessorState.{state_of_86, memory_of_86}
use Rattle.dialogue.specs.Calls.{Standing}
use Rattle.cpu86.proofs.Replies.{said_in, is_taken}
use Rattle.cpu86.proofs.cpu.Cpu86.reply_to_in.Goals as goal

pub returns-clause-reply : goal.returns-clause-reply
returns-clause-reply c =
    let processor = c.args.self.now.processor in
    let answered : State86 → Bool × Standing State86 = λ s. (true, record { state = s; said = None }) in
    ap answered c.set8.ensures
    ∙ is_taken (state_of_86 processor) c.args.self.now.pending (In c.args.port) c.args.reply.now c.args.choice (said_in c.args.self.now.pending (memory_of_86 processor.memory) c.args.port c.requires) (sym c.fits_event.ensures ∙ c.if-not-fits_event.false)
