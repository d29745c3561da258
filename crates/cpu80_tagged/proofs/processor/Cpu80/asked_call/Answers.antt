use Rattle.std.proofs.Common.{◌≡◌, Ok, Err, sym, ap, ◌∙◌, subst}
use Rattle.dialogue.specs.Shape.{request_of}
use Rattle.cpu80_tagged.specs.ProcessorState.{tagged_state, tagged_shape, waits}
use Rattle.cpu80_tagged.specs.Machine.{IsPhase, IsCalling}
use Rattle.cpu80_tagged.proofs.Replied.{asked_is, no_shape}
use Rattle.cpu80_tagged.proofs.processor.Cpu80.asked_call.Goals as goal

pub returns-in_ok-request-in-Ok : goal.returns-in_ok-request-in-Ok
returns-in_ok-request-in-Ok c p h =
    let w : IsCalling p (tagged_state c.args.self.now) c.args.back = subst (IsPhase p (tagged_state c.args.self.now)) c.requires h.phase in
    let shape : tagged_shape c.args.self.now c.args.back.is_popped ≡ Ok c.in-Ok.shape = sym c.shape.ensures ∙ c.in-Ok.is in
    (ap waits c.requires, asked_is p c.args.self.now c.args.back c.in-Ok.shape _ h.uses w shape (c.in_ok-request-in-Ok.ensures.request ∙ ap (request_of c.in-Ok.shape) c.sight.ensures) c.in_ok-request-in-Ok.ensures.lawful)

pub returns-in-Err : goal.returns-in-Err
returns-in-Err c p h =
    let w : IsCalling p (tagged_state c.args.self.now) c.args.back = subst (IsPhase p (tagged_state c.args.self.now)) c.requires h.phase in
    let shape : tagged_shape c.args.self.now c.args.back.is_popped ≡ Err c.in-Err.field-0 = sym c.shape.ensures ∙ c.in-Err.is in
    absurd (no_shape p c.args.self.now c.args.back c.in-Err.field-0 h.uses w shape)
