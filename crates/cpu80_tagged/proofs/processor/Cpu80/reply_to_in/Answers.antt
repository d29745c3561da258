use Rattle.std.proofs.Common.{refl, sym, ap, ◌∙◌, subst}
use Rattle.dialogue.specs.declared.request.Event.{Event}
use Rattle.dialogue.specs.declared.request.Event.TheVariants.{In}
use Rattle.cpu80_tagged.specs.ProcessorState.{tagged_state, waits}
use Rattle.cpu80_tagged.specs.Machine.{IsPhase, IsAtPort}
use Rattle.cpu80_tagged.proofs.Replied.{port_refused, port_taken}
use Rattle.cpu80_tagged.proofs.processor.Cpu80.reply_to_in.Goals as goal

pub returns-then-not-fits_event : goal.returns-then-not-fits_event
returns-then-not-fits_event c p h =
    let e : Event = In c.args.port in
    let w : IsAtPort p (tagged_state c.args.self.now) c.args.back e = subst (IsPhase p (tagged_state c.args.self.now)) c.requires h.phase in
    port_refused p c.args.self.now c.args.back e c.args.reply.now w (sym c.fits_event.ensures ∙ c.if-not-fits_event.true)

pub returns : goal.returns
returns c p h =
    let e : Event = In c.args.port in
    let w : IsAtPort p (tagged_state c.args.self.now) c.args.back e = subst (IsPhase p (tagged_state c.args.self.now)) c.requires h.phase in
    port_taken p c.args.self.now _ c.args.back e c.args.reply.now h.uses (ap waits c.requires) w (sym c.fits_event.ensures ∙ c.if-not-fits_event.false) refl refl refl refl
