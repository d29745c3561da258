use Rattle.std.proofs.Common.{◌≡◌, Ok, true, false, refl, sym, ap, ◌∙◌, subst}
use Rattle.dialogue.specs.declared.request.Request.{Request}
use Rattle.dialogue.specs.declared.request.Event.{Event}
use Rattle.dialogue.specs.Shape.{request_of}
use Rattle.dialogue.specs.Fits.{fits, fits_event}
use Rattle.cpu80_tagged.specs.State.{State80}
use Rattle.cpu80_tagged.specs.Call.{is_place, seen_by_tagged}
use Rattle.cpu80_tagged.specs.Step.{replied80}
use Rattle.cpu80_tagged.specs.Sight.{closed_in}
use Rattle.cpu80_tagged.specs.ProcessorState.{tagged_state, tagged_shape, waits}
use Rattle.cpu80_tagged.specs.Machine.{IsPhase, IsCalling, IsMachineOf}
use Rattle.cpu80_tagged.proofs.Steps.{runs_on}
use Rattle.cpu80_tagged.proofs.Replied.{of_call, same_shape, asked_shape, fits_by, fits_within, return_place, taken_by, replied}
use Rattle.cpu80_tagged.proofs.processor.Cpu80.reply_to_call.Goals as goal

pub returns-in_default : goal.returns-in_default
returns-in_default c p h =
    let w : IsCalling p (tagged_state c.args.self.now) c.args.back = subst (IsPhase p (tagged_state c.args.self.now)) c.requires h.phase in
    absurd (c.in_default.not-Ok w.shape (c.shape.ensures ∙ same_shape p c.args.self.now c.args.back.is_popped h.uses ∙ w.given))

pub returns-then-not-fits : goal.returns-then-not-fits
returns-then-not-fits c p h =
    let w : IsCalling p (tagged_state c.args.self.now) c.args.back = subst (IsPhase p (tagged_state c.args.self.now)) c.requires h.phase in
    let shape : tagged_shape c.args.self.now c.args.back.is_popped ≡ Ok c.in-Ok.shape = sym c.shape.ensures ∙ c.in-Ok.is in
    let request : Request = record { shape = c.in-Ok.shape; blocks = c.from_vec.result } in
    let q : Request = request_of w.shape (seen_by_tagged p (tagged_state c.args.self.now) c.args.back.is_popped) in
    let misfit : fits q c.args.reply.now ≡ false = fits_by q request c.args.reply.now (sym (asked_shape p c.args.self.now c.args.back c.in-Ok.shape q h.uses w shape w.asked)) ∙ sym c.fits.ensures ∙ c.if-not-fits.true in
    (refl, λ on. of_call p (tagged_state c.args.self.now) c.args.back w (λ (e : Event). fits_event e c.args.reply.now ≡ false) misfit)

pub take-requires-clause-within : goal.take-requires-clause-within
take-requires-clause-within c =
    let shape : tagged_shape c.args.self.now c.args.back.is_popped ≡ Ok c.in-Ok.shape = sym c.shape.ensures ∙ c.in-Ok.is in
    let request : Request = record { shape = c.in-Ok.shape; blocks = c.from_vec.result } in
    fits_within c.args.self.now c.args.back.is_popped c.in-Ok.shape request c.args.reply.now shape refl (sym c.fits.ensures ∙ c.if-not-fits.false)

pub returns : goal.returns
returns c p h =
    let before = tagged_state c.args.self.now in
    let kept = c.args.back in
    let w : IsCalling p (tagged_state c.args.self.now) c.args.back = subst (IsPhase p (tagged_state c.args.self.now)) c.requires h.phase in
    let shape : tagged_shape c.args.self.now c.args.back.is_popped ≡ Ok c.in-Ok.shape = sym c.shape.ensures ∙ c.in-Ok.is in
    let request : Request = record { shape = c.in-Ok.shape; blocks = c.from_vec.result } in
    let fit : fits request c.args.reply.now ≡ true = sym c.fits.ensures ∙ c.if-not-fits.false in
    let place : is_place p c.take.new.self.place ≡ true = subst (λ q. is_place p q ≡ true) (sym (ap (λ (s : State80). s.place) c.take.ensures.state)) (return_place p before kept w.back) in
    let q : Request = request_of w.shape (seen_by_tagged p before kept.is_popped) in
    let same : request.shape ≡ q.shape = asked_shape p c.args.self.now kept c.in-Ok.shape q h.uses w shape w.asked in
    let machine : IsMachineOf p c.take.new.self = runs_on p c.args.self.now.uses.items c.take.new.self h.uses c.take.ensures.uses c.take.ensures.phase place in (
      ap waits c.requires,
      ap waits c.take.ensures.phase,
      machine,
      of_call p before kept w (λ (e : Event). (fits_event e c.args.reply.now ≡ true) × (tagged_state c.take.new.self ≡ replied80 p before e c.args.reply.now)) (
        fits_by q request c.args.reply.now (sym same) ∙ fit,
        c.take.ensures.state
            ∙ taken_by (closed_in c.args.self.now.uses.items) before kept request q c.args.reply.now same
            ∙ replied p c.args.self.now kept q c.args.reply.now h.uses w,
      ),
    )
