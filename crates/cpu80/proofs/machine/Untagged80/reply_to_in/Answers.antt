use Rattle.std.proofs.Common.{◌∙◌, ap, refl, subst, sym}
use Rattle.dialogue.specs.declared.request.Event.TheVariants.{In}
use Rattle.cpu80.specs.Back.{back_of}
use Rattle.cpu80.specs.ProcessorState.{untagged_state}
use Rattle.cpu80.specs.Standing.{said_by, Keeps}
use Rattle.cpu80.specs.Step.{return_at}
use Rattle.cpu80.proofs.Replying.{not_taken, taken_by}
use Rattle.cpu80.proofs.machine.Untagged80.reply_to_in.Goals as goal

pub returns-then-not-fits_event : goal.returns-then-not-fits_event
returns-then-not-fits_event c =
    let u = untagged_state c.args.self.now.processor in
    record {
      reply = λ fetch choice of.
          not_taken fetch u (In c.args.port) c.args.reply.now choice c.args.self.now.pending (ap (λ p. said_by p u.mem) c.requires) (sym c.fits_event.ensures ∙ c.if-not-fits_event.true);
      machine = λ fetch of. of;
    }

pub returns : goal.returns
returns c =
    let u = untagged_state c.args.self.now.processor in
    record {
      reply = λ fetch choice of.
          taken_by fetch u (In c.args.port) c.args.reply.now choice c.args.self.now.pending (back_of c.args.back) _ (ap (λ p. said_by p u.mem) c.requires)
          (subst (λ p. Keeps (return_at fetch u u.place) u u p) c.requires of).0 (sym c.fits_event.ensures ∙ c.if-not-fits_event.false) refl;
      machine = λ fetch of. tt;
    }
