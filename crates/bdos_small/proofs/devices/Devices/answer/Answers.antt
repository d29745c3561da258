use Rattle.std.proofs.Common.{sym, subst}
use Rattle.dialogue.specs.declared.request.Event.{Event}
use Rattle.bdos_small.specs.Events.{FitsEvent}
use Rattle.bdos_small.proofs.devices.Devices.answer.Goals as goal

pub returns-in-In-clause-fits : goal.returns-in-In-clause-fits
returns-in-In-clause-fits c =
    subst (λ (e : Event). FitsEvent e c.read_port.result) (sym c.in-In.is) (c.read_port.ensures.fits c.in-In.field-0)
