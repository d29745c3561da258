use Rattle.std.proofs.Common.{Some, sym, ap, ◌∙◌}
use Rattle.bdos_small.specs.Small.{Answered, small_answer}
use Rattle.bdos_small.specs.declared.devices.EventAnswer.{EventAnswer}
use Rattle.bdos_small.specs.Supply.{Supply, supply_of}
use Rattle.bdos_small.specs.Events.{EventAnswered, called}
use Rattle.bdos_small.proofs.devices.Devices.call.Goals as goal

pub returns-clause-answer : goal.returns-clause-answer
returns-clause-answer c =
    let q = c.args.request.now in
    let f = q.shape.function in
    let ports = c.self.inside.ports in
    let with_left : EventAnswer → EventAnswered = λ e. record { answer = e; left = supply_of c.answer.new.self ports } in
    ap (λ (s : Supply). Some (called f s.ports (small_answer s.system q))) (sym c.self.view_is)
    ∙ ap (λ (x : Answered). Some (called f ports x)) (sym c.in_ok-answer.ensures.answer)
    ∙ ap (λ e. Some (with_left e)) (sym c.of_system.ensures.answer)
