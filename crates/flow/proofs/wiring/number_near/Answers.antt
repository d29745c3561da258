use Rattle.std.proofs.Common.{◌<◌, get_or, length, ap, subst, sym, ◌∙◌}
use Rattle.std.proofs.lemmas.Bool.{ltb-true}
use Rattle.std.proofs.lemmas.List.{get_or_default}
use Rattle.asm80_types.specs.Program.{starts}
use Rattle.flow.proofs.Numbers.{number_of_start}
use Rattle.flow.proofs.wiring.number_near.Goals as goal

pub returns-in-Some : goal.returns-in-Some
returns-in-Some c =
    let p = c.args.program.now in
    let near = c.args.near in
    let start = c.in-Some.start.now in
    let within = subst (λ xs. near < length xs) c.starts.ensures (ltb-true _ _ (sym c.in-Some.ensures.lookup.0)) in
    let stands = ap (λ xs. get_or xs near start) (sym c.starts.ensures) ∙ sym c.in-Some.ensures.lookup.1 ∙ c.if-start-at.true in
    rw c.in-Start.is (number_of_start p near c.in-Start.at within (get_or_default (starts p) near 0 start within ∙ stands))
