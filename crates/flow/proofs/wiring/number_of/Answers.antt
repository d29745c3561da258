use Rattle.flow.proofs.Numbers.{number_searched, number_of_return}
use Rattle.flow.proofs.wiring.number_of.Goals as goal

pub returns-in-Start : goal.returns-in-Start
returns-in-Start c =
    rw (c.in-Start.is, c.ok.ensures.value)
    (number_searched c.args.program.now c.requires c.in-Start.at c.binary_search.result (rw c.starts.ensures at c.binary_search.ensures.position))

pub returns-in-Return : goal.returns-in-Return
returns-in-Return c = rw (c.in-Return.is, c.starts-in-Return.ensures) (number_of_return c.args.program.now)
