use Rattle.std.proofs.Common.{arith}
use Rattle.cmd_runs.specs.Supplies.{fill_by}
use Rattle.cmd_runs.proofs.supplies.fill_of.Goals as goal

pub returns-clause-items : goal.returns-clause-items
unfolding fill_by
returns-clause-items c = c.in_ok-fill.ensures.items_if_clones_equal (λ y h. h)

pub returns-clause-len : goal.returns-clause-len
returns-clause-len c = let e = c.in_ok-fill.fill.ok in let l = c.in_ok-fill.ensures.len in omega (arith, e, l)
