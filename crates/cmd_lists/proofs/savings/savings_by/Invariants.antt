use Rattle.std.proofs.Common.{take}
use Rattle.std.specs.Prelude.{filter}
use Rattle.asm80_types.specs.declared.program.Placed.{Placed}
use Rattle.flow.specs.Saves.{is_sum_at}
use Rattle.cmd_lists.specs.Saves.{AreSavings}
use Rattle.cmd_lists.proofs.savings.savings_by.Given as goal

abbrev pub invariant-loop-placed : goal.invariant-loop-placed
invariant-loop-placed l = AreSavings l.program (filter (λ (x : Placed). is_sum_at l.program x.at) (take l.placed-index l.placed-items)) l.savings.items
