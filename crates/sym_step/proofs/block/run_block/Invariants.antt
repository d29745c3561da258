use Rattle.std.proofs.Common.{◌+◌, ◌-◌, ◌*◌, Some}
use Rattle.sym_micro.specs.Machine.{as80}
use Rattle.sym_micro.specs.Stands.{Runs}
use Rattle.sym_step.proofs.Blocks.{Left}
use Rattle.sym_step.proofs.block.run_block.Given as goal

abbrev pub invariant-loop-done : goal.invariant-loop-done
invariant-loop-done l =
    Runs l.fn.terms l.terms l.run (16 + 24 * (l._done - 1)) (2 * (l._done - 1)) (λ m. Left l.program l.first l.count l.at (l.count - (l._done - 1)) (as80 m)) (Some tt)
