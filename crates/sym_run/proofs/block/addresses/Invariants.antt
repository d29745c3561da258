use Rattle.std.proofs.Common.{◌≡◌, ◌-◌, length, take}
use Rattle.sym_run.proofs.Addresses.{Filled}
use Rattle.sym_run.proofs.block.addresses.Given as goal

abbrev pub invariant-loop-done : goal.invariant-loop-done
invariant-loop-done l = (length l.addresses ≡ 16) × Filled l.program l.first l.count l.at (l.count - l.done) (take l.done l.addresses)
