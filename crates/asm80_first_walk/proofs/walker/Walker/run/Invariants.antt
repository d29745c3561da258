use Rattle.std.proofs.Common.{map, drop}
use Rattle.asm80_types.specs.Tree.{statement_of}
use Rattle.asm80_first_walk.proofs.Reaching.{Reaches}
use Rattle.asm80_first_walk.proofs.walker.Walker.run.Given as goal

abbrev pub invariant-loop-index : goal.invariant-loop-index
invariant-loop-index l = Reaches l.statements l.self (drop l.index (map statement_of l.statements))
