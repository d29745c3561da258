use Rattle.std.proofs.Common.{◌≡◌, drop}
use Rattle.std.specs.List.{list_any}
use Rattle.asm80_types.specs.declared.arg.Arg.{Arg}
use Rattle.asm80_types.specs.Tree.{operand_of}
use Rattle.asm80_first_walk.specs.Scopes.{scope_of}
use Rattle.asm80_source_def.specs.Values.{operand_divides_by_zero}
use Rattle.asm80_first_walk.proofs.directives.some_divides_by_zero.Given as goal

abbrev pub invariant-loop-arg : goal.invariant-loop-arg
invariant-loop-arg l =
    list_any (λ (a : Arg). operand_divides_by_zero (scope_of l.scope) (operand_of a)) (drop l.arg-index l.args)
    ≡ list_any (λ (a : Arg). operand_divides_by_zero (scope_of l.scope) (operand_of a)) l.args
