use Rattle.asm80_first_walk.specs.Scopes.{scope_of}
use Rattle.asm80_source_def.specs.Operands.{item_is_unfit}
use Rattle.asm80_source_def.specs.Values.{operand_has_unknown, operand_divides_by_zero}
use Rattle.asm80_values.proofs.ByKind.{item_more}
use Rattle.asm80_values.proofs.rules.+broken_by_items.Goals as goal

pub returns-clause-unknown : goal.returns-clause-unknown
returns-clause-unknown t c = item_more c.args.args.now _ _ c.in-Some.ensures.cases.0 (operand_has_unknown (scope_of c.args.scope.now)) _ _ _ c.or.ensures.unknown c.broken_by.ensures.unknown c.broken_by_items.ensures.unknown

pub returns-clause-zero : goal.returns-clause-zero
returns-clause-zero t c = item_more c.args.args.now _ _ c.in-Some.ensures.cases.0 (operand_divides_by_zero (scope_of c.args.scope.now)) _ _ _ c.or.ensures.zero c.broken_by.ensures.zero c.broken_by_items.ensures.zero

pub returns-clause-unfit : goal.returns-clause-unfit
returns-clause-unfit t c = item_more c.args.args.now _ _ c.in-Some.ensures.cases.0 (item_is_unfit (scope_of c.args.scope.now)) _ _ _ c.or.ensures.unfit c.broken_by.ensures.unfit c.broken_by_items.ensures.unfit
