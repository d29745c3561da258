use Rattle.std.proofs.Common.{sym, ap, ◌∙◌}
use Rattle.asm80_types.specs.declared.arg.Arg.{Arg}
use Rattle.asm80_types.specs.Tree.{operand_of}
use Rattle.asm80_first_walk.specs.Scopes.{scope_of}
use Rattle.asm80_source_def.specs.Values.{operand_has_unknown}
use Rattle.asm80_first_walk.proofs.Lists.{any_here, any_later, any_nowhere}
use Rattle.asm80_first_walk.proofs.directives.some_has_unknown.Goals as goal

pub returns-then-operand_has_unknown : goal.returns-then-operand_has_unknown
returns-then-operand_has_unknown c =
    let test = (λ (a : Arg). operand_has_unknown (scope_of c.args.scope.now) (operand_of a)) in
    any_here test c.args.args.now c.loop-arg.arg-index c.arg-item.result c.loop-arg-test.true c.loop-arg.invariant (ap test (sym c.arg-item.is) ∙ sym c.operand_has_unknown.ensures ∙ c.if-operand_has_unknown.true)

pub loop-arg-preserved : goal.loop-arg-preserved
loop-arg-preserved c =
    let test = (λ (a : Arg). operand_has_unknown (scope_of c.args.scope.now) (operand_of a)) in
    any_later test c.args.args.now c.loop-arg.arg-index c.arg-item.result c.loop-arg-test.true c.loop-arg.invariant (ap test (sym c.arg-item.is) ∙ sym c.operand_has_unknown.ensures ∙ c.if-operand_has_unknown.false)

pub returns : goal.returns
returns c = any_nowhere (λ (a : Arg). operand_has_unknown (scope_of c.args.scope.now) (operand_of a)) c.args.args.now c.loop-arg.arg-index c.loop-arg-test.false c.loop-arg.invariant
