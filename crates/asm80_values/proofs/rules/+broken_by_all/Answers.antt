use Rattle.asm80_first_walk.specs.Scopes.{scope_of}
use Rattle.std.proofs.Common.{◌&&◌, sym, ◌∙◌}
use Rattle.asm80_types.specs.Tree.{Operand, operand_of}
use Rattle.asm80_source_def.specs.declared.operation.Kind.{Kind}
use Rattle.asm80_source_def.specs.Operands.{is_value_kind, is_unfit}
use Rattle.asm80_source_def.specs.Values.{operand_has_unknown, operand_divides_by_zero}
use Rattle.asm80_values.proofs.ByKind.{kinds_more, kind_fails, later_fail, no_kinds, no_operands, value_more, any_none, value_same, any_more, any_same, no_unfit}
use Rattle.asm80_values.proofs.rules.+broken_by_all.Goals as goal

pub returns-then-is_value_kind : goal.returns-then-is_value_kind
returns-then-is_value_kind g c =
    record {
      kinds = kinds_more c.args.kinds.now c.args.args.now _ _ _ _ c.in-Some.ensures.cases.0 c.in_ok-arg.ensures.cases.0 c.if-not-is_of_kind.ensures c.in_ok-rest.ensures.kinds;
      unknown = value_more c.args.kinds.now c.args.args.now _ _ _ _ c.in-Some.ensures.cases.0 c.in_ok-arg.ensures.cases.0 (operand_has_unknown (scope_of c.args.scope.now)) _ _ _ c.if-is_value_kind.ensures c.or.ensures.unknown c.broken_by.ensures.unknown c.in_ok-rest.ensures.unknown;
      zero = value_more c.args.kinds.now c.args.args.now _ _ _ _ c.in-Some.ensures.cases.0 c.in_ok-arg.ensures.cases.0 (operand_divides_by_zero (scope_of c.args.scope.now)) _ _ _ c.if-is_value_kind.ensures c.or.ensures.zero c.broken_by.ensures.zero c.in_ok-rest.ensures.zero;
      unfit = any_more c.args.kinds.now c.args.args.now _ _ _ _ c.in-Some.ensures.cases.0 c.in_ok-arg.ensures.cases.0 (is_unfit (scope_of c.args.scope.now)) _ _ _ c.or.ensures.unfit c.broken_by.ensures.unfit c.in_ok-rest.ensures.unfit;
    }

pub returns-else-is_value_kind : goal.returns-else-is_value_kind
returns-else-is_value_kind g c =
    record {
      kinds = kinds_more c.args.kinds.now c.args.args.now _ _ _ _ c.in-Some.ensures.cases.0 c.in_ok-arg.ensures.cases.0 c.if-not-is_of_kind.ensures c.in_ok-rest.ensures.kinds;
      unknown = value_same c.args.kinds.now c.args.args.now _ _ _ _ c.in-Some.ensures.cases.0 c.in_ok-arg.ensures.cases.0 (operand_has_unknown (scope_of c.args.scope.now)) _ c.if-is_value_kind.ensures c.in_ok-rest.ensures.unknown;
      zero = value_same c.args.kinds.now c.args.args.now _ _ _ _ c.in-Some.ensures.cases.0 c.in_ok-arg.ensures.cases.0 (operand_divides_by_zero (scope_of c.args.scope.now)) _ c.if-is_value_kind.ensures c.in_ok-rest.ensures.zero;
      unfit = any_same c.args.kinds.now c.args.args.now _ _ _ _ c.in-Some.ensures.cases.0 c.in_ok-arg.ensures.cases.0 (is_unfit (scope_of c.args.scope.now)) _ (no_unfit (scope_of c.args.scope.now) c.in-Some.kind.now (operand_of c.in_ok-arg.arg.now) c.if-is_value_kind.ensures) c.in_ok-rest.ensures.unfit;
    }

pub returns-then-is_empty : goal.returns-then-is_empty
returns-then-is_empty g c =
    record {
      kinds = no_kinds c.args.kinds.now c.args.args.now _ c.in_default.ensures.cases (sym c.is_empty.ensures ∙ c.if-is_empty.true);
      unknown = any_none (λ (y : Kind × Operand). is_value_kind y.0 && operand_has_unknown (scope_of c.args.scope.now) y.1) c.args.kinds.now c.args.args.now c.in_default.ensures.cases;
      zero = any_none (λ (y : Kind × Operand). is_value_kind y.0 && operand_divides_by_zero (scope_of c.args.scope.now) y.1) c.args.kinds.now c.args.args.now c.in_default.ensures.cases;
      unfit = any_none (is_unfit (scope_of c.args.scope.now)) c.args.kinds.now c.args.args.now c.in_default.ensures.cases;
    }

pub returns-in_err-arg : goal.returns-in_err-arg
returns-in_err-arg g c = rw c.from_residual.ensures (record { kinds = no_operands c.args.kinds.now c.args.args.now _ _ c.in-Some.ensures.cases.0 c.in_err-arg.ensures.cases; unknown = tt; zero = tt; unfit = tt })

pub returns-then-not-is_of_kind : goal.returns-then-not-is_of_kind
returns-then-not-is_of_kind g c = record {
  kinds = kind_fails c.args.kinds.now c.args.args.now _ _ _ _ c.in-Some.ensures.cases.0 c.in_ok-arg.ensures.cases.0 c.if-not-is_of_kind.ensures;
  unknown = tt;
  zero = tt;
  unfit = tt;
}

pub returns-in_err-rest : goal.returns-in_err-rest
returns-in_err-rest g c = rw c.from_residual-in_err-rest.ensures (record {
  kinds = later_fail c.args.kinds.now c.args.args.now _ _ _ _ c.in-Some.ensures.cases.0 c.in_ok-arg.ensures.cases.0 c.if-not-is_of_kind.ensures c.in_err-rest.ensures.kinds;
  unknown = tt;
  zero = tt;
  unfit = tt;
})

pub returns-else-is_empty : goal.returns-else-is_empty
returns-else-is_empty g c = record { kinds = no_kinds c.args.kinds.now c.args.args.now _ c.in_default.ensures.cases (sym c.is_empty.ensures ∙ c.if-is_empty.false); unknown = tt; zero = tt; unfit = tt }
