use Rattle.std.proofs.Common.{◌∙◌, sym, refl, ap}
use Rattle.asm80_types.specs.Tree.{statement_of}
use Rattle.asm80_source_def.specs.Walk.{is_end_directive}
use Rattle.asm80_first_walk.proofs.walker.Walker.step.Goals as goal

pub take-requires-clause-taken : goal.take-requires-clause-taken
take-requires-clause-taken c = sym (c.takes.ensures (statement_of c.args.statement.now) (sym c.operation_in-operation.ensures)) ∙ c.if-takes.true

pub skip-requires-clause-skipped : goal.skip-requires-clause-skipped
skip-requires-clause-skipped c = sym (c.takes.ensures (statement_of c.args.statement.now) (sym c.operation_in-operation.ensures)) ∙ c.if-takes.false

pub returns-in_ok-take-clause-ends : goal.returns-in_ok-take-clause-ends
returns-in_ok-take-clause-ends c =
    let taken = sym (c.takes.ensures (statement_of c.args.statement.now) (sym c.operation_in-operation.ensures)) ∙ c.if-takes.true in
    rw taken (c.is_end.ensures ∙ ap is_end_directive c.operation_in-operation.ensures)

pub returns-in_ok-skip-clause-ends : goal.returns-in_ok-skip-clause-ends
returns-in_ok-skip-clause-ends c =
    let taken = sym (c.takes.ensures (statement_of c.args.statement.now) (sym c.operation_in-operation.ensures)) ∙ c.if-takes.false in
    rw taken refl
