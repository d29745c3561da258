use Rattle.std.proofs.Common.{◌≡◌, ◌∙◌, sym, ap, map, List, Option}
use Rattle.asm80_types.specs.declared.arg.Arg.{Arg}
use Rattle.asm80_types.specs.Tree.{operand_of, statement_of}
use Rattle.asm80_source_def.specs.declared.operation.Operation.{Operation}
use Rattle.asm80_source_def.specs.Values.{Scope}
use Rattle.asm80_source_def.specs.Walk.{address_by, directive_meaning, operand_meaning, scope}
use Rattle.asm80_first_walk.specs.State.{walk_of}
use Rattle.asm80_first_walk.proofs.Stepping.{takes_through}
use Rattle.asm80_first_walk.proofs.walker.Walker.take.Goals as goal

pub returns : goal.returns
returns c =
    let s = statement_of c.args.statement.now in
    let w = walk_of c.args.self.now in
    let args = ap (λ (xs : List Arg). map operand_of xs) c.as_slice-args.ensures in
    let meaning : c.operand_meaning-meaning.result ≡ directive_meaning w s = c.operand_meaning-meaning.ensures ∙ ap (λ (x : Scope). operand_meaning x (map operand_of c.as_slice-args.result.now)) c.scope-scope.ensures.value ∙ ap (operand_meaning (scope w)) args in
    let next = c.address_after.ensures w s (sym c.scope-scope.ensures.here) (sym meaning) (sym args) ∙ ap (λ (o : Option Operation). address_by w s o) c.requires.operation in
    takes_through c.args.index s c.args.self.now c.keep.new.self c.define.new.self c.nest.new.self c.note.new.self c.go_to.new.self c.args.operation
    c.or-rule.result c.rule_above-rule_above.result c.rule_at_end.result c.operand_meaning-meaning.result c.address_after.result
    c.requires.operation c.requires.taken meaning next c.or-rule.ensures c.rule_above-rule_above.ensures
    (rw args at c.rule_at_end.ensures)
    (rw c.scope-scope.ensures.here at c.in_ok-keep.ensures)
    c.in_ok-define.ensures
    (rw c.is_true.ensures at c.in_ok-nest.ensures)
    c.note.ensures c.go_to.ensures
