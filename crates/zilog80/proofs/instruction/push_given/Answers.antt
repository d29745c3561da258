use Rattle.std.proofs.Common.{◌++◌, List, map, ap, ◌∙◌}
use Rattle.std.proofs.lemmas.List.{map-append}
use Rattle.asm80_types.specs.Tree.{Operand, operand_of}
use Rattle.zilog80.specs.Operands.{operands}
use Rattle.zilog80.specs.Read.{class_of, given_by, spelt_of}
use Rattle.zilog80.proofs.Reading.{given_pushed}
use Rattle.zilog80.proofs.instruction.push_given.Goals as goal

pub returns-in_ok-push : goal.returns-in_ok-push
returns-in_ok-push c =
    given_pushed (operands (class_of c.args.class) (spelt_of c.args.operand)) (given_by (spelt_of c.args.operand) c.in-Some.given) _ _ c.in-Some.ensures
    (ap (map operand_of) c.in_ok-push.ensures.items ∙ map-append operand_of c.args.args.now.items _ ∙ ap (λ (xs : List Operand). map operand_of c.args.args.now.items ++ xs) c.in-Some-value_of.ensures)
