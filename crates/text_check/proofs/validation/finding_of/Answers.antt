use Rattle.std.proofs.Common.{◌∙◌, ◌≤◌, length, ap, subst, arith}
use Rattle.flow.specs.Blocks.{leaders}
use Rattle.text_check.proofs.Found.{few_leaders}
use Rattle.text_check.proofs.validation.finding_of.Goals as goal

pub overflow_cast-result : goal.overflow_cast-result
overflow_cast-result c =
    let few = few_leaders c.args.program.now c.leaders.result.now (c.leaders.ensures ∙ ap leaders c.requires) (subst (λ xs. length xs ≤ 65022) c.instrs-instrs.ensures.value c.instrs-instrs.ensures.few) in
    omega (arith, few)
